-- Two different answers never give the same number: from the number the answer is found again.
use Rattle.std.specs.Prelude.{ℕ, zero, suc, ◌≡◌, refl, [], ◌∷◌, get_or, ℤ, pos, negsuc, true, false, Some, None, Result, Ok, Err}
use Rattle.std.proofs.Common.{sym, ap, ◌∙◌}
use Rattle.refusal.specs.declared.Refusal.{Refusal}
use Rattle.refusal.specs.declared.Refusal.TheVariants.{BadSettings, TreeTooLong, BadFrame, TooDeep, BadKindOrOperator, BadField, BadOperand, TextTooLong, BufferTooShort, InputTooLong, BadRow, BadText, MissingColumn, ConstantOperands}
use Rattle.refusal.specs.Number.{number_of}
use Rattle.text.specs.Lowered as lowered
use Rattle.reduce.specs.Reducing as reduced
use Rattle.truth.specs.Reading.{Reading, says_true, says_false, says_unknown}
use Rattle.truth.specs.Reading as reading
use Rattle.capi.specs.Numbers.{minus, lowering_number, reading_number}

-- the refusal whose number is n + 1
abbrev refusal_at : ℕ → Refusal
refusal_at n =
    get_or
    (BadSettings ∷ TreeTooLong ∷ BadFrame ∷ TooDeep ∷ BadKindOrOperator ∷ BadField ∷ BadOperand ∷ TextTooLong ∷ BufferTooShort ∷ InputTooLong ∷ BadRow ∷ BadText ∷ MissingColumn ∷ [])
    n
    ConstantOperands

-- the answer of a number: `found` of one from 0 on, else the refusal
abbrev pub answer-by : {A : Type 0} → (ℕ → A) → (Refusal → A) → ℤ → A
answer-by found refuse (pos n) = found n
answer-by found refuse (negsuc n) = refuse (refusal_at n)

refused_back : {A : Type 0} (found : ℕ → A) (refuse : Refusal → A) (r : Refusal) → answer-by found refuse (minus (number_of r)) ≡ refuse r
refused_back f g BadSettings = refl
refused_back f g TreeTooLong = refl
refused_back f g BadFrame = refl
refused_back f g TooDeep = refl
refused_back f g BadKindOrOperator = refl
refused_back f g BadField = refl
refused_back f g BadOperand = refl
refused_back f g TextTooLong = refl
refused_back f g BufferTooShort = refl
refused_back f g InputTooLong = refl
refused_back f g BadRow = refl
refused_back f g BadText = refl
refused_back f g MissingColumn = refl
refused_back f g ConstantOperands = refl

-- of the three numbers from 0 on that reading answers
abbrev truth_by : ℕ → Reading
truth_by zero = says_false
truth_by (suc zero) = says_true
truth_by (suc (suc n)) = says_unknown

abbrev pub lowered_by : ℤ → Result ℕ Refusal
lowered_by (pos n) = Ok n
lowered_by (negsuc n) = Err (refusal_at n)

abbrev pub reduced_by : ℤ → Result ℕ Refusal
reduced_by = answer-by Ok Err

abbrev pub read_by : ℤ → Reading
read_by (pos zero) = says_false
read_by (pos (suc zero)) = says_true
read_by (pos (suc (suc n))) = says_unknown
read_by (negsuc n) = Err (refusal_at n)

pub lowered_back : (r : Result ℕ Refusal) → lowered_by (lowering_number (lowered.heard r)) ≡ r
lowered_back (Ok n) = refl
lowered_back (Err r) = refused_back Ok Err r

pub reduced_back : (r : Result ℕ Refusal) → reduced_by (lowering_number (reduced.heard r)) ≡ r
reduced_back (Ok n) = refl
reduced_back (Err r) = refused_back Ok Err r

pub read_back : (r : Reading) → read_by (reading_number (reading.heard r)) ≡ r
read_back (Ok (Some true)) = refl
read_back (Ok (Some false)) = refl
read_back (Ok None) = refl
read_back (Err r) = refused_back truth_by Err r

pub lowered_apart : (r s : Result ℕ Refusal) → lowering_number (lowered.heard r) ≡ lowering_number (lowered.heard s) → r ≡ s
lowered_apart r s e = sym (lowered_back r) ∙ ap lowered_by e ∙ lowered_back s

pub reduced_apart : (r s : Result ℕ Refusal) → lowering_number (reduced.heard r) ≡ lowering_number (reduced.heard s) → r ≡ s
reduced_apart r s e = sym (reduced_back r) ∙ ap reduced_by e ∙ reduced_back s

pub read_apart : (r s : Reading) → reading_number (reading.heard r) ≡ reading_number (reading.heard s) → r ≡ s
read_apart r s e = sym (read_back r) ∙ ap read_by e ∙ read_back s
