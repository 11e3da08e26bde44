-- Numbers that fit: a refusal's below zero, as an i32 and as an i64, and the length of a text or of a reduced tree.
use Prim.Native.Nat.{ℕ, zero, suc, ◌<◌, ◌≤◌}
use mathlib.Core.List.{List}
use mathlib.Core.Path.{◌≡◌, refl, sym, ap, ◌∙◌, subst}
use native.Mathlib.Omega.{arith}
use lib.ListN.{length}
use lib.IntN.{ℤ, pos, negsuc, nat_abs, ◌-ℤ◌}
use mir.Syntax.{w32, w64}
use mir.Val.{SFits, to_z, of_z}
use mir.Facts.{to_z_pos, to_z-of_z}
use borrow.Author.Tests.{lt-ltb}
use Rattle.std.specs.Prelude.{Result, Ok, Err}
use Rattle.refusal.specs.declared.Refusal.{Refusal}
use Rattle.refusal.specs.declared.Refusal.TheVariants.{BadSettings, TreeTooLong, BadFrame, TooDeep, BadKindOrOperator, BadField, BadOperand, TextTooLong, BufferTooShort, InputTooLong, BadRow, BadText, MissingColumn, ConstantOperands}
use Rattle.refusal.specs.Number.{number_of}
use Rattle.literal.specs.declared.Writing.{Writing}
use Rattle.tree.specs.declared.Limits.{Limits}
use Rattle.tree.specs.Limits.{planner}
use Rattle.tree.specs.Tree.{Bytes}
use Rattle.tree.specs.AcceptedLaws.{tree_is}
use Rattle.tree.specs.Parse.{Read, refused, got}
use Rattle.tree.specs.Written.{Heard, refusal}
use Rattle.text.specs.Lowered.{answer, heard, lowering_within}
use Rattle.text.specs.LoweredLaws.{given}
use Rattle.reduce.specs.Reducing as reducer
use Rattle.reduce.specs.Reducing.{reducing}
use Rattle.reduce.specs.ReducingLaws.{given as given-tree, reducing_short}
use Rattle.capi.specs.LengthWords.{length_of}
use Rattle.capi.specs.Numbers.{minus, lowering_number}

-- 0 less n
zero-less : (n : ℕ) → pos 0 -ℤ pos n ≡ minus n
zero-less zero = refl
zero-less (suc n) = simp (lt-ltb 0 (suc n) (omega arith)) (ap negsuc (omega arith))

pub negated : (n : ℕ) → n < 256 → pos 0 -ℤ to_z w32 n ≡ minus n
negated n h = ap (λ (z : ℤ). pos 0 -ℤ z) (to_z_pos w32 {n = n} (omega arith)) ∙ zero-less n

pub fits32 : (n : ℕ) → n < 256 → SFits w32 (minus n)
fits32 zero h = record { sfits = omega arith }
fits32 (suc n) h = record { sfits = omega arith }

pub fits64 : (n : ℕ) → n < 256 → SFits w64 (minus n)
fits64 zero h = record { sfits = omega arith }
fits64 (suc n) h = record { sfits = omega arith }

pub negated_fits : (n : ℕ) → n < 256 → SFits w32 (pos 0 -ℤ to_z w32 n)
negated_fits n h = subst (λ (z : ℤ). SFits w32 z) (sym (negated n h)) (fits32 n h)

-- a refusal's number below zero, read back from an i32, and from an i64 after that

module _ {z : ℤ} {n : ℕ} (e : z ≡ minus n) (h : n < 256) where
  pub back32 : to_z w32 (of_z w32 z) ≡ minus n
  back32 = ap (λ (z : ℤ). to_z w32 (of_z w32 z)) e ∙ to_z-of_z (fits32 n h)

  pub wide_fits : SFits w64 (to_z w32 (of_z w32 z))
  wide_fits = subst (λ (z : ℤ). SFits w64 z) (sym back32) (fits64 n h)

  pub back64 : to_z w64 (of_z w64 (to_z w32 (of_z w32 z))) ≡ minus n
  back64 = to_z-of_z wide_fits ∙ back32

-- no text that lowering answers is longer than the caller's limit
short : (limits : Limits) (w : Writing) (settings tree : List ℕ) (room : ℕ) → length_of (answer (lowering_within limits w settings tree room)) ≤ limits.text
unfolding answer
short limits w settings tree room = go (lowering_within limits w settings tree room) refl
  where
    go : (x : Read (List ℕ)) → lowering_within limits w settings tree room ≡ x → length_of (answer x) ≤ limits.text
    go (refused r) e = omega arith
    go (got x) e = (given limits w settings tree room x e).short

pub length-fits : (n : ℕ) → n ≤ 65535 → SFits w64 (pos n)
length-fits n h = record { sfits = omega arith }

pub length_back : (n : ℕ) → n ≤ 65535 → to_z w64 n ≡ pos n
length_back n h = to_z_pos w64 {n = n} (omega arith)

-- so the answer of each writing call and of each preview is short, be it the planner's or the controller's
pub short_answer : (limits : Limits) (w : Writing) (settings tree : List ℕ) (room : ℕ) {found : Result ℕ Refusal} → limits.text ≤ 65535 → found ≡ answer (lowering_within limits w settings tree room) → length_of found ≤ 65535
short_answer limits w settings tree room h e = subst (λ (l : Result ℕ Refusal). length_of l ≤ 65535) (sym e) (omega (arith, short limits w settings tree room))

-- a number of at most five digits, of either sign, fits
small-fits : (z : ℤ) → nat_abs z ≤ 65535 → SFits w64 z
small-fits (pos n) h = record { sfits = omega arith }
small-fits (negsuc n) h = record { sfits = omega arith }

refusal_small : (r : Refusal) → nat_abs (lowering_number (refusal (number_of r))) ≤ 65535
refusal_small BadSettings = omega arith
refusal_small TreeTooLong = omega arith
refusal_small BadFrame = omega arith
refusal_small TooDeep = omega arith
refusal_small BadKindOrOperator = omega arith
refusal_small BadField = omega arith
refusal_small BadOperand = omega arith
refusal_small TextTooLong = omega arith
refusal_small BufferTooShort = omega arith
refusal_small InputTooLong = omega arith
refusal_small BadRow = omega arith
refusal_small BadText = omega arith
refusal_small MissingColumn = omega arith
refusal_small ConstantOperands = omega arith

number_fits : (l : Result ℕ Refusal) → length_of l ≤ 65535 → SFits w64 (lowering_number (heard l))
number_fits (Ok n) h = length-fits n h
number_fits (Err r) h = small-fits (lowering_number (refusal (number_of r))) (refusal_small r)

-- the number of an answer, read back from an i64, is that of what is heard
pub said-back : (l : Result ℕ Refusal) {z : ℤ} {said : Heard} → z ≡ lowering_number (heard l) → heard l ≡ said → length_of l ≤ 65535 → to_z w64 (of_z w64 z) ≡ lowering_number said
said-back l e f h = ap (λ (z : ℤ). to_z w64 (of_z w64 z)) e ∙ to_z-of_z (number_fits l h) ∙ ap lowering_number f

-- No reduced tree is longer than its tree, nor an accepted tree than the limit.
pub short_tree : (s : List ℕ) (room : ℕ) {found : Result ℕ Refusal} {n : ℕ} → Bytes s → found ≡ reducer.answer (reducing s room) → found ≡ Ok n → n ≤ 65535
unfolding reducer.answer
short_tree s room {found} {n} b e f = go (reducing s room) refl (sym f ∙ e)
  where
    go : (x : Read (List ℕ)) → reducing s room ≡ x → Ok n ≡ reducer.answer x → n ≤ 65535
    go (refused r) p q = absurd (let v : ◌≡◌ {A = ℕ} 0 1 = cc in let w : ⊥ = omega arith in w)
    go (got x) p q =
        let l : n ≡ length x = cc q in
        let g = (given-tree s room x p).0 in
        omega (arith, reducing_short s b room x p, (tree_is planner s g.tree g.read).0)

pub short_reduced : (s : List ℕ) (room : ℕ) (found : Result ℕ Refusal) → Bytes s → found ≡ reducer.answer (reducing s room) → length_of found ≤ 65535
short_reduced s room (Ok n) b e = short_tree s room b e refl
short_reduced s room (Err r) b e = omega arith

-- of an answer of reducing is heard what would be of one of lowering
pub heard_alike : (l : Result ℕ Refusal) → heard l ≡ reducer.heard l
heard_alike (Ok n) = refl
heard_alike (Err r) = refl
