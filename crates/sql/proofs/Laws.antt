-- What parts spell in each form; guards on texts are the guards of a condition, and so are texts joined.
use Rattle.std.proofs.Common.{◌≡◌, refl, ap, sym, ◌∙◌, arith, List, [], ◌∷◌, ◌++◌, append_assoc, length, slice_index_or, ℕ, Bool, true, false, eqb, ne_eqb, Option, Some, None}
use Rattle.prelude.specs.Choice.{pick}
use Rattle.prelude.specs.Bytes.{bytes}
use Rattle.sql.specs.Condition.{Cond, and, or, is_not_null, not_null, brackets, print, check_id, check_ids}
use Rattle.op.specs.declared.Op.{Op}
use Rattle.op.specs.declared.Op.TheVariants as op
use Rattle.op.specs.Op.{op_number, op_of}
use Rattle.op.specs.OpLaws.{number_of}
use Rattle.sql.specs.Translators.{translate, t_starts}
use Rattle.sql.specs.declared.Part.{Part}
use Rattle.sql.specs.declared.Part.TheVariants.{Open, Close, CloseBoth, Quote, IsNotNull, IsNotNullQuote, NotNull, Or, And, Not}
use Rattle.sql.specs.TemplateLaws.{spelt-append}
use Rattle.sql.specs.Template.{spelt, part_of, digit_of, template_of, guarded_text, guarded_both_text, check_id_text, check_ids_text, both_text, neither_text, either_text}

module _ (x s y : Part) where
  pub one_guarded : (i : Part) → spelt (Quote ∷ i ∷ IsNotNull ∷ x ∷ s ∷ y ∷ Close ∷ []) ≡ guarded_text (part_of i) (spelt (x ∷ s ∷ y ∷ []))
  unfolding spelt part_of guarded_text
  one_guarded i = simp append_assoc

  pub two_guarded : (i j : Part) → spelt (Quote ∷ i ∷ IsNotNullQuote ∷ j ∷ NotNull ∷ x ∷ s ∷ y ∷ Close ∷ []) ≡ guarded_both_text (part_of i) (part_of j) (spelt (x ∷ s ∷ y ∷ []))
  unfolding spelt part_of guarded_both_text
  two_guarded i j = simp append_assoc

  pub both_spelt : (z t w : Part) → spelt (Open ∷ x ∷ s ∷ y ∷ And ∷ z ∷ t ∷ w ∷ Close ∷ []) ≡ both_text (spelt (x ∷ s ∷ y ∷ [])) (spelt (z ∷ t ∷ w ∷ []))
  unfolding spelt part_of both_text
  both_spelt z t w = simp append_assoc

  pub neither_spelt : (z t w : Part) → spelt (Not ∷ x ∷ s ∷ y ∷ Or ∷ z ∷ t ∷ w ∷ CloseBoth ∷ []) ≡ neither_text (spelt (x ∷ s ∷ y ∷ [])) (spelt (z ∷ t ∷ w ∷ []))
  unfolding spelt part_of neither_text
  neither_spelt z t w = simp append_assoc

pub either_spelt : (t u : List Part) → spelt (((((Open ∷ []) ++ t) ++ (Or ∷ [])) ++ u) ++ (Close ∷ [])) ≡ either_text (spelt t) (spelt u)
unfolding spelt part_of either_text
either_spelt t u =
    spelt-append ((((Open ∷ []) ++ t) ++ (Or ∷ [])) ++ u) (Close ∷ [])
    ∙ ap (λ (l : List ℕ). l ++ bytes ")") (spelt-append (((Open ∷ []) ++ t) ++ (Or ∷ [])) u)
    ∙ ap (λ (l : List ℕ). (l ++ spelt u) ++ bytes ")") (spelt-append ((Open ∷ []) ++ t) (Or ∷ []))
    ∙ simp append_assoc

pub either_of : {x y v w : List ℕ} → x ≡ v → y ≡ w → either_text x y ≡ either_text v w
either_of {x} {y} {v} {w} p q = ap (λ (l : List ℕ). either_text l y) p ∙ ap (λ (l : List ℕ). either_text v l) q

pub one_guard : (column : ℕ → Bool) (i : ℕ) (base : Cond) → check_id_text (column i) (digit_of i) (template_of base) ≡ template_of (check_id column i base)
unfolding check_id print check_id_text guarded_text
one_guard column i base = go (column i)
  where
    go : (b : Bool) → pick b (guarded_text (digit_of i) (template_of base)) (template_of base) ≡ template_of (pick b (and (is_not_null i) (brackets base)) base)
    go true = refl
    go false = refl

pub two_guards : (column : ℕ → Bool) (i j : ℕ) (base : Cond) → check_ids_text (column i) (column j) (digit_of i) (digit_of j) (template_of base) ≡ template_of (check_ids column i j base)
unfolding check_ids print check_ids_text check_id_text guarded_text guarded_both_text
two_guards column i j base = go (column i) (column j)
  where
    go : (b d : Bool) → pick b (pick d (guarded_both_text (digit_of i) (digit_of j) (template_of base)) (guarded_text (digit_of i) (template_of base))) (pick d (guarded_text (digit_of j) (template_of base)) (template_of base))
        ≡ template_of (pick b (pick d (and (and (is_not_null i) (not_null j)) (brackets base)) (and (is_not_null i) (brackets base))) (pick d (and (is_not_null j) (brackets base)) base))
    go true true = refl
    go true false = refl
    go false true = refl
    go false false = refl

pub either_or : (c d : Cond) → either_text (template_of c) (template_of d) ≡ template_of (or (brackets c) (brackets d))
unfolding print either_text
either_or c d = ap (λ (l : List ℕ). bytes "(" ++ l) (sym (append_assoc (template_of c) (bytes ")") (bytes " OR (" ++ (template_of d ++ bytes ")"))))

-- a list of three is its elements
pub three : (l : List Part) (p q r : Part) → length l ≡ 3 → slice_index_or l 0 p ∷ slice_index_or l 1 q ∷ slice_index_or l 2 r ∷ [] ≡ l
three [] p q r e = absurd (let v : ⊥ = omega arith in v)
three (a ∷ []) p q r e = absurd (let v : ⊥ = omega arith in v)
three (a ∷ b ∷ []) p q r e = absurd (let v : ⊥ = omega arith in v)
three (a ∷ b ∷ c ∷ []) p q r e = refl
three (a ∷ b ∷ c ∷ d ∷ l) p q r e = absurd (let v : ⊥ = omega arith in v)

pub both_of : {x y v w : List Part} → x ≡ v → y ≡ w → both_text (spelt x) (spelt y) ≡ both_text (spelt v) (spelt w)
both_of {x} {y} {v} {w} p q = ap (λ (l : List Part). both_text (spelt l) (spelt y)) p ∙ ap (λ (l : List Part). both_text (spelt v) (spelt l)) q

pub neither_of : {x y v w : List Part} → x ≡ v → y ≡ w → neither_text (spelt x) (spelt y) ≡ neither_text (spelt v) (spelt w)
neither_of {x} {y} {v} {w} p q = ap (λ (l : List Part). neither_text (spelt l) (spelt y)) p ∙ ap (λ (l : List Part). neither_text (spelt v) (spelt l)) q

-- each operator that is not named has the translator of TStarts
pub others : (o : Op) → (o ≡ op.TAfter → ⊥) → (o ≡ op.TBefore → ⊥) → (o ≡ op.TContains → ⊥) → (o ≡ op.TDisjoint → ⊥) → (o ≡ op.TDuring → ⊥) → (o ≡ op.TEquals → ⊥) → (o ≡ op.TFinishedBy → ⊥) → (o ≡ op.TFinishes → ⊥) → (o ≡ op.TIntersects → ⊥) → (o ≡ op.TMeets → ⊥) → (o ≡ op.TMetBy → ⊥) → (o ≡ op.TOverlappedBy → ⊥) → (o ≡ op.TOverlaps → ⊥) → (o ≡ op.TStartedBy → ⊥) → translate (op_number o) ≡ t_starts
unfolding translate
others op.Plus _ _ _ _ _ _ _ _ _ _ _ _ _ _ = refl
others op.Minus _ _ _ _ _ _ _ _ _ _ _ _ _ _ = refl
others op.Mult _ _ _ _ _ _ _ _ _ _ _ _ _ _ = refl
others op.Div _ _ _ _ _ _ _ _ _ _ _ _ _ _ = refl
others op.IntDiv _ _ _ _ _ _ _ _ _ _ _ _ _ _ = refl
others op.Mod _ _ _ _ _ _ _ _ _ _ _ _ _ _ = refl
others op.Exp _ _ _ _ _ _ _ _ _ _ _ _ _ _ = refl
others op.Neg _ _ _ _ _ _ _ _ _ _ _ _ _ _ = refl
others op.Eq _ _ _ _ _ _ _ _ _ _ _ _ _ _ = refl
others op.Neq _ _ _ _ _ _ _ _ _ _ _ _ _ _ = refl
others op.Lt _ _ _ _ _ _ _ _ _ _ _ _ _ _ = refl
others op.Gt _ _ _ _ _ _ _ _ _ _ _ _ _ _ = refl
others op.Lte _ _ _ _ _ _ _ _ _ _ _ _ _ _ = refl
others op.Gte _ _ _ _ _ _ _ _ _ _ _ _ _ _ = refl
others op.And _ _ _ _ _ _ _ _ _ _ _ _ _ _ = refl
others op.Or _ _ _ _ _ _ _ _ _ _ _ _ _ _ = refl
others op.CaseI _ _ _ _ _ _ _ _ _ _ _ _ _ _ = refl
others op.AccentI _ _ _ _ _ _ _ _ _ _ _ _ _ _ = refl
others op.SIntersects _ _ _ _ _ _ _ _ _ _ _ _ _ _ = refl
others op.SEquals _ _ _ _ _ _ _ _ _ _ _ _ _ _ = refl
others op.SDisjoint _ _ _ _ _ _ _ _ _ _ _ _ _ _ = refl
others op.STouches _ _ _ _ _ _ _ _ _ _ _ _ _ _ = refl
others op.SWithin _ _ _ _ _ _ _ _ _ _ _ _ _ _ = refl
others op.SOverlaps _ _ _ _ _ _ _ _ _ _ _ _ _ _ = refl
others op.SCrosses _ _ _ _ _ _ _ _ _ _ _ _ _ _ = refl
others op.SContains _ _ _ _ _ _ _ _ _ _ _ _ _ _ = refl
others op.TAfter h _ _ _ _ _ _ _ _ _ _ _ _ _ = absurd (h refl)
others op.TBefore _ h _ _ _ _ _ _ _ _ _ _ _ _ = absurd (h refl)
others op.TContains _ _ h _ _ _ _ _ _ _ _ _ _ _ = absurd (h refl)
others op.TDisjoint _ _ _ h _ _ _ _ _ _ _ _ _ _ = absurd (h refl)
others op.TDuring _ _ _ _ h _ _ _ _ _ _ _ _ _ = absurd (h refl)
others op.TEquals _ _ _ _ _ h _ _ _ _ _ _ _ _ = absurd (h refl)
others op.TFinishedBy _ _ _ _ _ _ h _ _ _ _ _ _ _ = absurd (h refl)
others op.TFinishes _ _ _ _ _ _ _ h _ _ _ _ _ _ = absurd (h refl)
others op.TIntersects _ _ _ _ _ _ _ _ h _ _ _ _ _ = absurd (h refl)
others op.TMeets _ _ _ _ _ _ _ _ _ h _ _ _ _ = absurd (h refl)
others op.TMetBy _ _ _ _ _ _ _ _ _ _ h _ _ _ = absurd (h refl)
others op.TOverlappedBy _ _ _ _ _ _ _ _ _ _ _ h _ _ = absurd (h refl)
others op.TOverlaps _ _ _ _ _ _ _ _ _ _ _ _ h _ = absurd (h refl)
others op.TStartedBy _ _ _ _ _ _ _ _ _ _ _ _ _ h = absurd (h refl)
others op.TStarts _ _ _ _ _ _ _ _ _ _ _ _ _ _ = refl
others op.AEquals _ _ _ _ _ _ _ _ _ _ _ _ _ _ = refl
others op.AContains _ _ _ _ _ _ _ _ _ _ _ _ _ _ = refl
others op.AContainedBy _ _ _ _ _ _ _ _ _ _ _ _ _ _ = refl
others op.AOverlaps _ _ _ _ _ _ _ _ _ _ _ _ _ _ = refl
others op.IsLike _ _ _ _ _ _ _ _ _ _ _ _ _ _ = refl
others op.IsNotLike _ _ _ _ _ _ _ _ _ _ _ _ _ _ = refl
others op.IsBetween _ _ _ _ _ _ _ _ _ _ _ _ _ _ = refl
others op.IsNotBetween _ _ _ _ _ _ _ _ _ _ _ _ _ _ = refl
others op.IsInList _ _ _ _ _ _ _ _ _ _ _ _ _ _ = refl
others op.IsNotInList _ _ _ _ _ _ _ _ _ _ _ _ _ _ = refl
others op.IsNull _ _ _ _ _ _ _ _ _ _ _ _ _ _ = refl
others op.IsNotNull _ _ _ _ _ _ _ _ _ _ _ _ _ _ = refl

apart : (n : ℕ) → op_of n ≡ None → (o : Op) → eqb n (op_number o) ≡ false
apart n e o = ne_eqb n (op_number o) (λ q. let z : ◌≡◌ {A = Option Op} None (Some o) = sym e ∙ (ap op_of q ∙ number_of o) in cc)

-- and so has a number that is no operator's
pub past_all : (n : ℕ) → op_of n ≡ None → translate n ≡ t_starts
unfolding translate
past_all n e =
    simp (
      apart n e op.TAfter,
      apart n e op.TBefore,
      apart n e op.TContains,
      apart n e op.TDisjoint,
      apart n e op.TDuring,
      apart n e op.TEquals,
      apart n e op.TFinishedBy,
      apart n e op.TFinishes,
      apart n e op.TIntersects,
      apart n e op.TMeets,
      apart n e op.TMetBy,
      apart n e op.TOverlappedBy,
      apart n e op.TOverlaps,
      apart n e op.TStartedBy,
    )
