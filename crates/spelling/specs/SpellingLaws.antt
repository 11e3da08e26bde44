-- Laws of specs/SpellingTable.antt: a test of a table computed over all 53 operators is the rule of the table, and where a spelling stands.
use Rattle.std.specs.Prelude.{ℕ, zero, suc, ◌-◌, ◌≤◌, ◌<◌, ◌≡◌, refl, List, [], ◌∷◌, Bool, true, false, T, length, take, drop, Option, Some, None}
use Rattle.std.proofs.Common.{sym, ◌∙◌, ap, arith, lt-ltb}
use Rattle.prelude.specs.Choice.{same}
use Rattle.prelude.specs.ChoiceLaws.{same_true}
use Rattle.op.specs.declared.Op.{Op}
use Rattle.op.specs.Op.{op_number, operators, op_at, op_of}
use Rattle.op.specs.OpLaws.{every_op, each, of_number}
use Rattle.spelling.specs.Spelling.{spelling, spelling_of, numbered, spelled_as, word}
use Rattle.spelling.specs.SpellingTable.{place_in, standing, Spells}

-- two spellings are the same
abbrev pub same_spelling : Option (List ℕ) → Option (List ℕ) → Bool
same_spelling None None = true
same_spelling None (Some t) = false
same_spelling (Some s) None = false
same_spelling (Some s) (Some t) = same s t

test_true : (b : Bool) → T b → b ≡ true
test_true true t = refl
test_true false t = absurd t

same-spelling : (x y : Option (List ℕ)) → T (same_spelling x y) → x ≡ y
same-spelling None None t = refl
same-spelling None (Some s) t = absurd t
same-spelling (Some s) None t = absurd t
same-spelling (Some s) (Some u) t = ap Some (same_true s u (test_true (same s u) t))

-- the table has the operator's spelling at its number
abbrev pub spelled_right : List ℕ → Op → Bool
spelled_right table o = same_spelling (standing table (place_in table (op_number o))) (spelling o)

-- the test computed over the whole table is the rule
pub spells : (table : List ℕ) → T (every_op (spelled_right table) operators) → Spells table
spells table t = record { right = λ o. same-spelling _ _ (each (spelled_right table) t o) }

-- what stands at an operator's place in the table is what is written of it
pub stands_word : {table : List ℕ} {n from to : ℕ} (o : Op) → Spells table → n ≡ op_number o → place_in table n ≡ Some (from, to)
    → take (to - from) (drop from table) ≡ word o
unfolding standing spelled_as
stands_word {table} o h q e = ap (λ r. spelled_as (standing table r)) (sym e) ∙ ap (λ (k : ℕ). spelled_as (standing table (place_in table k))) q ∙ ap spelled_as (h.right o)

-- an operator that has no place has no spelling, and nothing is written
pub no_word : {table : List ℕ} {n : ℕ} (o : Op) → Spells table → n ≡ op_number o → place_in table n ≡ None → [] ≡ word o
unfolding standing spelled_as
no_word {table} o h q e = ap (λ r. spelled_as (standing table r)) (sym e) ∙ ap (λ (k : ℕ). spelled_as (standing table (place_in table k))) q ∙ ap spelled_as (h.right o)

past : (os : List Op) (n : ℕ) → op_at os n ≡ None → length os ≤ n
unfolding op_at
past [] n e = omega arith
past (o ∷ os) zero e = let z : ◌≡◌ {A = ℕ} 0 1 = cc in absurd (omega arith)
past (o ∷ os) (suc n) e = let h = past os n e in omega arith

no_place : (table : List ℕ) (n : ℕ) → op_of n ≡ None → standing table (place_in table n) ≡ None
unfolding place_in standing
no_place table n e = let h : 53 ≤ n = past operators n e in let l : 52 < n = omega arith in simp (lt-ltb 52 n l)

beyond : (os : List Op) (n : ℕ) → length os ≤ n → op_at os n ≡ None
unfolding op_at
beyond [] n h = refl
beyond (o ∷ os) zero h = absurd (omega arith)
beyond (o ∷ os) (suc n) h = beyond os n (omega arith)

-- no operator has a number above 52, so there is no spelling
pub no_operator : (n : ℕ) → 52 < n → spelling_of n ≡ None
no_operator n h = ap numbered (beyond operators n (omega arith))

-- what stands at a number's place is the spelling of the operator with the number, and nothing where there is none
pub stands_numbered : (table : List ℕ) (n : ℕ) → Spells table → standing table (place_in table n) ≡ spelling_of n
stands_numbered table n h = go (op_of n) refl
  where
    go : (x : Option Op) → op_of n ≡ x → standing table (place_in table n) ≡ numbered x
    go None e = no_place table n e
    go (Some o) e = ap (λ (k : ℕ). standing table (place_in table k)) (of_number n o e) ∙ h.right o
