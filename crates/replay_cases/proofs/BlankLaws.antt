-- A buffer that is as it was lent, told by its first byte, and by each other one's being as the one before it.
use Rattle.std.proofs.Common.{ℕ, ◌≡◌, refl, true, List, [], ◌∷◌, ◌&&◌, eqb, length, take, sym, subst, inl, inr, ne_eqb, arith}
use Rattle.std.proofs.lemmas.Bool.{cases_eq}
use Rattle.prelude.specs.Choice.{same}
use Rattle.replay_cases.specs.Found.{are_blank}

-- behind a 7, each as the one before it: all are 7
each_as_before : (s : List ℕ) → same s (take (length s) (7 ∷ s)) ≡ are_blank s
each_as_before [] = refl
each_as_before (x ∷ s) =
    elim (cases_eq x 7) [
      | inl e ↦ subst (λ y. (eqb y 7 && same s (take (length s) (y ∷ s))) ≡ (eqb y 7 && are_blank s)) (sym e) (each_as_before s)
      | inr n ↦ simp (ne_eqb x 7 n) refl
    ]

-- the first is 7, and each other one as the one before it
pub blank_by_steps : (s : List ℕ) (x : ℕ) (rest : List ℕ) → s ≡ x ∷ rest → x ≡ 7 → same rest (take (length rest) s) ≡ are_blank s
blank_by_steps s x rest e h =
    subst (λ t. same rest (take (length rest) t) ≡ are_blank t) (sym e) (subst (λ y. same rest (take (length rest) (y ∷ rest)) ≡ (eqb y 7 && are_blank rest)) (sym h) (each_as_before rest))

-- none is changed where there is none
pub none_changed : (s : List ℕ) → length s ≡ 0 → are_blank s ≡ true
none_changed [] e = refl
none_changed (x ∷ s) e = absurd (omega (arith, e))
