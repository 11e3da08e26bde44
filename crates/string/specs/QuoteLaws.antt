-- Laws of specs/Quote.antt: what is doubled is undoubled again, and closed where it ends; where a text is closed, told from place to place.
use Rattle.std.specs.Prelude.{ℕ, suc, ◌+◌, ◌≤◌, ◌<◌, ◌≡◌, refl, List, [], ◌∷◌, ◌++◌, Bool, true, false, eqb, ltb, length, get_or, take, drop}
use Rattle.std.proofs.Common.{sym, ap, ◌∙◌, arith, add-one, drop_of_length-le, drop-cons, drop-drop, get_or-drop, eq-eqb, ne_eqb, ltb-true, ltb-false}
use Rattle.std.proofs.lemmas.Bool.{false≢true}
use Rattle.std.proofs.Math.ListN.{get_or-eq_default}
use Rattle.prelude.specs.Choice.{pick, both, negated, all}
use Rattle.prelude.specs.ChoiceLaws.{both_true, all_true}
use Rattle.prelude.specs.Bytes.{apostrophe}
use Rattle.string.specs.Utf8.{valid}
use Rattle.string.specs.Quote.{doubled, undoubled, closing, quoted_size}
use Rattle.string.specs.SequenceWords.{plain}

-- ---- the first byte

undoubled-cons : (b : ℕ) (r : List ℕ) → undoubled (b ∷ r) ≡ b ∷ pick (both (eqb b apostrophe) (eqb (get_or r 0 0) apostrophe)) (undoubled (drop 1 r)) (undoubled r)
unfolding undoubled
undoubled-cons b [] = ap (λ (l : List ℕ). b ∷ l) (go (eqb b apostrophe))
  where
    go : (c : Bool) → ◌≡◌ {A = List ℕ} [] (pick (both c false) [] [])
    go true = refl
    go false = refl
undoubled-cons b (c ∷ r) = refl

closing-cons : (b : ℕ) (r : List ℕ) → closing (b ∷ r) ≡ pick (eqb b apostrophe) (pick (eqb (get_or r 0 0) apostrophe) (2 + closing (drop 1 r)) 0) (1 + closing r)
unfolding closing
closing-cons b [] = refl
closing-cons b (c ∷ r) = refl

-- ---- from a place on
module _ (s : List ℕ) (i : ℕ) (h : i < length s) where
  pub at_place : drop i s ≡ get_or s i 0 ∷ drop (i + 1) s
  at_place = rw (add-one, drop-cons s i 0 h)

  next : get_or (drop (i + 1) s) 0 0 ≡ get_or s (i + 1) 0
  next = get_or-drop (i + 1) s 0 0 ∙ ap (λ (k : ℕ). get_or s k 0) (let z : i + 1 + 0 ≡ i + 1 = omega arith in z)

  behind : drop 1 (drop (i + 1) s) ≡ drop (i + 2) s
  behind = drop-drop 1 (i + 1) s ∙ ap (λ (k : ℕ). drop k s) (let z : i + 1 + 1 ≡ i + 2 = omega arith in z)

  -- where a text is closed
  pub closing_go : (get_or s i 0 ≡ apostrophe → ⊥) → closing (drop i s) ≡ 1 + closing (drop (i + 1) s)
  closing_go f = ap closing at_place ∙ closing-cons (get_or s i 0) (drop (i + 1) s) ∙ simp (ne_eqb (get_or s i 0) apostrophe f)

  module _ (e : get_or s i 0 ≡ apostrophe) where
    pub closing-pair : get_or s (i + 1) 0 ≡ apostrophe → closing (drop i s) ≡ 2 + closing (drop (i + 2) s)
    closing-pair f =
        ap closing at_place ∙ closing-cons (get_or s i 0) (drop (i + 1) s)
        ∙ simp (eq-eqb (get_or s i 0) apostrophe e, next, eq-eqb (get_or s (i + 1) 0) apostrophe f) (ap (λ (l : List ℕ). 2 + closing l) behind)

    pub closing_stop : (get_or s (i + 1) 0 ≡ apostrophe → ⊥) → closing (drop i s) ≡ 0
    closing_stop f =
        ap closing at_place ∙ closing-cons (get_or s i 0) (drop (i + 1) s)
        ∙ simp (eq-eqb (get_or s i 0) apostrophe e, next, ne_eqb (get_or s (i + 1) 0) apostrophe f)

  -- the value of what is written
  pub undoubled_go : (both (eqb (get_or s i 0) apostrophe) (eqb (get_or s (i + 1) 0) apostrophe) ≡ false) → undoubled (drop i s) ≡ get_or s i 0 ∷ undoubled (drop (i + 1) s)
  undoubled_go f = ap undoubled at_place ∙ undoubled-cons (get_or s i 0) (drop (i + 1) s) ∙ simp (next, f)

  pub undoubled-pair : (both (eqb (get_or s i 0) apostrophe) (eqb (get_or s (i + 1) 0) apostrophe) ≡ true) → undoubled (drop i s) ≡ get_or s i 0 ∷ undoubled (drop (i + 2) s)
  undoubled-pair f = ap undoubled at_place ∙ undoubled-cons (get_or s i 0) (drop (i + 1) s) ∙ simp (next, f) (ap (λ (l : List ℕ). get_or s i 0 ∷ undoubled l) behind)

-- an apostrophe lies inside
pub mark_inside : (s : List ℕ) (k : ℕ) → eqb (get_or s k 0) apostrophe ≡ true → k < length s
mark_inside s k e = go (ltb k (length s)) refl
  where
    go : (b : Bool) → ltb k (length s) ≡ b → k < length s
    go true q = ltb-true k (length s) q
    go false q = absurd (false≢true (sym (ap (λ (b : ℕ). eqb b apostrophe) (get_or-eq_default s 0 (ltb-false k (length s) q))) ∙ e))

pub closing_end : (s : List ℕ) (i : ℕ) → length s ≤ i → closing (drop i s) ≡ 0
unfolding closing
closing_end s i h = rw (drop_of_length-le s h)

-- a quoted text ends within what stands there
pub quoted_inside : (r : List ℕ) → quoted_size r ≤ length r
unfolding quoted_size
quoted_inside r = go (eqb (get_or r (closing r) 0) apostrophe) refl (valid (take (closing r) r))
  where
    go : (b : Bool) → eqb (get_or r (closing r) 0) apostrophe ≡ b → (v : Bool) → pick (both b v) (closing r + 1) 0 ≤ length r
    go true e true = omega (arith, mark_inside r (closing r) e)
    go true e false = omega arith
    go false e v = omega arith

-- ---- what is doubled

-- part by part
pub doubled-append : (x y : List ℕ) → doubled (x ++ y) ≡ doubled x ++ doubled y
unfolding doubled
doubled-append [] y = refl
doubled-append (b ∷ x) y = go (eqb b apostrophe) (doubled-append x y)
  where
    go : (c : Bool) → doubled (x ++ y) ≡ doubled x ++ doubled y
        → pick c (b ∷ (b ∷ doubled (x ++ y))) (b ∷ doubled (x ++ y)) ≡ pick c (b ∷ (b ∷ doubled x)) (b ∷ doubled x) ++ doubled y
    go true e = ap (λ (l : List ℕ). b ∷ (b ∷ l)) e
    go false e = ap (λ (l : List ℕ). b ∷ l) e

pub doubled_mark : (b : ℕ) → b ≡ apostrophe → doubled (b ∷ []) ≡ b ∷ (b ∷ [])
unfolding doubled
doubled_mark b e = simp (eq-eqb b apostrophe e)

pub doubled_other : (b : ℕ) → (b ≡ apostrophe → ⊥) → doubled (b ∷ []) ≡ b ∷ []
unfolding doubled
doubled_other b f = simp (ne_eqb b apostrophe f)

-- is never shorter
pub doubled_longer : (s : List ℕ) → length s ≤ length (doubled s)
unfolding doubled
doubled_longer [] = omega arith
doubled_longer (b ∷ s) = go (eqb b apostrophe) (doubled_longer s)
  where
    go : (c : Bool) → length s ≤ length (doubled s) → suc (length s) ≤ length (pick c (b ∷ (b ∷ doubled s)) (b ∷ doubled s))
    go true h = omega arith
    go false h = omega arith

-- is undoubled again
pub undoubled-doubled : (s : List ℕ) → undoubled (doubled s) ≡ s
unfolding undoubled doubled
undoubled-doubled [] = refl
undoubled-doubled (b ∷ s) = go (eqb b apostrophe) refl (undoubled-doubled s)
  where
    go : (c : Bool) → eqb b apostrophe ≡ c → undoubled (doubled s) ≡ s → undoubled (pick c (b ∷ (b ∷ doubled s)) (b ∷ doubled s)) ≡ b ∷ s
    go true e h = undoubled-cons b (b ∷ doubled s) ∙ simp e (ap (λ (l : List ℕ). b ∷ l) h)
    go false e h = undoubled-cons b (doubled s) ∙ simp e (ap (λ (l : List ℕ). b ∷ l) h)

-- is closed by the apostrophe behind it, if no other follows
pub closing-doubled : (s k : List ℕ) → eqb (get_or k 0 0) apostrophe ≡ false → closing (doubled s ++ (apostrophe ∷ k)) ≡ length (doubled s)
unfolding doubled
closing-doubled [] k f = closing-cons apostrophe k ∙ simp f
closing-doubled (b ∷ s) k f = go (eqb b apostrophe) refl (closing-doubled s k f)
  where
    go : (c : Bool) → eqb b apostrophe ≡ c → closing (doubled s ++ (apostrophe ∷ k)) ≡ length (doubled s)
        → closing (pick c (b ∷ (b ∷ doubled s)) (b ∷ doubled s) ++ (apostrophe ∷ k)) ≡ length (pick c (b ∷ (b ∷ doubled s)) (b ∷ doubled s))
    go true e h = closing-cons b (b ∷ (doubled s ++ (apostrophe ∷ k))) ∙ simp e (let z : 2 + closing (doubled s ++ (apostrophe ∷ k)) ≡ suc (suc (length (doubled s))) = omega (arith, h) in z)
    go false e h = closing-cons b (doubled s ++ (apostrophe ∷ k)) ∙ simp e (let z : 1 + closing (doubled s ++ (apostrophe ∷ k)) ≡ suc (length (doubled s)) = omega (arith, h) in z)

-- ---- strings without an apostrophe

abbrev pub no_mark : ℕ → Bool
no_mark b = negated (eqb b apostrophe)

unnegate : (c : Bool) → negated c ≡ true → c ≡ false
unnegate true q = cc
unnegate false q = refl

-- doubling leaves them
pub no_mark_doubled : (s : List ℕ) → all no_mark s ≡ true → doubled s ≡ s
unfolding doubled
no_mark_doubled [] e = refl
no_mark_doubled (b ∷ s) e =
    let h = all_true no_mark b s e in
    rw (unnegate (eqb b apostrophe) h.0) (ap (λ (l : List ℕ). b ∷ l) (no_mark_doubled s h.1))

-- and of plain bytes they are valid (`unmarked-valid`, proofs/ValidLaws.antt)
abbrev pub unmarked : ℕ → Bool
unmarked b = both (plain b) (no_mark b)

pub unmarked-doubled : (s : List ℕ) → all unmarked s ≡ true → doubled s ≡ s
unmarked-doubled s e = no_mark_doubled s (without s e)
  where
    without : (s : List ℕ) → all unmarked s ≡ true → all no_mark s ≡ true
    without [] e = refl
    without (b ∷ s) e =
        let h = all_true unmarked b s e in
        rw (both_true (plain b) (no_mark b) h.0).1 (without s h.1)
