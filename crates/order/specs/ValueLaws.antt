-- Laws of specs/ValueWords.antt: the first byte of a value, and how a loop over two values decides their order.
use Rattle.std.specs.Prelude.{ℕ, ◌+◌, ◌-◌, ◌≤◌, ◌<◌, ◌≡◌, refl, List, [], ◌∷◌, Bool, true, false, ◌⊎◌, eqb, ltb, min, length, get_or, take, drop}
use Rattle.std.proofs.Math.Path.{sym}
use Rattle.std.proofs.Common.{◌∙◌, arith, drop_of_length-le, ne_eqb, ltb-true, ltb-false, nat_eq, add-zero}
use Rattle.std.proofs.lemmas.Cmp.{ranked, by_ranked}
use Rattle.std.proofs.lemmas.List.{get_or-drop, take_rest}
use Rattle.std.proofs.lemmas.Bool.Decides.{nat_tests}
use Rattle.std.specs.List.{starts_with}
use Rattle.std.specs.Ordering.{nat_cmp, bool_cmp}
use Rattle.prelude.specs.Choice.{pick, both}
use Rattle.prelude.specs.ChoiceLaws.{both_true}
use Rattle.prelude.specs.Bytes.{apostrophe}
use Rattle.string.specs.Quote.{undoubled, value_of}
use Rattle.string.specs.QuoteLaws.{at_place, mark_inside, undoubled_go, undoubled-pair}
use Rattle.std.specs.declared.cmp.Ordering.TheVariants.{Less, Equal, Greater}
use Rattle.order.specs.Order.{order}
use Rattle.order.specs.OrderLaws.{less, more, equal}
use Rattle.order.specs.ValueWords.{Alike, pair_at, next_at}

-- the byte at i, and the value after it
value_at : (v : Bool) (s : List ℕ) (i : ℕ) → i < length s → value_of v (drop i s) ≡ get_or s i 0 ∷ value_of v (drop (next_at v s i) s)
unfolding next_at
value_at true s i h = go (pair_at s i) refl
  where
    go : (b : Bool) → pair_at s i ≡ b → undoubled (drop i s) ≡ get_or s i 0 ∷ undoubled (drop (pick b (i + 2) (i + 1)) s)
    go true e = undoubled-pair s i h e
    go false e = undoubled_go s i h e
value_at false s i h = at_place s i h

value-end : (v : Bool) (s : List ℕ) (i : ℕ) → length s ≤ i → value_of v (drop i s) ≡ []
unfolding undoubled
value-end true s i h = rw (drop_of_length-le s h)
value-end false s i h = drop_of_length-le s h

pub next_onward : (v : Bool) (s : List ℕ) (i : ℕ) → i < next_at v s i
unfolding next_at
next_onward v s i = go (both v (pair_at s i))
  where
    go : (b : Bool) → i < pick b (i + 2) (i + 1)
    go true = omega arith
    go false = omega arith

pub next_inside : (v : Bool) (s : List ℕ) (i : ℕ) → i < length s → next_at v s i ≤ length s
unfolding next_at
next_inside v s i h = go (both v (pair_at s i)) refl
  where
    go : (b : Bool) → both v (pair_at s i) ≡ b → pick b (i + 2) (i + 1) ≤ length s
    go true e =
        let p = both_true v (pair_at s i) e in
        let q = both_true (eqb (get_or s i 0) apostrophe) (eqb (get_or s (i + 1) 0) apostrophe) p.1 in
        omega (arith, mark_inside s (i + 1) q.1)
    go false e = omega arith

-- a byte that is no apostrophe is one of value, however it is written
next_plain : (v : Bool) (s : List ℕ) (i : ℕ) → (get_or s i 0 ≡ apostrophe → ⊥) → next_at v s i ≡ i + 1
unfolding next_at
next_plain true s i f = simp (ne_eqb (get_or s i 0) apostrophe f)
next_plain false s i f = refl

-- the bytes of two apostrophes at i, as `starts_with` finds them
front_pair : (t : List ℕ) → starts_with nat_eq t (apostrophe ∷ apostrophe ∷ []) ≡ both (eqb (get_or t 0 0) apostrophe) (eqb (get_or t 1 0) apostrophe)
front_pair [] = refl
front_pair (x ∷ []) = grind (arith, nat_tests)
front_pair (x ∷ y ∷ t) = grind (arith, nat_tests)

pub next-pair : (written : Bool) (s : List ℕ) (i : ℕ) (r : Bool) → written ≡ true → r ≡ starts_with nat_eq (take (length s - i) (drop i s)) (apostrophe ∷ apostrophe ∷ []) → next_at written s i ≡ pick r (i + 2) (i + 1)
unfolding next_at
next-pair written s i r e f = rw (e, f, take_rest s i, front_pair (drop i s), get_or-drop i s 0 0, get_or-drop i s 1 0, add-zero i) refl

pub alike_start : (v w : Bool) (a b : List ℕ) → Alike v w a b 0 0
alike_start v w a b = record { left = omega arith; right = omega arith; same = refl }

module _ {v w : Bool} {a b : List ℕ} {i j : ℕ} (x : Alike v w a b i j) where
  -- one byte of value further
  pub alike_next : i < length a → j < length b → get_or a i 0 ≡ get_or b j 0 → {p q : ℕ} → p ≡ next_at v a i → q ≡ next_at w b j → Alike v w a b p q
  alike_next h k e {p} {q} f g = record {
    left = omega (arith, next_inside v a i h, f);
    right = omega (arith, next_inside w b j k, g);
    same =
        rw (f, g)
        (sym (equal (get_or a i 0) (get_or b j 0) (value_of v (drop (next_at v a i) a)) (value_of w (drop (next_at w b j) b)) e)
        ∙ sym (rw (value_at v a i h, value_at w b j k) refl) ∙ x.same);
  }

  pub alike-plain : i < length a → j < length b → get_or a i 0 ≡ get_or b j 0 → (get_or a i 0 ≡ apostrophe → ⊥) → Alike v w a b (i + 1) (j + 1)
  alike-plain h k e f = alike_next h k e (sym (next_plain v a i f)) (sym (next_plain w b j (λ z. f (e ∙ z))))

  -- what decides
  pub value-less : i < length a → j < length b → get_or a i 0 < get_or b j 0 → Less ≡ order (value_of v a) (value_of w b)
  value-less h k l = sym (rw (value_at v a i h, value_at w b j k) (less (get_or a i 0) (get_or b j 0) _ _ l)) ∙ x.same

  pub value-more : i < length a → j < length b → get_or b j 0 < get_or a i 0 → Greater ≡ order (value_of v a) (value_of w b)
  value-more h k l = sym (rw (value_at v a i h, value_at w b j k) (more (get_or a i 0) (get_or b j 0) _ _ l)) ∙ x.same

  pub value-apart : i < length a → j < length b → (get_or a i 0 ≡ get_or b j 0 → ⊥)
      → nat_cmp (get_or a i 0) (get_or b j 0) ≡ order (value_of v a) (value_of w b)
  value-apart h k f =
      by_ranked _ _ _ (nat_cmp (get_or a i 0) (get_or b j 0)) (ranked (get_or a i 0) (get_or b j 0) _ refl)
      (λ o l. o ∙ value-less h k l) (λ o e. absurd (f e)) (λ o l. o ∙ value-more h k l)

  pub value_long : i < length a → length b ≤ j → Greater ≡ order (value_of v a) (value_of w b)
  unfolding order
  value_long h k = sym (rw (value_at v a i h, value-end w b j k) refl) ∙ x.same

  pub value-both : length a ≤ i → length b ≤ j → Equal ≡ order (value_of v a) (value_of w b)
  unfolding order
  value-both h k = sym (rw (value-end v a i h, value-end w b j k) refl) ∙ x.same

  pub value_short : length a ≤ i → j < length b → Less ≡ order (value_of v a) (value_of w b)
  unfolding order
  value_short h k = sym (rw (value-end v a i h, value_at w b j k) refl) ∙ x.same

  -- where one ends
  pub value-rest : (length a ≤ i) ⊎ (length b ≤ j) → bool_cmp (ltb i (length a)) (ltb j (length b)) ≡ order (value_of v a) (value_of w b)
  value-rest e = go (ltb i (length a)) (ltb j (length b)) refl refl
    where
      go : (p q : Bool) → ltb i (length a) ≡ p → ltb j (length b) ≡ q → bool_cmp p q ≡ order (value_of v a) (value_of w b)
      go true true f g = let h = ltb-true i (length a) f in let k = ltb-true j (length b) g in absurd (omega (arith, e))
      go true false f g = value_long (ltb-true i (length a) f) (ltb-false j (length b) g)
      go false true f g = value_short (ltb-false i (length a) f) (ltb-true j (length b) g)
      go false false f g = value-both (ltb-false i (length a) f) (ltb-false j (length b) g)

  pub value-lengths : i ≡ j → i ≡ min (length a) (length b) → nat_cmp (length a) (length b) ≡ order (value_of v a) (value_of w b)
  value-lengths e m =
      by_ranked _ _ _ (nat_cmp (length a) (length b)) (ranked (length a) (length b) _ refl)
      (λ o (l : length a < length b). o ∙ value_short (omega arith) (omega arith)) (λ o (l : length a ≡ length b). o ∙ value-both (omega arith) (omega arith))
      (λ o (l : length b < length a). o ∙ value_long (omega arith) (omega arith))
