-- Laws of specs/Order.antt: the order is total, antisymmetric, transitive and irreflexive; and how a loop over two strings decides it.
-- Each goes by induction on both strings, with the first bytes compared.
use Rattle.std.specs.Prelude.{ℕ, ◌+◌, ◌≤◌, ◌<◌, ◌≡◌, refl, List, [], ◌∷◌, Bool, true, false, ◌⊎◌, ltb, min, length, get_or, drop}
use Rattle.std.proofs.Common.{sym, ap, ◌∙◌, inl, inr, ⊎_elim, arith, drop_of_length-le}
use Rattle.std.proofs.lemmas.Cmp.{ranked, by_ranked}
use Rattle.std.proofs.lemmas.List.{drop_more}
use Rattle.std.proofs.lemmas.Bool.{false≢true}
use borrow.Author.Tests.{lt-ltb, le-ltb, ltb-true, ltb-false, eq-eqb, ne_eqb}
use Rattle.std.specs.declared.cmp.Ordering.{Ordering}
use Rattle.std.specs.declared.cmp.Ordering.TheVariants.{Less, Equal, Greater}
use Rattle.std.specs.Ordering.{is_lt, is_eq, nat_cmp, ordering_then}
use Rattle.std.specs.Cmp.Lexicographic.{slice_cmp}
use Rattle.order.specs.Order.{order, below}

-- two bytes
pub three : (a b : ℕ) → (a < b) ⊎ ((a ≡ b) ⊎ (b < a))
three a b = go (ltb a b) (ltb b a) refl refl
  where
    go : (p q : Bool) → ltb a b ≡ p → ltb b a ≡ q → (a < b) ⊎ ((a ≡ b) ⊎ (b < a))
    go true q e f = inl (ltb-true a b e)
    go false true e f = inr (inr (ltb-true b a f))
    go false false e f = let h = ltb-false a b e in let k = ltb-false b a f in inr (inl (omega arith))

-- by the first bytes
pub less : (a b : ℕ) (x y : List ℕ) → a < b → order (a ∷ x) (b ∷ y) ≡ Less
unfolding order
less a b x y h = rw (lt-ltb a b h)

pub more : (a b : ℕ) (x y : List ℕ) → b < a → order (a ∷ x) (b ∷ y) ≡ Greater
unfolding order
more a b x y h = let k : b ≤ a = omega arith in rw (le-ltb a b k, lt-ltb b a h)

pub equal : (a b : ℕ) (x y : List ℕ) → a ≡ b → order (a ∷ x) (b ∷ y) ≡ order x y
unfolding order
equal a b x y e = let h : b ≤ a = omega arith in let k : a ≤ b = omega arith in rw (le-ltb a b h, le-ltb b a k)

-- what an order of two strings that are not empty says
below_by : (a b : ℕ) (x y : List ℕ) → order (a ∷ x) (b ∷ y) ≡ Less → (a < b) ⊎ ((a ≡ b) × (order x y ≡ Less))
below_by a b x y e =
    ⊎_elim (λ (h : a < b). inl h)
    (⊎_elim (λ (h : a ≡ b). inr (h, sym (equal a b x y h) ∙ e))
    (λ (h : b < a). let z : ◌≡◌ {A = Ordering} Greater Less = sym (more a b x y h) ∙ e in absurd (false≢true cc)))
    (three a b)

same_by_lem : (a b : ℕ) (x y : List ℕ) → order (a ∷ x) (b ∷ y) ≡ Equal → (a ≡ b) × (order x y ≡ Equal)
same_by_lem a b x y e =
    ⊎_elim (λ (h : a < b). let z : ◌≡◌ {A = Ordering} Less Equal = sym (less a b x y h) ∙ e in absurd (false≢true cc))
    (⊎_elim (λ (h : a ≡ b). (h, sym (equal a b x y h) ∙ e))
    (λ (h : b < a). let z : ◌≡◌ {A = Ordering} Greater Equal = sym (more a b x y h) ∙ e in absurd (false≢true cc)))
    (three a b)

above_by : (a b : ℕ) (x y : List ℕ) → order (a ∷ x) (b ∷ y) ≡ Greater → (b < a) ⊎ ((a ≡ b) × (order x y ≡ Greater))
above_by a b x y e =
    ⊎_elim (λ (h : a < b). let z : ◌≡◌ {A = Ordering} Less Greater = sym (less a b x y h) ∙ e in absurd (false≢true cc))
    (⊎_elim (λ (h : a ≡ b). inr (h, sym (equal a b x y h) ∙ e)) (λ (h : b < a). inl h))
    (three a b)

-- a string is the same as itself
pub order_refl : (x : List ℕ) → order x x ≡ Equal
unfolding order
order_refl [] = refl
order_refl (a ∷ x) = equal a a x x refl ∙ order_refl x

-- and as no other
pub order_same : (x y : List ℕ) → order x y ≡ Equal → x ≡ y
unfolding order
order_same [] [] e = refl
order_same [] (b ∷ y) e = cc
order_same (a ∷ x) [] e = cc
order_same (a ∷ x) (b ∷ y) e =
    let h = same_by_lem a b x y e in
    let p : a ≡ b = h.0 in
    let q : x ≡ y = order_same x y h.1 in
    cc

-- strings of two lengths are not the same
pub other_length : (x y : List ℕ) → (length x ≡ length y → ⊥) → is_eq (order x y) ≡ false
other_length x y f = go (order x y) refl
  where
    go : (o : Ordering) → order x y ≡ o → is_eq o ≡ false
    go Less e = refl
    go Equal e = absurd (f (ap length (order_same x y e)))
    go Greater e = refl

pub is_equal_true : (o : Ordering) → is_eq o ≡ true → o ≡ Equal
is_equal_true Less e = absurd (false≢true e)
is_equal_true Equal e = refl
is_equal_true Greater e = absurd (false≢true e)

-- two numbers by `cmp`
pub cmp-level : (x y : ℕ) → x ≡ y → nat_cmp x y ≡ Equal
cmp-level x y e = let h : y ≤ x = omega arith in rw (le-ltb x y h, eq-eqb x y e) refl

pub cmp-apart : (x y : ℕ) → (x ≡ y → ⊥) → (o : Ordering) → is_eq (ordering_then (nat_cmp x y) o) ≡ false
cmp-apart x y f o =
    by_ranked _ _ _ (nat_cmp x y) (ranked x y _ refl)
    (λ q (l : x < y). ap (λ p. is_eq (ordering_then p o)) q) (λ q (e : x ≡ y). absurd (f e)) (λ q (l : y < x). ap (λ p. is_eq (ordering_then p o)) q)

-- it is the order that Rust's `cmp` answers
pub order_cmp : (x y : List ℕ) → slice_cmp nat_cmp x y ≡ order x y
unfolding order
order_cmp [] [] = refl
order_cmp [] (b ∷ y) = refl
order_cmp (a ∷ x) [] = refl
order_cmp (a ∷ x) (b ∷ y) =
    ⊎_elim (λ (h : a < b). rw (lt-ltb a b h))
    (⊎_elim (λ (e : a ≡ b). let h : b ≤ a = omega arith in let k : a ≤ b = omega arith in rw (le-ltb a b h, le-ltb b a k, eq-eqb a b e, order_cmp x y))
    (λ (h : b < a). let k : b ≤ a = omega arith in let n : a ≡ b → ⊥ = omega arith in rw (le-ltb a b k, lt-ltb b a h, ne_eqb a b n)))
    (three a b)

-- below one way is above the other way
pub order_above : (x y : List ℕ) → order x y ≡ Less → order y x ≡ Greater
unfolding order
order_above [] [] e = cc
order_above [] (b ∷ y) e = refl
order_above (a ∷ x) [] e = cc
order_above (a ∷ x) (b ∷ y) e =
    ⊎_elim (λ (h : a < b). more b a y x h)
    (λ (h : (a ≡ b) × (order x y ≡ Less)). equal b a y x (sym h.0) ∙ order_above x y h.1)
    (below_by a b x y e)

pub order_below : (x y : List ℕ) → order x y ≡ Greater → order y x ≡ Less
unfolding order
order_below [] [] e = cc
order_below [] (b ∷ y) e = cc
order_below (a ∷ x) [] e = refl
order_below (a ∷ x) (b ∷ y) e =
    ⊎_elim (λ (h : b < a). less b a y x h)
    (λ (h : (a ≡ b) × (order x y ≡ Greater)). equal b a y x (sym h.0) ∙ order_below x y h.1)
    (above_by a b x y e)

-- what is below what is below is below
pub order_trans : (x y z : List ℕ) → order x y ≡ Less → order y z ≡ Less → order x z ≡ Less
unfolding order
order_trans [] [] z e f = cc
order_trans [] (b ∷ y) [] e f = cc
order_trans [] (b ∷ y) (c ∷ z) e f = refl
order_trans (a ∷ x) [] z e f = cc
order_trans (a ∷ x) (b ∷ y) [] e f = cc
order_trans (a ∷ x) (b ∷ y) (c ∷ z) e f =
    ⊎_elim
    (λ (h : a < b).
    ⊎_elim (λ (k : b < c). less a c x z (omega arith)) (λ (k : (b ≡ c) × (order y z ≡ Less)). less a c x z (omega (arith, k.0)))
    (below_by b c y z f))
    (λ (h : (a ≡ b) × (order x y ≡ Less)).
    ⊎_elim (λ (k : b < c). less a c x z (omega (arith, h.0)))
    (λ (k : (b ≡ c) × (order y z ≡ Less)). equal a c x z (h.0 ∙ k.0) ∙ order_trans x y z h.1 k.1)
    (below_by b c y z f))
    (below_by a b x y e)

-- nothing but the three
pub order_cases : (x y : List ℕ) → (order x y ≡ Less) ⊎ ((order x y ≡ Equal) ⊎ (order x y ≡ Greater))
order_cases x y = go (order x y)
  where
    go : (o : Ordering) → (o ≡ Less) ⊎ ((o ≡ Equal) ⊎ (o ≡ Greater))
    go Less = inl refl
    go Equal = inr (inl refl)
    go Greater = inr (inr refl)

-- The same of `below`.
less-is : (o : Ordering) → is_lt o ≡ true → o ≡ Less
less-is Less e = refl
less-is Equal e = absurd (false≢true e)
less-is Greater e = absurd (false≢true e)

pub below-is : (x y : List ℕ) → below x y ≡ true → order x y ≡ Less
unfolding below
below-is x y e = less-is (order x y) e

pub is_below : (x y : List ℕ) → order x y ≡ Less → below x y ≡ true
unfolding below
is_below x y e = ap is_lt e

pub below_irreflexive : (x : List ℕ) → below x x ≡ false
unfolding below
below_irreflexive x = ap is_lt (order_refl x)

pub below_antisymmetric : (x y : List ℕ) → below x y ≡ true → below y x ≡ false
unfolding below
below_antisymmetric x y e = ap is_lt (order_above x y (below-is x y e))

pub below_transitive : (x y z : List ℕ) → below x y ≡ true → below y z ≡ true → below x z ≡ true
below_transitive x y z e f = is_below x z (order_trans x y z (below-is x y e) (below-is y z f))

pub below_total : (x y : List ℕ) → (below x y ≡ true) ⊎ ((x ≡ y) ⊎ (below y x ≡ true))
below_total x y =
    ⊎_elim (λ (h : order x y ≡ Less). inl (is_below x y h))
    (⊎_elim (λ (h : order x y ≡ Equal). inr (inl (order_same x y h))) (λ (h : order x y ≡ Greater). inr (inr (is_below y x (order_below x y h)))))
    (order_cases x y)

-- Two strings, byte by byte, from the place i on.
module _ (a b : List ℕ) (i : ℕ) where
  pub order_turn : i < length a → i < length b
      → order (drop i a) (drop i b) ≡ ordering_then (nat_cmp (get_or a i 0) (get_or b i 0)) (order (drop (i + 1) a) (drop (i + 1) b))
  order_turn h k =
      let x = get_or a i 0 in
      let y = get_or b i 0 in
      let s = drop (i + 1) a in
      let t = drop (i + 1) b in
      rw (drop_more a i 0 h, drop_more b i 0 k) (sym (order_cmp (x ∷ s) (y ∷ t)) ∙ ap (ordering_then (nat_cmp x y)) (order_cmp s t))

  pub order_level : i < length a → i < length b → get_or a i 0 ≡ get_or b i 0 → order (drop i a) (drop i b) ≡ order (drop (i + 1) a) (drop (i + 1) b)
  order_level h k e =
      order_turn h k ∙ ap (λ o. ordering_then o (order (drop (i + 1) a) (drop (i + 1) b))) (cmp-level (get_or a i 0) (get_or b i 0) e)

  pub order_go : i < length a → i < length b → get_or b i 0 ≤ get_or a i 0 → get_or a i 0 ≤ get_or b i 0
      → order (drop i a) (drop i b) ≡ order (drop (i + 1) a) (drop (i + 1) b)
  order_go h k p q = order_level h k (omega arith)

  pub order-less : i < length a → i < length b → get_or a i 0 < get_or b i 0 → order (drop i a) (drop i b) ≡ Less
  unfolding order
  order-less h k p = rw (drop_more a i 0 h, drop_more b i 0 k, lt-ltb _ _ p)

  pub order-more : i < length a → i < length b → get_or b i 0 ≤ get_or a i 0 → get_or b i 0 < get_or a i 0 → order (drop i a) (drop i b) ≡ Greater
  unfolding order
  order-more h k p q = rw (drop_more a i 0 h, drop_more b i 0 k, le-ltb _ _ p, lt-ltb _ _ q)

  pub order_long : i < length a → length b ≤ i → order (drop i a) (drop i b) ≡ Greater
  unfolding order
  order_long h k = rw (drop_more a i 0 h, drop_of_length-le b {i = i} k)

  pub order-both : length a ≤ i → length b ≤ i → order (drop i a) (drop i b) ≡ Equal
  unfolding order
  order-both h k = rw (drop_of_length-le a {i = i} h, drop_of_length-le b {i = i} k)

  pub order_short : length a ≤ i → i < length b → order (drop i a) (drop i b) ≡ Less
  unfolding order
  order_short h k = rw (drop_of_length-le a {i = i} h, drop_more b i 0 k)

  pub order-apart : i < length a → i < length b → (get_or a i 0 ≡ get_or b i 0 → ⊥) → is_eq (order (drop i a) (drop i b)) ≡ false
  order-apart h k f = ap is_eq (order_turn h k) ∙ cmp-apart (get_or a i 0) (get_or b i 0) f (order (drop (i + 1) a) (drop (i + 1) b))

  pub order_stop : i ≡ min (length a) (length b) → order (drop i a) (drop i b) ≡ nat_cmp (length a) (length b)
  unfolding order
  order_stop m =
      by_ranked _ _ _ (nat_cmp (length a) (length b)) (ranked (length a) (length b) _ refl)
      (λ o (l : length a < length b). rw (drop_of_length-le a {i = i} (omega arith), drop_more b i 0 (omega arith)) (sym o))
      (λ o (l : length a ≡ length b). rw (drop_of_length-le a {i = i} (omega arith), drop_of_length-le b {i = i} (omega arith)) (sym o))
      (λ o (l : length b < length a). rw (drop_more a i 0 (omega arith), drop_of_length-le b {i = i} (omega arith)) (sym o))
