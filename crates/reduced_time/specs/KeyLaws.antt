-- Laws of specs/Sort.antt of reduce: written instants of one width compare as byte strings as their places in time do, in either writing; an open end
-- that stands alone lies below them and is equal to itself: document 02, slip 8; document 01, "Truth".
use Rattle.std.specs.Prelude.{ℕ, ◌+◌, ◌*◌, ◌≤◌, ◌<◌, ◌≡◌, refl, Bool, true, false, eqb, ltb}
use Rattle.std.proofs.Common.{sym, ◌∙◌, ⊎_elim, arith, lt-ltb, le-ltb, eq-eqb, ne_eqb}
use Rattle.std.proofs.Math.Path.{ap}
use mathlib.Core.List.{List, [], ◌∷◌}
use Rattle.prelude.specs.Choice.{pick, both, between, some, negated}
use Rattle.prelude.specs.ChoiceLaws.{both_true, between_true}
use Rattle.civil.specs.Civil.{days_in, valid_date, valid_time}
use Rattle.std.specs.declared.cmp.Ordering.{Ordering}
use Rattle.std.specs.declared.cmp.Ordering.TheVariants.{Less, Equal, Greater}
use Rattle.order.specs.Order.{order}
use Rattle.order.specs.OrderLaws.{three, order_refl, order_above}
use Rattle.literal.specs.declared.Writing.{Writing}
use Rattle.literal.specs.declared.Writing.TheVariants.{Rust, GeoPackage}
use Rattle.literal.specs.Literal.{alone}
use Rattle.literal.specs.Literal as literal
use Rattle.lexer.specs.declared.Kind.TheVariants.{Lt as LT, Gt as GT, Eq as EQ, Ne as NE}
use Rattle.truth.specs.Grammar as grammar
use Rattle.time.specs.Ogc.{Width, ten, nineteen, twenty_four, is_instant, fields}
use Rattle.time.specs.InstantLaws.{step, step_less, step-more, step_same, as_one, fields-order, open_below, date-small, time_small, date-instant, date-fields, timestamp-instant, timestamp-fields}
use Rattle.reduce.specs.Sort.{key}

-- how two places in time stand to each other
abbrev pub by_key : ℕ → ℕ → Ordering
by_key x y = step x y Equal

-- ---- Six numbers in turn are compared as one.

two_numbers : (p q p' q' : ℕ) (r : Ordering) → q ≤ 99 → q' ≤ 99 → step p p' (step q q' r) ≡ step (p * 100 + q) (p' * 100 + q') r
two_numbers p q p' q' r h k =
    as_one p q p' q' (p * 100 + q) (p' * 100 + q') r
    (λ l. omega arith) (λ l. omega arith) (λ e l. omega arith) (λ e l. omega arith) (λ e f. omega arith)

six : (y m d h i s y' m' d' h' i' s' : ℕ) → m ≤ 99 → m' ≤ 99 → d ≤ 99 → d' ≤ 99 → h ≤ 99 → h' ≤ 99 → i ≤ 99 → i' ≤ 99 → s ≤ 99 → s' ≤ 99
    → step y y' (step m m' (step d d' (step h h' (step i i' (step s s' Equal))))) ≡ by_key (key y m d h i s) (key y' m' d' h' i' s')
six y m d h i s y' m' d' h' i' s' a a' b b' c c' e e' f f' =
    two_numbers y m y' m' (step d d' (step h h' (step i i' (step s s' Equal)))) a a'
    ∙ two_numbers (y * 100 + m) d (y' * 100 + m') d' (step h h' (step i i' (step s s' Equal))) b b'
    ∙ two_numbers ((y * 100 + m) * 100 + d) h ((y' * 100 + m') * 100 + d') h' (step i i' (step s s' Equal)) c c'
    ∙ two_numbers (((y * 100 + m) * 100 + d) * 100 + h) i (((y' * 100 + m') * 100 + d') * 100 + h') i' (step s s' Equal) e e'
    ∙ two_numbers ((((y * 100 + m) * 100 + d) * 100 + h) * 100 + i) s ((((y' * 100 + m') * 100 + d') * 100 + h') * 100 + i') s' Equal f f'

year_one : (y m d : ℕ) → valid_date y m d ≡ true → 1 ≤ y
unfolding valid_date
year_one y m d e = (between_true 1 y 9999 (both_true (between 1 y 9999) (both (between 1 m 12) (between 1 d (days_in y m))) e).0).0

-- ---- Two dates, and two timestamps.

pub dates_by_key : (y m d y' m' d' : ℕ) → valid_date y m d ≡ true → valid_date y' m' d' ≡ true
    → order (literal.date y m d) (literal.date y' m' d') ≡ by_key (key y m d 0 0 0) (key y' m' d' 0 0 0)
unfolding order
dates_by_key y m d y' m' d' e f =
    let a = date-small y m d e in
    let b = date-small y' m' d' f in
    fields-order ten (literal.date y m d) (literal.date y' m' d') (date-instant y m d e) (date-instant y' m' d' f)
    ∙ ap (λ (x : List ℕ). order x (fields ten (literal.date y' m' d'))) (date-fields y m d e)
    ∙ ap (λ (x : List ℕ). order (y ∷ m ∷ d ∷ []) x) (date-fields y' m' d' f)
    ∙ six y m d 0 0 0 y' m' d' 0 0 0 a.1 b.1 a.2 b.2 (omega arith) (omega arith) (omega arith) (omega arith) (omega arith) (omega arith)

module _ (y m d h i s : ℕ) (e : valid_date y m d ≡ true) (g : valid_time h i s ≡ true) where
  pub timestamps-by-key : (w : Writing) (y' m' d' h' i' s' : ℕ) → valid_date y' m' d' ≡ true → valid_time h' i' s' ≡ true
      → order (literal.timestamp w y m d h i s) (literal.timestamp w y' m' d' h' i' s') ≡ by_key (key y m d h i s) (key y' m' d' h' i' s')
  unfolding order
  timestamps-by-key Rust y' m' d' h' i' s' f j =
      let a = date-small y m d e in
      let b = date-small y' m' d' f in
      let p = time_small h i s g in
      let q = time_small h' i' s' j in
      fields-order nineteen (literal.timestamp Rust y m d h i s) (literal.timestamp Rust y' m' d' h' i' s')
      (timestamp-instant y m d h i s e g nineteen refl) (timestamp-instant y' m' d' h' i' s' f j nineteen refl)
      ∙ ap (λ (x : List ℕ). order x (fields nineteen (literal.timestamp Rust y' m' d' h' i' s'))) (timestamp-fields y m d h i s e g nineteen refl)
      ∙ ap (λ (x : List ℕ). order (y ∷ m ∷ d ∷ h ∷ i ∷ s ∷ []) x) (timestamp-fields y' m' d' h' i' s' f j nineteen refl)
      ∙ six y m d h i s y' m' d' h' i' s' a.1 b.1 a.2 b.2 p.0 q.0 p.1 q.1 p.2 q.2
  timestamps-by-key GeoPackage y' m' d' h' i' s' f j =
      let a = date-small y m d e in
      let b = date-small y' m' d' f in
      let p = time_small h i s g in
      let q = time_small h' i' s' j in
      fields-order twenty_four (literal.timestamp GeoPackage y m d h i s) (literal.timestamp GeoPackage y' m' d' h' i' s')
      (timestamp-instant y m d h i s e g twenty_four refl) (timestamp-instant y' m' d' h' i' s' f j twenty_four refl)
      ∙ ap (λ (x : List ℕ). order x (fields twenty_four (literal.timestamp GeoPackage y' m' d' h' i' s'))) (timestamp-fields y m d h i s e g twenty_four refl)
      ∙ ap (λ (x : List ℕ). order (y ∷ m ∷ d ∷ h ∷ i ∷ s ∷ 0 ∷ []) x) (timestamp-fields y' m' d' h' i' s' f j twenty_four refl)
      ∙ six y m d h i s y' m' d' h' i' s' a.1 b.1 a.2 b.2 p.0 q.0 p.1 q.1 p.2 q.2

-- ---- An open end that stands alone.

pub opens_by_key : (w : Writing) → order (literal.open_end w alone) (literal.open_end w alone) ≡ by_key 0 0
opens_by_key w = order_refl (literal.open_end w alone)

-- below a string that lies above the first call's open start: a string of digits, in either writing
pub open_by_key : (w : Writing) (v : Width) (x : List ℕ) (k : ℕ) → is_instant v x ≡ true → 0 < k → order (literal.open_end w alone) x ≡ by_key 0 k
unfolding literal.open_end
open_by_key w v x k e l = open_below v x e ∙ sym (step_less 0 k Equal l)

pub by_key_open : (w : Writing) (v : Width) (x : List ℕ) (k : ℕ) → is_instant v x ≡ true → 0 < k → order x (literal.open_end w alone) ≡ by_key k 0
unfolding literal.open_end
by_key_open w v x k e l = order_above (literal.open_end w alone) x (open_below v x e) ∙ sym (step-more k 0 Equal l)

-- the width of a written timestamp
abbrev pub width_of : Writing → Width
width_of Rust = nineteen
width_of GeoPackage = twenty_four

pub written-timestamp : (w : Writing) (y m d h i s : ℕ) → valid_date y m d ≡ true → valid_time h i s ≡ true → is_instant (width_of w) (literal.timestamp w y m d h i s) ≡ true
written-timestamp Rust y m d h i s e f = timestamp-instant y m d h i s e f nineteen refl
written-timestamp GeoPackage y m d h i s e f = timestamp-instant y m d h i s e f twenty_four refl

pub key_positive : (y m d h i s : ℕ) → valid_date y m d ≡ true → 0 < key y m d h i s
key_positive y m d h i s e = let a = year_one y m d e in omega arith

-- ---- What the order says of the four signs.

pub below_key : (x y : ℕ) → grammar.holds LT (by_key x y) ≡ ltb x y
unfolding grammar.holds some
below_key x y = go (ltb x y) (ltb y x)
  where
    go : (p q : Bool) → grammar.holds LT (pick p Less (pick q Greater Equal)) ≡ p
    go true q = refl
    go false true = refl
    go false false = refl

pub above_key : (x y : ℕ) → grammar.holds GT (by_key x y) ≡ ltb y x
unfolding grammar.holds some
above_key x y =
    ⊎_elim (λ (l : x < y). let k : x ≤ y = omega arith in rw (step_less x y Equal l, le-ltb y x k))
    (⊎_elim (λ (l : x ≡ y). let k : x ≤ y = omega arith in rw (step_same x y Equal l, le-ltb y x k))
    (λ (l : y < x). rw (step-more x y Equal l, lt-ltb y x l)))
    (three x y)

pub same_key : (x y : ℕ) → grammar.holds EQ (by_key x y) ≡ eqb x y
unfolding grammar.holds some
same_key x y =
    ⊎_elim (λ (l : x < y). let k : x ≡ y → ⊥ = λ e. omega arith in rw (step_less x y Equal l, ne_eqb x y k))
    (⊎_elim (λ (l : x ≡ y). rw (step_same x y Equal l, eq-eqb x y l))
    (λ (l : y < x). let k : x ≡ y → ⊥ = λ e. omega arith in rw (step-more x y Equal l, ne_eqb x y k)))
    (three x y)

pub other_key : (x y : ℕ) → grammar.holds NE (by_key x y) ≡ negated (eqb x y)
unfolding grammar.holds some
other_key x y =
    ⊎_elim (λ (l : x < y). let k : x ≡ y → ⊥ = λ e. omega arith in rw (step_less x y Equal l, ne_eqb x y k))
    (⊎_elim (λ (l : x ≡ y). rw (step_same x y Equal l, eq-eqb x y l))
    (λ (l : y < x). let k : x ≡ y → ⊥ = λ e. omega arith in rw (step-more x y Equal l, ne_eqb x y k)))
    (three x y)
