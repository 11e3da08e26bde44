-- The order of bytes of two valid values of one width is the order of their calendar fields: digit by digit is number by number, as two or three
-- digits or two numbers compared in turn are compared as one. A written date or timestamp reads back as its fields, an open start lies below every
-- valid value and the second call's open end above.
use Rattle.std.specs.Prelude.{ℕ, suc, ◌+◌, ◌-◌, ◌*◌, ◌/◌, ◌%◌, ◌≤◌, ◌<◌, ◌≡◌, Bool, true, false, get_or, drop, eqb, leb, ltb}
use Rattle.std.proofs.Math.Path.{refl, ap}
use Rattle.std.proofs.Common.{sym, ◌∙◌, ⊎_elim, lt-ltb, le-ltb, le-leb, leb-true, eqb-true}
use mathlib.Core.List.{List, [], ◌∷◌, ◌++◌}
use native.Mathlib.Omega.{arith}
use Rattle.std.proofs.Math.ListN.{length, drop_of_length-le}
use Rattle.std.proofs.Math.Seq.{drop-cons}
use Rattle.prelude.specs.Choice.{pick, both, between, some}
use Rattle.prelude.specs.ChoiceLaws.{both_true, between_true}
use Rattle.charset.specs.Charset.{digit}
use Rattle.civil.specs.Civil.{leap, days_in, valid_date, valid_time}
use Rattle.std.specs.declared.cmp.Ordering.{Ordering}
use Rattle.std.specs.declared.cmp.Ordering.TheVariants.{Less, Equal, Greater}
use Rattle.order.specs.Order.{order}
use Rattle.order.specs.OrderLaws.{three}
use Rattle.literal.specs.Literal as literal
use Rattle.literal.specs.Literal.{first_end, second_end}
use Rattle.literal.specs.declared.Writing.{Writing}
use Rattle.literal.specs.declared.Writing.TheVariants.{GeoPackage}
use Rattle.prelude.specs.Bytes.{bytes}
use Rattle.tree.specs.Kinds.{TIMESTAMP}
use Rattle.tree.specs.Tree.{timestamp}
use Rattle.time.specs.Ogc.{two_at, three_at, are_two, year_of, begins_date, goes_on_time, goes_on_milliseconds, Width, ten, nineteen, twenty_four, is_instant, fields, writing_of, written, written_fields}

-- Comparing number by number.

-- the order of two lists by their first numbers, and by the rest where these are the same
abbrev pub step : ℕ → ℕ → Ordering → Ordering
step a b r = pick (ltb a b) Less (pick (ltb b a) Greater r)

pub step_less : (a b : ℕ) (r : Ordering) → a < b → step a b r ≡ Less
step_less a b r h = rw (lt-ltb a b h)

pub step-more : (a b : ℕ) (r : Ordering) → b < a → step a b r ≡ Greater
step-more a b r h = let k : b ≤ a = omega arith in rw (le-ltb a b k, lt-ltb b a h)

pub step_same : (a b : ℕ) (r : Ordering) → a ≡ b → step a b r ≡ r
step_same a b r e = let h : b ≤ a = omega arith in let k : a ≤ b = omega arith in rw (le-ltb a b h, le-ltb b a k)

-- two numbers in turn are compared as one that orders as they do
module _ (p q p' q' m m' : ℕ) (r : Ordering) (less : p < p' → m < m') (more : p' < p → m' < m) (next-less : p ≡ p' → q < q' → m < m')
    (next_more : p ≡ p' → q' < q → m' < m) (same : p ≡ p' → q ≡ q' → m ≡ m') where
  pub as_one : step p p' (step q q' r) ≡ step m m' r
  as_one =
      ⊎_elim (λ (h : p < p'). step_less p p' (step q q' r) h ∙ sym (step_less m m' r (less h)))
      (⊎_elim
      (λ (h : p ≡ p').
      step_same p p' (step q q' r) h
      ∙ ⊎_elim (λ (k : q < q'). step_less q q' r k ∙ sym (step_less m m' r (next-less h k)))
      (⊎_elim (λ (k : q ≡ q'). step_same q q' r k ∙ sym (step_same m m' r (same h k)))
      (λ (k : q' < q). step-more q q' r k ∙ sym (step-more m m' r (next_more h k))))
      (three q q'))
      (λ (h : p' < p). step-more p p' (step q q' r) h ∙ sym (step-more m m' r (more h))))
      (three p p')

abbrev Digit : ℕ → Type 0
Digit b = (48 ≤ b) × (b ≤ 57)

abbrev number : ℕ → ℕ → ℕ
number a b = (a - 48) * 10 + (b - 48)

digit-is : (b : ℕ) → digit b ≡ true → Digit b
unfolding digit
digit-is b e = between_true 48 b 57 e

two_digits : (a b a' b' : ℕ) (r : Ordering) → Digit a → Digit b → Digit a' → Digit b' → step a a' (step b b' r) ≡ step (number a b) (number a' b') r
two_digits a b a' b' r h i j k =
    as_one a b a' b' (number a b) (number a' b') r (λ l. omega arith) (λ l. omega arith) (λ e l. omega arith) (λ e l. omega arith)
    (λ e l. omega arith)

two_numbers : (p q p' q' : ℕ) (r : Ordering) → q < 100 → q' < 100 → step p p' (step q q' r) ≡ step (p * 100 + q) (p' * 100 + q') r
two_numbers p q p' q' r h k =
    as_one p q p' q' (p * 100 + q) (p' * 100 + q') r (λ l. omega arith) (λ l. omega arith) (λ e l. omega arith) (λ e l. omega arith)
    (λ e l. omega arith)

-- two digits and one more
third_digit : (p b p' b' : ℕ) (r : Ordering) → Digit b → Digit b' → step p p' (step b b' r) ≡ step (p * 10 + (b - 48)) (p' * 10 + (b' - 48)) r
third_digit p b p' b' r h k =
    as_one p b p' b' (p * 10 + (b - 48)) (p' * 10 + (b' - 48)) r (λ l. omega arith) (λ l. omega arith) (λ e l. omega arith) (λ e l. omega arith)
    (λ e l. omega arith)

number_small : (a b : ℕ) → Digit a → Digit b → number a b < 100
number_small a b h k = omega arith

-- Comparing from a place on.
module _ (x y : List ℕ) where
  abbrev from : ℕ → Ordering
  from i = order (drop i x) (drop i y)

  abbrev Long : ℕ → Type 0
  Long n = (n ≤ length x) × (n ≤ length y)

  one_byte : (i : ℕ) → i < length x → i < length y → from i ≡ step (get_or x i 0) (get_or y i 0) (from (suc i))
  unfolding order
  one_byte i h k = rw (drop-cons x i 0 h, drop-cons y i 0 k)

  -- a hyphen and the like
  sign_from : (i b : ℕ) → i < length x → i < length y → get_or x i 0 ≡ b → get_or y i 0 ≡ b → from i ≡ from (suc i)
  sign_from i b h k e f = one_byte i h k ∙ step_same (get_or x i 0) (get_or y i 0) (from (suc i)) (e ∙ sym f)

  abbrev Two : List ℕ → ℕ → Type 0
  Two s i = both (digit (get_or s i 0)) (digit (get_or s (suc i) 0)) ≡ true

  first : (s : List ℕ) (i : ℕ) → Two s i → Digit (get_or s i 0)
  first s i e = digit-is (get_or s i 0) (both_true (digit (get_or s i 0)) (digit (get_or s (suc i) 0)) e).0

  second : (s : List ℕ) (i : ℕ) → Two s i → Digit (get_or s (suc i) 0)
  second s i e = digit-is (get_or s (suc i) 0) (both_true (digit (get_or s i 0)) (digit (get_or s (suc i) 0)) e).1

  two_from : (i : ℕ) → suc i < length x → suc i < length y → Two x i → Two y i
      → from i ≡ step (number (get_or x i 0) (get_or x (suc i) 0)) (number (get_or y i 0) (get_or y (suc i) 0)) (from (suc (suc i)))
  two_from i h k e f =
      one_byte i (omega arith) (omega arith)
      ∙ ap (λ r. step (get_or x i 0) (get_or y i 0) r) (one_byte (suc i) h k)
      ∙ two_digits (get_or x i 0) (get_or x (suc i) 0) (get_or y i 0) (get_or y (suc i) 0) (from (suc (suc i))) (first x i e) (second x i e)
      (first y i f) (second y i f)

-- The parts of a valid value.
record DateParts (s : List ℕ) : Type 0 where
  century : are_two s 0 ≡ true
  year : are_two s 2 ≡ true
  dash : get_or s 4 0 ≡ 45
  month : are_two s 5 ≡ true
  dash' : get_or s 7 0 ≡ 45
  day : are_two s 8 ≡ true

date-parts : (s : List ℕ) → begins_date s ≡ true → DateParts s
unfolding begins_date
date-parts s e =
    let a = both_true (are_two s 0) _ e in
    let b = both_true (are_two s 2) _ a.1 in
    let c = both_true (eqb (get_or s 4 0) 45) _ b.1 in
    let d = both_true (are_two s 5) _ c.1 in
    let f = both_true (eqb (get_or s 7 0) 45) _ d.1 in
    let g = both_true (are_two s 8) _ f.1 in
    record {
      century = a.0;
      year = b.0;
      dash = eqb-true (get_or s 4 0) 45 c.0;
      month = d.0;
      dash' = eqb-true (get_or s 7 0) 45 f.0;
      day = g.0;
    }

record TimeParts (s : List ℕ) : Type 0 where
  tee : get_or s 10 0 ≡ 84
  hour : are_two s 11 ≡ true
  colon : get_or s 13 0 ≡ 58
  minute : are_two s 14 ≡ true
  colon' : get_or s 16 0 ≡ 58
  second : are_two s 17 ≡ true

time_parts : (s : List ℕ) → goes_on_time s ≡ true → TimeParts s
unfolding goes_on_time
time_parts s e =
    let a = both_true (eqb (get_or s 10 0) 84) _ e in
    let b = both_true (are_two s 11) _ a.1 in
    let c = both_true (eqb (get_or s 13 0) 58) _ b.1 in
    let d = both_true (are_two s 14) _ c.1 in
    let f = both_true (eqb (get_or s 16 0) 58) _ d.1 in
    let g = both_true (are_two s 17) _ f.1 in
    record {
      tee = eqb-true (get_or s 10 0) 84 a.0;
      hour = b.0;
      colon = eqb-true (get_or s 13 0) 58 c.0;
      minute = d.0;
      colon' = eqb-true (get_or s 16 0) 58 f.0;
      second = g.0;
    }

record MillisecondParts (s : List ℕ) : Type 0 where
  point : get_or s 19 0 ≡ 46
  tens : are_two s 20 ≡ true
  last : digit (get_or s 22 0) ≡ true
  zone : get_or s 23 0 ≡ 90

millisecond_parts : (s : List ℕ) → goes_on_milliseconds s ≡ true → MillisecondParts s
unfolding goes_on_milliseconds
millisecond_parts s e =
    let a = both_true (eqb (get_or s 19 0) 46) _ e in
    let b = both_true (are_two s 20) _ a.1 in
    let c = both_true (digit (get_or s 22 0)) _ b.1 in
    record { point = eqb-true (get_or s 19 0) 46 a.0; tens = b.0; last = c.0; zone = eqb-true (get_or s 23 0) 90 c.1 }

module _ (x y : List ℕ) where
  -- by year, month and day, and then as r says; and by hour, minute and second besides
  abbrev by-date : Ordering → Ordering
  by-date r = step (year_of x) (year_of y) (step (two_at x 5) (two_at y 5) (step (two_at x 8) (two_at y 8) r))

  abbrev by_time : Ordering → Ordering
  by_time r = by-date (step (two_at x 11) (two_at y 11) (step (two_at x 14) (two_at y 14) (step (two_at x 17) (two_at y 17) r)))

  date-order : 10 ≤ length x → 10 ≤ length y → DateParts x → DateParts y → from x y 0 ≡ by-date (from x y 10)
  date-order h k p q =
      two_from x y 0 (omega arith) (omega arith) p.century q.century
      ∙ ap (λ r. step (two_at x 0) (two_at y 0) r) (two_from x y 2 (omega arith) (omega arith) p.year q.year)
      ∙ two_numbers (two_at x 0) (two_at x 2) (two_at y 0) (two_at y 2) (from x y 4)
      (number_small (get_or x 2 0) (get_or x 3 0) (first x y x 2 p.year) (second x y x 2 p.year))
      (number_small (get_or y 2 0) (get_or y 3 0) (first x y y 2 q.year) (second x y y 2 q.year))
      ∙ ap (λ r. step (year_of x) (year_of y) r)
      (sign_from x y 4 45 (omega arith) (omega arith) p.dash q.dash
      ∙ two_from x y 5 (omega arith) (omega arith) p.month q.month
      ∙ ap (λ r. step (two_at x 5) (two_at y 5) r)
      (sign_from x y 7 45 (omega arith) (omega arith) p.dash' q.dash' ∙ two_from x y 8 (omega arith) (omega arith) p.day q.day))

  time_order : 19 ≤ length x → 19 ≤ length y → TimeParts x → TimeParts y
      → from x y 10 ≡ step (two_at x 11) (two_at y 11) (step (two_at x 14) (two_at y 14) (step (two_at x 17) (two_at y 17) (from x y 19)))
  time_order h k p q =
      sign_from x y 10 84 (omega arith) (omega arith) p.tee q.tee
      ∙ two_from x y 11 (omega arith) (omega arith) p.hour q.hour
      ∙ ap (λ r. step (two_at x 11) (two_at y 11) r)
      (sign_from x y 13 58 (omega arith) (omega arith) p.colon q.colon
      ∙ two_from x y 14 (omega arith) (omega arith) p.minute q.minute
      ∙ ap (λ r. step (two_at x 14) (two_at y 14) r)
      (sign_from x y 16 58 (omega arith) (omega arith) p.colon' q.colon' ∙ two_from x y 17 (omega arith) (omega arith) p.second q.second))

  -- a date and a time of day
  stamp_order : 19 ≤ length x → 19 ≤ length y → DateParts x → DateParts y → TimeParts x → TimeParts y → from x y 0 ≡ by_time (from x y 19)
  stamp_order h k p q t u = date-order (omega arith) (omega arith) p q ∙ ap by-date (time_order h k t u)

  millisecond_order : 24 ≤ length x → 24 ≤ length y → MillisecondParts x → MillisecondParts y
      → from x y 19 ≡ step (three_at x 20) (three_at y 20) (from x y 24)
  millisecond_order h k p q =
      sign_from x y 19 46 (omega arith) (omega arith) p.point q.point
      ∙ two_from x y 20 (omega arith) (omega arith) p.tens q.tens
      ∙ ap (λ r. step (two_at x 20) (two_at y 20) r) (one_byte x y 22 (omega arith) (omega arith))
      ∙ third_digit (two_at x 20) (get_or x 22 0) (two_at y 20) (get_or y 22 0) (from x y 23) (digit-is (get_or x 22 0) p.last) (digit-is (get_or y 22 0) q.last)
      ∙ ap (λ r. step (three_at x 20) (three_at y 20) r) (sign_from x y 23 90 (omega arith) (omega arith) p.zone q.zone)

  at_end : (n : ℕ) → length x ≡ n → length y ≡ n → from x y n ≡ Equal
  unfolding order
  at_end n h k =
      let p : length x ≤ n = omega arith in
      let q : length y ≤ n = omega arith in
      rw (drop_of_length-le x p, drop_of_length-le y q)

-- Bytes and fields are ordered alike.
pub fields-order : (w : Width) (x y : List ℕ) → is_instant w x ≡ true → is_instant w y ≡ true → order x y ≡ order (fields w x) (fields w y)
unfolding is_instant fields order
fields-order ten x y e f =
    let a = both_true (eqb (length x) 10) (begins_date x) e in
    let b = both_true (eqb (length y) 10) (begins_date y) f in
    let l : length x ≡ 10 = eqb-true (length x) 10 a.0 in
    let m : length y ≡ 10 = eqb-true (length y) 10 b.0 in
    date-order x y (omega arith) (omega arith) (date-parts x a.1) (date-parts y b.1)
    ∙ ap (by-date x y) (at_end x y 10 l m)
fields-order nineteen x y e f =
    let a = both_true (eqb (length x) 19) (both (begins_date x) (goes_on_time x)) e in
    let b = both_true (eqb (length y) 19) (both (begins_date y) (goes_on_time y)) f in
    let c = both_true (begins_date x) (goes_on_time x) a.1 in
    let d = both_true (begins_date y) (goes_on_time y) b.1 in
    let l : length x ≡ 19 = eqb-true (length x) 19 a.0 in
    let m : length y ≡ 19 = eqb-true (length y) 19 b.0 in
    stamp_order x y (omega arith) (omega arith) (date-parts x c.0) (date-parts y d.0) (time_parts x c.1) (time_parts y d.1)
    ∙ ap (by_time x y) (at_end x y 19 l m)
fields-order twenty_four x y e f =
    let a = both_true (eqb (length x) 24) (both (begins_date x) (both (goes_on_time x) (goes_on_milliseconds x))) e in
    let b = both_true (eqb (length y) 24) (both (begins_date y) (both (goes_on_time y) (goes_on_milliseconds y))) f in
    let c = both_true (begins_date x) (both (goes_on_time x) (goes_on_milliseconds x)) a.1 in
    let d = both_true (begins_date y) (both (goes_on_time y) (goes_on_milliseconds y)) b.1 in
    let g = both_true (goes_on_time x) (goes_on_milliseconds x) c.1 in
    let h = both_true (goes_on_time y) (goes_on_milliseconds y) d.1 in
    let l : length x ≡ 24 = eqb-true (length x) 24 a.0 in
    let m : length y ≡ 24 = eqb-true (length y) 24 b.0 in
    stamp_order x y (omega arith) (omega arith) (date-parts x c.0) (date-parts y d.0) (time_parts x g.0) (time_parts y h.0)
    ∙ ap (by_time x y)
    (millisecond_order x y (omega arith) (omega arith) (millisecond_parts x g.1) (millisecond_parts y h.1)
    ∙ ap (λ r. step (three_at x 20) (three_at y 20) r) (at_end x y 24 l m))

-- An open start lies below every valid value, and the second call's open end above.
begins : (w : Width) (x : List ℕ) → is_instant w x ≡ true → (10 ≤ length x) × DateParts x
unfolding is_instant
begins ten x e =
    let a = both_true (eqb (length x) 10) (begins_date x) e in
    let l : length x ≡ 10 = eqb-true (length x) 10 a.0 in
    (omega arith, date-parts x a.1)
begins nineteen x e =
    let a = both_true (eqb (length x) 19) (both (begins_date x) (goes_on_time x)) e in
    let c = both_true (begins_date x) (goes_on_time x) a.1 in
    let l : length x ≡ 19 = eqb-true (length x) 19 a.0 in
    (omega arith, date-parts x c.0)
begins twenty_four x e =
    let a = both_true (eqb (length x) 24) (both (begins_date x) (both (goes_on_time x) (goes_on_milliseconds x))) e in
    let c = both_true (begins_date x) (both (goes_on_time x) (goes_on_milliseconds x)) a.1 in
    let l : length x ≡ 24 = eqb-true (length x) 24 a.0 in
    (omega arith, date-parts x c.0)

open_first : (w : Writing) (x : List ℕ) → 0 < length x → 48 ≤ get_or x 0 0 → order (literal.open_end w first_end) x ≡ Less
unfolding order literal.open_end
open_first w [] h k = absurd (omega arith)
open_first w (a ∷ x) h k = let l : 45 < a = omega arith in rw (lt-ltb 45 a l)

pub open_below : (w : Width) (x : List ℕ) → is_instant w x ≡ true → order (literal.open_end (writing_of w) first_end) x ≡ Less
open_below w x e =
    let b = begins w x e in
    open_first (writing_of w) x (omega (arith, b.0)) (first x x x 0 b.1.century).0

open_last : (x : List ℕ) → 0 < length x → get_or x 0 0 ≤ 57 → order x (literal.open_end GeoPackage second_end) ≡ Less
unfolding order literal.open_end
open_last [] h k = absurd (omega arith)
open_last (a ∷ x) h k = let l : a < 65 = omega arith in rw (lt-ltb a 65 l)

pub open_above : (w : Width) (x : List ℕ) → is_instant w x ≡ true → order x (literal.open_end GeoPackage second_end) ≡ Less
open_above w x e =
    let b = begins w x e in
    open_last x (omega (arith, b.0)) (first x x x 0 b.1.century).1

-- A written instant reads back as its fields.
days_few : (y m : ℕ) → days_in y m ≤ 31
unfolding days_in
days_few y m = go (eqb m 2) (leap y) (some (eqb m) (4 ∷ 6 ∷ 9 ∷ 11 ∷ []))
  where
    go : (a b c : Bool) → pick a (pick b 29 28) (pick c 30 31) ≤ 31
    go true true c = omega arith
    go true false c = omega arith
    go false b true = omega arith
    go false b false = omega arith

pub date-small : (y m d : ℕ) → valid_date y m d ≡ true → (y ≤ 9999) × (m ≤ 99) × (d ≤ 99)
unfolding valid_date
date-small y m d e =
    let a = both_true (between 1 y 9999) (both (between 1 m 12) (between 1 d (days_in y m))) e in
    let b = both_true (between 1 m 12) (between 1 d (days_in y m)) a.1 in
    let f = between_true 1 y 9999 a.0 in
    let g = between_true 1 m 12 b.0 in
    let h = between_true 1 d (days_in y m) b.1 in
    (f.1, omega (arith, g.1), omega (arith, h.1, days_few y m))

pub time_small : (h m s : ℕ) → valid_time h m s ≡ true → (h ≤ 99) × (m ≤ 99) × (s ≤ 99)
unfolding valid_time
time_small h m s e =
    let a = both_true (leb h 23) (both (leb m 59) (leb s 59)) e in
    let b = both_true (leb m 59) (leb s 59) a.1 in (
      omega (arith, leb-true h 23 a.0),
      omega (arith, leb-true m 59 b.0),
      omega (arith, leb-true s 59 b.1),
    )

shown : (n : ℕ) → digit (48 + n % 10) ≡ true
unfolding digit
shown n =
    let p : 48 ≤ 48 + n % 10 = omega arith in
    let q : 48 + n % 10 ≤ 57 = omega arith in
    rw (le-leb 48 (48 + n % 10) p, le-leb (48 + n % 10) 57 q)

two_back : (n : ℕ) → n ≤ 99 → number (48 + n / 10 % 10) (48 + n % 10) ≡ n
two_back n h = omega arith

four_back : (n : ℕ) → n ≤ 9999
    → number (48 + n / 10 / 10 / 10 % 10) (48 + n / 10 / 10 % 10) * 100 + number (48 + n / 10 % 10) (48 + n % 10) ≡ n
four_back n h =
    let a : number (48 + n / 10 / 10 / 10 % 10) (48 + n / 10 / 10 % 10) ≡ n / 10 / 10 = two_back (n / 10 / 10) (omega arith) in
    omega arith

and_also : {a b : Bool} → a ≡ true → b ≡ true → both a b ≡ true
and_also p q = rw p q

module _ (y m d : ℕ) (e : valid_date y m d ≡ true) (r : List ℕ) where
  abbrev begun : List ℕ
  begun = literal.date y m d ++ r

  year_back : year_of begun ≡ y
  unfolding literal.date literal.low
  year_back = four_back y (date-small y m d e).0

  month_back : two_at begun 5 ≡ m
  unfolding literal.date literal.low
  month_back = two_back m (date-small y m d e).1

  day-back : two_at begun 8 ≡ d
  unfolding literal.date literal.low
  day-back = two_back d (date-small y m d e).2

  valid-back : valid_date (year_of begun) (two_at begun 5) (two_at begun 8) ≡ true
  valid-back = ap (λ z. valid_date z (two_at begun 5) (two_at begun 8)) year_back ∙ ap (λ z. valid_date y z (two_at begun 8)) month_back
      ∙ ap (λ z. valid_date y m z) day-back ∙ e

  date_begins : begins_date begun ≡ true
  unfolding begins_date literal.date literal.low
  date_begins =
      and_also (and_also (shown (y / 10 / 10 / 10)) (shown (y / 10 / 10)))
      (and_also (and_also (shown (y / 10)) (shown y))
      (and_also refl
      (and_also (and_also (shown (m / 10)) (shown m))
      (and_also refl (and_also (and_also (shown (d / 10)) (shown d)) valid-back)))))

pub date-instant : (y m d : ℕ) → valid_date y m d ≡ true → is_instant ten (literal.date y m d) ≡ true
unfolding is_instant literal.date literal.low
date-instant y m d e = date_begins y m d e []

pub date-fields : (y m d : ℕ) → valid_date y m d ≡ true → fields ten (literal.date y m d) ≡ y ∷ m ∷ d ∷ []
unfolding fields literal.date literal.low
date-fields y m d e =
    let a = year_back y m d e [] in
    let b = month_back y m d e [] in
    let c = day-back y m d e [] in
    cc

module _ (y m d h i s : ℕ) (e : valid_date y m d ≡ true) (f : valid_time h i s ≡ true) where
  -- what follows the date, with more after the seconds
  abbrev time : List ℕ → List ℕ
  time more = 84 ∷ (literal.low 2 h ++ (58 ∷ (literal.low 2 i ++ (58 ∷ (literal.low 2 s ++ more)))))

  abbrev stamp : List ℕ → List ℕ
  stamp more = literal.date y m d ++ time more

  hour_back : (more : List ℕ) → two_at (stamp more) 11 ≡ h
  unfolding literal.date literal.low
  hour_back more = two_back h (time_small h i s f).0

  minute_back : (more : List ℕ) → two_at (stamp more) 14 ≡ i
  unfolding literal.date literal.low
  minute_back more = two_back i (time_small h i s f).1

  second_back : (more : List ℕ) → two_at (stamp more) 17 ≡ s
  unfolding literal.date literal.low
  second_back more = two_back s (time_small h i s f).2

  time_back : (more : List ℕ) → valid_time (two_at (stamp more) 11) (two_at (stamp more) 14) (two_at (stamp more) 17) ≡ true
  time_back more =
      ap (λ z. valid_time z (two_at (stamp more) 14) (two_at (stamp more) 17)) (hour_back more)
      ∙ ap (λ z. valid_time h z (two_at (stamp more) 17)) (minute_back more)
      ∙ ap (λ z. valid_time h i z) (second_back more) ∙ f

  time_goes_on : (more : List ℕ) → goes_on_time (stamp more) ≡ true
  unfolding goes_on_time literal.date literal.low
  time_goes_on more =
      and_also refl
      (and_also (and_also (shown (h / 10)) (shown h))
      (and_also refl
      (and_also (and_also (shown (i / 10)) (shown i)) (and_also refl (and_also (and_also (shown (s / 10)) (shown s)) (time_back more))))))

  -- a written timestamp, by the width of what it is compared with
  pub timestamp-instant : (w : Width) → written w ≡ TIMESTAMP → is_instant w (literal.timestamp (writing_of w) y m d h i s) ≡ true
  unfolding is_instant goes_on_milliseconds digit literal.timestamp literal.after_seconds literal.clock literal.date literal.low
  timestamp-instant ten q = absurd (omega arith)
  timestamp-instant nineteen q = and_also (date_begins y m d e (time [])) (time_goes_on [])
  timestamp-instant twenty_four q = and_also (date_begins y m d e (time (bytes ".000Z"))) (and_also (time_goes_on (bytes ".000Z")) refl)

  six_fields : (more : List ℕ)
      → year_of (stamp more) ∷ two_at (stamp more) 5 ∷ two_at (stamp more) 8 ∷ two_at (stamp more) 11 ∷ two_at (stamp more) 14 ∷ two_at (stamp more) 17 ∷ []
      ≡ y ∷ m ∷ d ∷ h ∷ i ∷ s ∷ []
  six_fields more =
      let a = year_back y m d e (time more) in
      let b = month_back y m d e (time more) in
      let c = day-back y m d e (time more) in
      let p = hour_back more in
      let r = minute_back more in
      let t = second_back more in
      cc

  pub timestamp-fields : (w : Width) → written w ≡ TIMESTAMP → fields w (literal.timestamp (writing_of w) y m d h i s) ≡ written_fields w (timestamp y m d h i s)
  unfolding fields literal.timestamp literal.after_seconds literal.clock literal.date literal.low
  timestamp-fields ten q = absurd (omega arith)
  timestamp-fields nineteen q = six_fields []
  timestamp-fields twenty_four q = ap (λ (l : List ℕ). l ++ (0 ∷ [])) (six_fields (bytes ".000Z"))
