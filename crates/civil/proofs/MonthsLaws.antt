-- The date rule in a common year, and outside February the arithmetic, have the lengths of the calendar's table, month by month. One test, computed
-- over the table's twelve rows, holds both against each; the year then only decides about February.
use Prim.Native.Nat.{ℕ, zero, suc, ◌≤◌}
use mathlib.Core.Path.{◌≡◌, refl, ap, sym, subst, ◌∙◌}
use mathlib.Core.Bool.{Bool, true, false}
use native.Mathlib.Nat.{not-suc-le-zero, suc-sub-suc, sub-zero}
use lib.Dec.{T, eqb, eqb→eq}
use lib.ListN.{get_or}
use Rattle.prelude.specs.Choice.{pick, both, either, some}
use Rattle.prelude.specs.Table.{both_left, both_right, at}
use Rattle.civil.specs.Civil.{leap, days_in}
use Rattle.civil.specs.Months.{lengths, listed, reckoned}

-- by the date rule month m has n days in a common year
abbrev by-rule : ℕ → ℕ → Bool
by-rule m n = eqb (days_in 1 m) n

-- and by the arithmetic, unless it is February
abbrev by_arithmetic : ℕ → ℕ → Bool
by_arithmetic m n = either (eqb m 2) (eqb (reckoned m) n)

-- the test passes in each row of the table
right : (m : ℕ) → 1 ≤ m → m ≤ 12 → T (both (by-rule m (listed m)) (by_arithmetic m (listed m)))
unfolding days_in leap some
right zero l h = absurd (not-suc-le-zero l)
right (suc k) l h =
    subst (λ (i : ℕ). T (both (by-rule (suc k) (get_or lengths i 0)) (by_arithmetic (suc k) (get_or lengths i 0))))
    (sym (suc-sub-suc k 0 ∙ sub-zero k))
    (at (λ i n. both (by-rule (suc i) n) (by_arithmetic (suc i) n)) lengths tt k h)

-- outside February the arithmetic has the table's length
pub reckoned-is-listed : (m : ℕ) → 1 ≤ m → m ≤ 12 → eqb m 2 ≡ false → reckoned m ≡ listed m
reckoned-is-listed m l h e = other (eqb m 2) e (both_right (by-rule m (listed m)) (by_arithmetic m (listed m)) (right m l h))
  where
    other : (b : Bool) → b ≡ false → T (either b (eqb (reckoned m) (listed m))) → reckoned m ≡ listed m
    other true e t = cc
    other false e t = eqb→eq (reckoned m) (listed m) t

common_is_listed : (m : ℕ) → 1 ≤ m → m ≤ 12 → days_in 1 m ≡ listed m
common_is_listed m l h = eqb→eq (days_in 1 m) (listed m) (both_left (by-rule m (listed m)) (by_arithmetic m (listed m)) (right m l h))

leap-day : (february long : Bool) (n : ℕ) → pick february (pick long 29 28) n ≡ pick (both february long) 29 (pick february 28 n)
leap-day true true n = refl
leap-day true false n = refl
leap-day false long n = refl

-- the date rule has the table's length, and 29 days for February in a leap year
pub days_in-is-listed : (y m : ℕ) → 1 ≤ m → m ≤ 12 → days_in y m ≡ pick (both (eqb m 2) (leap y)) 29 (listed m)
unfolding days_in leap
days_in-is-listed y m l h = leap-day (eqb m 2) (leap y) _ ∙ ap (λ (n : ℕ). pick (both (eqb m 2) (leap y)) 29 n) (common_is_listed m l h)

-- so outside February the arithmetic is the date rule's
pub reckoned-is-days : (y m : ℕ) → 1 ≤ m → m ≤ 12 → eqb m 2 ≡ false → reckoned m ≡ days_in y m
reckoned-is-days y m l h e = reckoned-is-listed m l h e ∙ sym (days_in-is-listed y m l h ∙ simp e)
