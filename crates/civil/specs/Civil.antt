-- Gregorian dates and times of day: document 01, "Records", kinds 5 and 6.
use Rattle.std.specs.Prelude.{ℕ, ◌%◌, [], ◌∷◌, Bool, eqb, leb}
use Rattle.prelude.specs.Choice.{pick, both, either, negated, between, some}

-- a leap year: each fourth, but of the centuries only each fourth
unfoldable pub leap : ℕ → Bool
leap y = both (eqb (y % 4) 0) (either (negated (eqb (y % 100) 0)) (eqb (y % 400) 0))

-- the days of a month
unfoldable pub days_in : ℕ → ℕ → ℕ
days_in y m =
    pick (eqb m 2) (pick (leap y) 29 28)
    (pick (some (eqb m) (4 ∷ 6 ∷ 9 ∷ 11 ∷ [])) 30 31)

abbrev pub year_limit : ℕ
year_limit = 9999

-- year 1 to 9999, month 1 to 12, and a day that the month has
unfoldable pub valid_date : ℕ → ℕ → ℕ → Bool
valid_date y m d = both (between 1 y year_limit) (both (between 1 m 12) (between 1 d (days_in y m)))

-- hour 0 to 23, minute and second 0 to 59
unfoldable pub valid_time : ℕ → ℕ → ℕ → Bool
valid_time h m s = both (leb h 23) (both (leb m 59) (leb s 59))
