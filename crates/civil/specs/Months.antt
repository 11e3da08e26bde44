-- The lengths of the months: as the Gregorian calendar lists them, and as document 02, slip 3, reckons them.
use Rattle.std.specs.Prelude.{ℕ, ◌+◌, ◌-◌, ◌/◌, ◌%◌, List, [], ◌∷◌, get_or}

-- the days of January to December in a common year
abbrev pub lengths : List ℕ
lengths = 31 ∷ 28 ∷ 31 ∷ 30 ∷ 31 ∷ 30 ∷ 31 ∷ 31 ∷ 30 ∷ 31 ∷ 30 ∷ 31 ∷ []

-- the length of month m, 1 to 12, in the table
abbrev pub listed : ℕ → ℕ
listed m = get_or lengths (m - 1) 0

-- its length by arithmetic, but for February; / is the whole quotient
abbrev pub reckoned : ℕ → ℕ
reckoned m = 30 + (m + m / 8) % 2
