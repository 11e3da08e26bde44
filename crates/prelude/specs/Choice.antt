-- Choosing by a test, tests joined, and a test over a whole list: the words that every other definition is written in.
use Rattle.std.specs.Prelude.{ℕ, List, [], ◌∷◌, Bool, true, false, eqb, leb}
use Rattle.std.specs.List.{list_all}
use Rattle.std.specs.Str.{bytes_eq}

-- a where the test holds, else b
abbrev pub pick : {A : Type 0} → Bool → A → A → A
pick true a b = a
pick false a b = b

abbrev pub both : Bool → Bool → Bool
both a b = pick a b false

abbrev pub either : Bool → Bool → Bool
either a b = pick a true b

abbrev pub negated : Bool → Bool
negated a = pick a false true

-- lo ≤ n ≤ hi
abbrev pub between : ℕ → ℕ → ℕ → Bool
between lo n hi = both (leb lo n) (leb n hi)

-- every element passes
abbrev pub all : (ℕ → Bool) → List ℕ → Bool
all f s = list_all f s

-- some element passes
unfoldable pub some : {A : Type 0} → (A → Bool) → List A → Bool
some f [] = false
some f (x ∷ s) = pick (f x) true (some f s)

-- two lists are the same, number by number
abbrev pub same : List ℕ → List ℕ → Bool
same s t = bytes_eq s t

-- a number's entry in a table, or, if it has none, the value given for all others
abbrev pub entry_at : {A : Type 0} → List (ℕ × A) → A → ℕ → A
entry_at [] a n = a
entry_at (row ∷ rows) a n = pick (eqb n row.0) row.1 (entry_at rows a n)
