-- Which byte strings a Str text, a row's value and a quoted text may hold: well-formed UTF-8 by the Unicode Standard, Table 3-7 ("Well-Formed UTF-8
-- Byte Sequences"), without the bytes 00 to 1F and 7F. Document 02, slip 2.
use Rattle.std.specs.Prelude.{ℕ, List, [], ◌∷◌, Bool, true, false}
use Rattle.prelude.specs.Choice.{both, between, some}

-- a range of bytes, its first and its last
abbrev pub Range : Type 0
Range = ℕ × ℕ

abbrev pub within : Range → ℕ → Bool
within r b = between r.0 b r.1

-- The table, a row for each of its rows: the range of the first byte, and those of the bytes after it. The first row is 00 to 7F there.
unfoldable pub sequences : List (Range × List Range)
sequences =
    ((0x20, 0x7E), [])
    ∷ ((0xC2, 0xDF), (0x80, 0xBF) ∷ [])
    ∷ ((0xE0, 0xE0), (0xA0, 0xBF) ∷ (0x80, 0xBF) ∷ [])
    ∷ ((0xE1, 0xEC), (0x80, 0xBF) ∷ (0x80, 0xBF) ∷ [])
    ∷ ((0xED, 0xED), (0x80, 0x9F) ∷ (0x80, 0xBF) ∷ [])
    ∷ ((0xEE, 0xEF), (0x80, 0xBF) ∷ (0x80, 0xBF) ∷ [])
    ∷ ((0xF0, 0xF0), (0x90, 0xBF) ∷ (0x80, 0xBF) ∷ (0x80, 0xBF) ∷ [])
    ∷ ((0xF1, 0xF3), (0x80, 0xBF) ∷ (0x80, 0xBF) ∷ (0x80, 0xBF) ∷ [])
    ∷ ((0xF4, 0xF4), (0x80, 0x8F) ∷ (0x80, 0xBF) ∷ (0x80, 0xBF) ∷ [])
    ∷ []

-- a string has a byte in each of the ranges that are due, one after the other, and then one sequence of the table after the other
unfoldable pub goes_on : List Range → List ℕ → Bool
goes_on [] [] = true
goes_on (r ∷ due) [] = false
goes_on [] (b ∷ s) = some (λ row. both (within row.0 b) (goes_on row.1 s)) sequences
goes_on (r ∷ due) (b ∷ s) = both (within r b) (goes_on due s)

-- a string is made of sequences of the table
unfoldable pub valid : List ℕ → Bool
valid s = goes_on [] s
