-- What the private functions promise about the sequence at a place of a string. No definition of the papers rests on it.
use Rattle.std.specs.Prelude.{ℕ, zero, suc, ◌+◌, ◌≤◌, ◌<◌, ◌≡◌, Option, None, Some, List, [], ◌∷◌, Bool, true, false, eqb, ltb, length, take, drop}
use Rattle.prelude.specs.Choice.{pick, between}
use Rattle.string.specs.Utf8.{Range, goes_on}
use Rattle.string.specs.Quote.{closing}

-- a byte that is a sequence by itself
abbrev pub plain : ℕ → Bool
plain b = between 0x20 b 0x7E

-- how many bytes follow the first byte b of a longer sequence; 0 if none begins with b
unfoldable pub more : ℕ → ℕ
more b = pick (ltb b 0xC2) 0 (pick (ltb b 0xE0) 1 (pick (ltb b 0xF0) 2 (pick (ltb b 0xF5) 3 0)))

-- the range of the byte after b
unfoldable pub lowest : ℕ → ℕ
lowest b = pick (eqb b 0xE0) 0xA0 (pick (eqb b 0xF0) 0x90 0x80)

unfoldable pub highest : ℕ → ℕ
highest b = pick (eqb b 0xED) 0x9F (pick (eqb b 0xF4) 0x8F 0xBF)

-- k bytes of the last range of each row
unfoldable pub tails : ℕ → List Range
tails zero = []
tails (suc k) = (0x80, 0xBF) ∷ tails k

-- k bytes after b
unfoldable pub due : ℕ → ℕ → List Range
due b zero = []
due b (suc k) = (lowest b, highest b) ∷ tails k

-- Over the r bytes from the place i on, what was due before them becomes what is due after them: in every string that has these bytes there.
pub record Passes (s : List ℕ) (i r : ℕ) (before after : List Range) : Type 0 where
  pub inside : i + r ≤ length s
  pub same : (m : ℕ) → goes_on before (take (r + m) (drop i s)) ≡ goes_on after (take m (drop (i + r) s))

-- no apostrophe among these bytes closes a text
abbrev pub Open : List ℕ → ℕ → ℕ → Type 0
Open s i r = closing (drop i s) ≡ r + closing (drop (i + r) s)

-- what stands at the place i: a sequence of two or more, of r bytes; or none begins there, and no valid string begins with the byte there
abbrev pub Heads : List ℕ → ℕ → Option ℕ → Type 0
Heads s i None = (m : ℕ) → goes_on [] (take (suc m) (drop i s)) ≡ false
Heads s i (Some r) = (0 < r) × Passes s i r [] [] × Open s i r

-- A string up to the place r is made of sequences, and how it goes on from there tells of the whole; if it is a quoted text, no apostrophe closes it
-- before r.
pub record Reaches (quoted : Bool) (s : List ℕ) (r : ℕ) : Type 0 where
  pub inside : r ≤ length s
  pub same : (m : ℕ) → goes_on [] (take (r + m) s) ≡ goes_on [] (take m (drop r s))
  pub unclosed : quoted ≡ true → closing s ≡ r + closing (drop r s)
