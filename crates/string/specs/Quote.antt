-- How a string stands in a SQL text, as SQLite defines it: between apostrophes, each apostrophe of its own doubled. Document 02, slip 2.
use Rattle.std.specs.Prelude.{ℕ, ◌+◌, List, [], ◌∷◌, ◌++◌, Bool, eqb, get_or, take}
use Rattle.prelude.specs.Choice.{pick, both}
use Rattle.prelude.specs.Bytes.{apostrophe}
use Rattle.string.specs.Utf8.{valid}

-- as it is, between apostrophes
abbrev pub in_quotes : List ℕ → List ℕ
in_quotes s = apostrophe ∷ (s ++ (apostrophe ∷ []))

-- each apostrophe written twice
unfoldable pub doubled : List ℕ → List ℕ
doubled [] = []
doubled (b ∷ s) = pick (eqb b apostrophe) (b ∷ (b ∷ doubled s)) (b ∷ doubled s)

-- the value of what stands between the marks: of two apostrophes one after the other, one
unfoldable pub undoubled : List ℕ → List ℕ
undoubled [] = []
undoubled (b ∷ []) = b ∷ []
undoubled (b ∷ (c ∷ s)) = b ∷ pick (both (eqb b apostrophe) (eqb c apostrophe)) (undoubled s) (undoubled (c ∷ s))

-- the value of a string that may be written so: if it is, without the doubling
abbrev pub value_of : Bool → List ℕ → List ℕ
value_of written s = pick written (undoubled s) s

-- how many bytes stand before the apostrophe that closes a text, the first that is not doubled; all of them if none closes it
unfoldable pub closing : List ℕ → ℕ
closing [] = 0
closing (b ∷ []) = pick (eqb b apostrophe) 0 1
closing (b ∷ (c ∷ s)) = pick (eqb b apostrophe) (pick (eqb c apostrophe) (2 + closing s) 0) (1 + closing (c ∷ s))

-- How many bytes a quoted text takes of r, which stands after its first mark: up to its closing mark and with it, if what stands between the marks
-- is valid; else 0, as it is no text.
unfoldable pub quoted_size : List ℕ → ℕ
quoted_size r =
    pick (both (eqb (get_or r (closing r) 0) apostrophe) (valid (take (closing r) r))) (closing r + 1) 0
