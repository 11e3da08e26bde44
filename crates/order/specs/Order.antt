-- The order of byte strings: document 01, "Truth": values compare as byte strings, a shorter prefix first.
use Rattle.std.specs.Prelude.{ℕ, List, [], ◌∷◌, Bool, ltb}
use Rattle.std.specs.Ordering.{is_lt}
use Rattle.prelude.specs.Choice.{pick}
use Rattle.std.specs.declared.cmp.Ordering.{Ordering}
use Rattle.std.specs.declared.cmp.Ordering.TheVariants.{Less, Equal, Greater}

-- how one string stands to another
unfoldable pub order : List ℕ → List ℕ → Ordering
order [] [] = Equal
order [] (b ∷ y) = Less
order (a ∷ x) [] = Greater
order (a ∷ x) (b ∷ y) = pick (ltb a b) Less (pick (ltb b a) Greater (order x y))

-- x comes before y
unfoldable pub below : List ℕ → List ℕ → Bool
below x y = is_lt (order x y)
