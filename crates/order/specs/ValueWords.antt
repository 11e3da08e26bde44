-- What the private functions of the comparison of values promise one another. No definition of the papers rests on it.
use Rattle.std.specs.Prelude.{ℕ, ◌+◌, ◌≤◌, ◌≡◌, List, Bool, eqb, length, get_or, drop}
use Rattle.prelude.specs.Choice.{pick, both}
use Rattle.prelude.specs.Bytes.{apostrophe}
use Rattle.string.specs.Quote.{value_of}
use Rattle.order.specs.Order.{order}

-- what is left of the values from i and j on compares as the whole values do
pub record Alike (v w : Bool) (a b : List ℕ) (i j : ℕ) : Type 0 where
  pub left : i ≤ length a
  pub right : j ≤ length b
  pub same : order (value_of v (drop i a)) (value_of w (drop j b)) ≡ order (value_of v a) (value_of w b)

-- an apostrophe at the place i and another one after it
abbrev pub pair_at : List ℕ → ℕ → Bool
pair_at s i = both (eqb (get_or s i 0) apostrophe) (eqb (get_or s (i + 1) 0) apostrophe)

-- the place after the byte of value at i: if s is written with its apostrophes doubled, past both
unfoldable pub next_at : Bool → List ℕ → ℕ → ℕ
next_at written s i = pick (both written (pair_at s i)) (i + 2) (i + 1)
