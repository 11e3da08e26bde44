-- How many levels a tree has, the root being at 1: document 01, "What a caller hears", refusal 4.
use Rattle.std.specs.Prelude.{ℕ, ◌+◌, max}
use Rattle.tree.specs.Tree.{Tree, Trees, null, unbounded, bool, num, str, date, timestamp, spatial, id, monadic, dyadic, function, array, interval, none, ◌then◌}

unfoldable mutual
  pub levels : Tree → ℕ
  levels null = 1
  levels unbounded = 1
  levels (bool b) = 1
  levels (num m s) = 1
  levels (str f s) = 1
  levels (date y m d) = 1
  levels (timestamp y m d h i s) = 1
  levels (spatial n s) = 1
  levels (id s) = 1
  levels (monadic o t) = 1 + levels t
  levels (dyadic o t u) = 1 + max (levels t) (levels u)
  levels (function n ts) = 1 + levels_in ts
  levels (array ts) = 1 + levels_in ts
  levels (interval t u) = 1 + max (levels t) (levels u)

  -- of the deepest of some trees
  pub levels_in : Trees → ℕ
  levels_in none = 0
  levels_in (t then ts) = max (levels t) (levels_in ts)
