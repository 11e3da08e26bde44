-- How the walk sees records (src/records.rt): trees whose numbers fit their fields, where a record stands and ends.
use Rattle.std.specs.Prelude.{ℕ, ◌+◌, ◌-◌, ◌≤◌, ◌<◌, ◌≡◌, List, ◌++◌, Bool, true, length, take, drop, ltb, leb, nat_abs}
use Rattle.tree.specs.Limits.{mantissa_limit}
use Rattle.prelude.specs.Choice.{both}
use Rattle.tree.specs.Tree.{Tree, Trees, encode, null, unbounded, bool, num, str, date, timestamp, spatial, id, monadic, dyadic, function, array, interval, none, ◌then◌}

-- Trees whose numbers fit their fields.
unfoldable mutual
  pub sound : Tree → Bool
  sound null = true
  sound unbounded = true
  sound (bool b) = true
  sound (num m s) = leb (nat_abs m) mantissa_limit
  sound (str f s) = true
  sound (date y m d) = ltb y 65536
  sound (timestamp y m d h i s) = ltb y 65536
  sound (spatial n s) = ltb n 4294967296
  sound (id s) = true
  sound (monadic o t) = sound t
  sound (dyadic o t u) = both (sound t) (sound u)
  sound (function n ts) = sounds ts
  sound (array ts) = sounds ts
  sound (interval t u) = both (sound t) (sound u)

  pub sounds : Trees → Bool
  sounds none = true
  sounds (t then ts) = both (sound t) (sounds ts)

-- the part from a to e, inside s and not at its front
pub record Inside (s : List ℕ) (a e : ℕ) : Type 0 where
  pub starts : 0 < a
  pub order : a ≤ e
  pub ends : e ≤ length s

abbrev pub part : List ℕ → ℕ → ℕ → List ℕ
part s a e = take (e - a) (drop a s)

-- where the record at p ends, kept inside s
pub record EndOf (s : List ℕ) (p r : ℕ) : Type 0 where
  pub high : r ≤ length s
  pub moves : p < length s → p < r
  pub low : p ≤ r
  pub exact : (x : Tree) (rest : List ℕ) → drop p s ≡ encode x ++ rest → r ≡ p + length (encode x)

-- the record of x stands at p and ends at z
pub record Stands (s : List ℕ) (p z : ℕ) (x : Tree) : Type 0 where
  pub rest : List ℕ
  pub there : drop p s ≡ encode x ++ rest
  pub past : z ≡ p + length (encode x)
  pub starts : 0 < p
  pub inside : p ≤ length s
  pub fit : sound x ≡ true
