-- What a reduced operand is to the node above it: its sort, with a Bool's value and an instant's place in time: document 02, slip 8; `as_literal` of
-- src/expr.rs.
use Rattle.std.specs.Prelude.{ℕ, ◌+◌, ◌*◌, [], ◌∷◌, Bool, eqb, ltb}
use Rattle.prelude.specs.Choice.{pick}
use Rattle.op.specs.declared.Op.TheVariants.{CaseI, AccentI}
use Rattle.op.specs.Op.{one_of}
use Rattle.tree.specs.Tree.{Tree, null, unbounded, bool, num, str, date, timestamp, spatial, id, monadic, dyadic, function, array, interval}
use Rattle.reduce.specs.declared.Sort.{Sort}
use Rattle.reduce.specs.declared.Sort.TheVariants as sort

-- Sorts, as another crate can name them.
abbrev pub null_sort : Sort
null_sort = sort.Null

abbrev pub instant_sort : Sort
instant_sort = sort.Instant 0

abbrev pub case_sort : Sort
case_sort = sort.CaseI

abbrev pub accent_sort : Sort
accent_sort = sort.AccentI

abbrev pub other_sort : Sort
other_sort = sort.Other

-- by number, false before true
abbrev pub sort_number : Sort → ℕ
sort_number sort.Null = 0
sort_number (sort.Bool b) = pick b 2 1
sort_number (sort.Instant n) = 3
sort_number sort.Num = 4
sort_number sort.Str = 5
sort_number sort.Spatial = 6
sort_number sort.CaseI = 7
sort_number sort.AccentI = 8
sort_number sort.Other = 9

-- instants are of one sort, wherever they lie
abbrev pub same_sort : Sort → Sort → Bool
same_sort a b = eqb (sort_number a) (sort_number b)

-- Null and Bools
abbrev pub is_logic : Sort → Bool
is_logic a = ltb (sort_number a) 3

-- what `as_literal` accepts
abbrev pub is_constant : Sort → Bool
is_constant a = ltb (sort_number a) 7

-- the place of an instant in time
abbrev pub place_of : Sort → ℕ
place_of sort.Null = 0
place_of (sort.Bool b) = 0
place_of (sort.Instant n) = n
place_of sort.Num = 0
place_of sort.Str = 0
place_of sort.Spatial = 0
place_of sort.CaseI = 0
place_of sort.AccentI = 0
place_of sort.Other = 0

-- the place of a date and a time of day
abbrev pub key : ℕ → ℕ → ℕ → ℕ → ℕ → ℕ → ℕ
key y m d h i s = ((((y * 100 + m) * 100 + d) * 100 + h) * 100 + i) * 100 + s

-- a Date is midnight, Unbounded lies below every instant and equals itself
unfoldable pub sort_of : Tree → Sort
sort_of null = sort.Null
sort_of unbounded = sort.Instant 0
sort_of (bool b) = sort.Bool b
sort_of (num m s) = sort.Num
sort_of (str f s) = sort.Str
sort_of (date y m d) = sort.Instant (key y m d 0 0 0)
sort_of (timestamp y m d h i s) = sort.Instant (key y m d h i s)
sort_of (spatial n s) = sort.Spatial
sort_of (id s) = sort.Other
sort_of (monadic o t) = pick (one_of o (CaseI ∷ [])) sort.CaseI (pick (one_of o (AccentI ∷ [])) sort.AccentI sort.Other)
sort_of (dyadic o t u) = sort.Other
sort_of (function n ts) = sort.Other
sort_of (array ts) = sort.Other
sort_of (interval t u) = sort.Other

-- the place of a tree in time, if it is an instant
abbrev pub key_of : Tree → ℕ
key_of t = place_of (sort_of t)
