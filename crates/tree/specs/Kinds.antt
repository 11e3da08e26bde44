-- The fourteen kinds of a record by name, in the order of `E`: document 01, "Records".
use Rattle.std.specs.Prelude.{ℕ}

abbrev pub NULL : ℕ
NULL = 0

abbrev pub UNBOUNDED : ℕ
UNBOUNDED = 1

abbrev pub BOOL : ℕ
BOOL = 2

abbrev pub NUM : ℕ
NUM = 3

abbrev pub STR : ℕ
STR = 4

abbrev pub DATE : ℕ
DATE = 5

abbrev pub TIMESTAMP : ℕ
TIMESTAMP = 6

abbrev pub SPATIAL : ℕ
SPATIAL = 7

abbrev pub ID : ℕ
ID = 8

abbrev pub MONADIC : ℕ
MONADIC = 9

abbrev pub DYADIC : ℕ
DYADIC = 10

abbrev pub FUNCTION : ℕ
FUNCTION = 11

abbrev pub ARRAY : ℕ
ARRAY = 12

abbrev pub INTERVAL : ℕ
INTERVAL = 13
