-- A tree of fourteen kinds, and how it is written as records: document 01, "Records".
use Rattle.std.specs.Prelude.{ℕ, ◌-◌, ◌<◌, List, [], ◌∷◌, ◌++◌, Bool, ℤ, pos, negsuc, length}
use Rattle.prelude.specs.Choice.{pick}
use Rattle.record.specs.Record.{le, record_of}
use Rattle.settings.specs.Settings.{settings_kind}
use Rattle.op.specs.declared.Op.{Op}
use Rattle.op.specs.Op.{op_number}
use Rattle.tree.specs.Kinds.{NULL, UNBOUNDED, BOOL, NUM, STR, DATE, TIMESTAMP, SPATIAL, ID, MONADIC, DYADIC, FUNCTION, ARRAY, INTERVAL}

infixr 60 ◌then◌
mutual
  pub data Tree : Type 0 where
    null : Tree
    unbounded : Tree
    bool : Bool → Tree
    -- mantissa, scale
    num : ℤ → ℕ → Tree
    -- flags, text
    str : ℕ → List ℕ → Tree
    -- year, month, day
    date : ℕ → ℕ → ℕ → Tree
    -- year, month, day, hour, minute, second
    timestamp : ℕ → ℕ → ℕ → ℕ → ℕ → ℕ → Tree
    -- SRID, text
    spatial : ℕ → List ℕ → Tree
    id : List ℕ → Tree
    monadic : Op → Tree → Tree
    dyadic : Op → Tree → Tree → Tree
    -- name, arguments
    function : List ℕ → Trees → Tree
    array : Trees → Tree
    interval : Tree → Tree → Tree

  pub data Trees : Type 0 where
    none : Trees
    ◌then◌ : Tree → Trees → Trees

-- a tree's kind
abbrev pub kind_of : Tree → ℕ
kind_of null = NULL
kind_of unbounded = UNBOUNDED
kind_of (bool b) = BOOL
kind_of (num m s) = NUM
kind_of (str f s) = STR
kind_of (date y m d) = DATE
kind_of (timestamp y m d h i s) = TIMESTAMP
kind_of (spatial n s) = SPATIAL
kind_of (id s) = ID
kind_of (monadic o t) = MONADIC
kind_of (dyadic o t u) = DYADIC
kind_of (function n ts) = FUNCTION
kind_of (array ts) = ARRAY
kind_of (interval t u) = INTERVAL

-- every element of a list is a byte
abbrev pub Bytes : List ℕ → Type 0
Bytes [] = Unit {0}
Bytes (x ∷ s) = (x < 256) × Bytes s

-- an integer in 8 bytes, as the number whose two's complement it is: −(n + 1) is 2^64 − 1 − n
unfoldable pub twos : ℤ → ℕ
twos (pos n) = n
twos (negsuc n) = 18446744073709551615 - n

unfoldable pub date_bytes : ℕ → ℕ → ℕ → List ℕ
date_bytes y m d = le 2 y ++ (m ∷ (d ∷ []))

-- a name after its length byte
unfoldable pub counted : List ℕ → List ℕ
counted n = length n ∷ n

-- How a tree is written: each kind's number and its body.
unfoldable mutual
  pub encode : Tree → List ℕ
  encode null = record_of NULL []
  encode unbounded = record_of UNBOUNDED []
  encode (bool b) = record_of BOOL (pick b 1 0 ∷ [])
  encode (num m s) = record_of NUM (le 8 (twos m) ++ (s ∷ []))
  encode (str f s) = record_of STR (f ∷ s)
  encode (date y m d) = record_of DATE (date_bytes y m d)
  encode (timestamp y m d h i s) = record_of TIMESTAMP (date_bytes y m d ++ (h ∷ (i ∷ (s ∷ []))))
  encode (spatial n s) = record_of SPATIAL (le 4 n ++ s)
  encode (id s) = record_of ID s
  encode (monadic o t) = record_of MONADIC (le 2 (op_number o) ++ encode t)
  encode (dyadic o t u) = record_of DYADIC (le 2 (op_number o) ++ (encode t ++ encode u))
  encode (function n ts) = record_of FUNCTION (counted n ++ encodes ts)
  encode (array ts) = record_of ARRAY (encodes ts)
  encode (interval t u) = record_of INTERVAL (encode t ++ encode u)

  pub encodes : Trees → List ℕ
  encodes none = []
  encodes (t then ts) = encode t ++ encodes ts

-- What the settings hold: the precision, and the names of three collations.
pub record Settings : Type 0 where
  pub precision : ℕ
  pub ci : List ℕ
  pub ai : List ℕ
  pub cai : List ℕ

-- how the settings are written
unfoldable pub encode_settings : Settings → List ℕ
encode_settings g = record_of settings_kind (g.precision ∷ (counted g.ci ++ (counted g.ai ++ counted g.cai)))
