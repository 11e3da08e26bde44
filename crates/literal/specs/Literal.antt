-- The texts of the leaves: document 01, "Records" and "The lowering", as `to_sql_impl` and `qstr_to_sql` (src/ds/gpkg.rs) write them, but for
-- the apostrophes of a Str and, in GeoPackage's writing, timestamps and an Interval's open second end (document 02, slips 2, 4 and 5).
use Rattle.std.specs.Prelude.{ℕ, zero, suc, ◌+◌, ◌/◌, ◌%◌, ◌^◌, List, [], ◌∷◌, ◌++◌, Bool, ℤ, pos, negsuc, nat_abs, ltb, eqb}
use Rattle.prelude.specs.Choice.{pick}
use Rattle.prelude.specs.Bytes.{bytes}
use Rattle.string.specs.Quote.{in_quotes, doubled}
use Rattle.literal.specs.declared.Writing.{Writing}
use Rattle.literal.specs.declared.Writing.TheVariants.{Rust, GeoPackage}

-- ---- words

abbrev pub null_text : List ℕ
null_text = bytes "NULL"

abbrev pub bool_text : Bool → List ℕ
bool_text b = pick b (bytes "TRUE") (bytes "FALSE")

-- ---- numbers

-- the last w digits of n, zero-filled
unfoldable pub low : ℕ → ℕ → List ℕ
low zero n = []
low (suc w) n = low w (n / 10) ++ ((48 + n % 10) ∷ [])

-- the digits of n, of which there are at most f
unfoldable pub digits : ℕ → ℕ → List ℕ
digits zero n = []
digits (suc f) n = pick (ltb n 10) [] (digits f (n / 10)) ++ ((48 + n % 10) ∷ [])

-- n in base ten, no leading zero, 0 as `0`
unfoldable pub decimal : ℕ → List ℕ
decimal n = digits (suc n) n

-- n ÷ 10^s: the whole part, a point, s digits
unfoldable pub pointed : ℕ → ℕ → List ℕ
pointed n s = decimal (n / 10 ^ s) ++ (bytes "." ++ low s n)

-- n ÷ 10^s with the closing zeros of the fraction dropped, and the point where none of the fraction is left
unfoldable pub plain : ℕ → ℕ → List ℕ
plain n zero = decimal n
plain n (suc s) = pick (eqb (n % 10) 0) (plain (n / 10) s) (pointed n (suc s))

-- a minus before a number below zero
unfoldable pub sign : ℤ → List ℕ
sign (pos n) = []
sign (negsuc n) = bytes "-"

-- Num: m ÷ 10^s as exact decimal
unfoldable pub num_text : ℤ → ℕ → List ℕ
num_text m s = sign m ++ plain (nat_abs m) s

-- ---- texts in quotes

-- 's'
unfoldable pub quoted : List ℕ → List ℕ
quoted s = in_quotes s

-- ` COLLATE ` and a collation's name
unfoldable pub collate : List ℕ → List ℕ
collate name = bytes " COLLATE " ++ name

-- Str: the text in quotes, each apostrophe doubled (document 02, slip 2), and (`qstr_to_sql`) by the flags CQL2_CI for 1, CQL2_AI for 2, CQL2_CAI for 3
unfoldable pub str_text : (ci ai cai : List ℕ) → ℕ → List ℕ → List ℕ
str_text ci ai cai flags s =
    quoted (doubled s) ++
    pick (eqb flags 0) []
    (pick (eqb flags 1) (collate ci)
    (pick (eqb flags 2) (collate ai) (collate cai)))

-- Spatial (`G::to_sql`): ST_GeomFromText('w', n)
unfoldable pub spatial_text : ℕ → List ℕ → List ℕ
spatial_text n w =
    bytes "ST_GeomFromText(" ++ (quoted w ++ (bytes ", " ++ (decimal n ++ bytes ")")))

-- ---- instants: how a written instant and an open end are spelled

-- YYYY-MM-DD
unfoldable pub date : (y m d : ℕ) → List ℕ
date y m d = low 4 y ++ (bytes "-" ++ (low 2 m ++ (bytes "-" ++ low 2 d)))

-- HH:MM:SS
unfoldable pub clock : (hour minute second : ℕ) → List ℕ
clock hour minute second = low 2 hour ++ (bytes ":" ++ (low 2 minute ++ (bytes ":" ++ low 2 second)))

-- after the seconds: nothing in the Rust's writing; in GeoPackage's (document 02, slip 4) milliseconds and Z, as the civil fields are UTC
unfoldable pub after_seconds : Writing → List ℕ
after_seconds Rust = []
after_seconds GeoPackage = bytes ".000Z"

-- YYYY-MM-DDTHH:MM:SS, or YYYY-MM-DDTHH:MM:SS.000Z
unfoldable pub timestamp : Writing → (y m d hour minute second : ℕ) → List ℕ
timestamp w y m d hour minute second = date y m d ++ (bytes "T" ++ (clock hour minute second ++ after_seconds w))

-- where an end stands: alone, as an Interval's first end, or as its second
pub data Slot : Type 0 where
  alone : Slot
  first_end : Slot
  second_end : Slot

-- the slots of an operand's start and end, by whether it is an Interval: an instant stands alone, and so does Null, its partner
abbrev pub start_slot : Bool → Slot
start_slot is_interval = pick is_interval first_end alone

abbrev pub stop_slot : Bool → Slot
stop_slot is_interval = pick is_interval second_end alone

-- an open end by the writing and its slot: `MIN_DATE_SQL`, and as an Interval's second end in GeoPackage's writing (document 02, slip 5) a letter,
-- which lies above every digit
unfoldable pub open_end : Writing → Slot → List ℕ
open_end w alone = bytes "-2021-01-01"
open_end w first_end = bytes "-2021-01-01"
open_end Rust second_end = bytes "-2021-01-01"
open_end GeoPackage second_end = bytes "A"

-- Date
abbrev pub date_text : (y m d : ℕ) → List ℕ
date_text y m d = quoted (date y m d)

-- Timestamp
abbrev pub timestamp_text : Writing → (y m d hour minute second : ℕ) → List ℕ
timestamp_text w y m d hour minute second = quoted (timestamp w y m d hour minute second)

-- Unbounded
abbrev pub unbounded_text : Writing → Slot → List ℕ
unbounded_text w slot = quoted (open_end w slot)
