-- Instants, intervals and the fifteen temporal predicates of OGC 21-065r2 (CQL2), by their formulas over starts and ends; an open start
-- lies below every instant and equals any other open start, an open end (document 02, slip 5) lies above every instant and every open start and equals
-- any other open end. Valid ten-byte dates, 19-byte timestamps and 24-byte values of GeoPackage's DATETIME (slip 4) are instants in calendar order.
use Rattle.std.specs.Prelude.{ℕ, ◌+◌, ◌-◌, ◌*◌, List, [], ◌∷◌, ◌++◌, Bool, true, false, length, get_or, eqb}
use Rattle.prelude.specs.Bytes.{byte, minus, colon, zero_digit}
use Rattle.prelude.specs.Choice.{pick, both, either, negated}
use Rattle.charset.specs.Charset.{digit}
use Rattle.civil.specs.Civil.{valid_date, valid_time}
use Rattle.std.specs.Ordering.{is_eq}
use Rattle.order.specs.Order.{order, below}
use Rattle.op.specs.declared.Op.{Op}
use Rattle.op.specs.declared.Op.TheVariants.{TAfter, TBefore, TContains, TDisjoint, TDuring, TEquals, TFinishedBy, TFinishes, TIntersects, TMeets, TMetBy, TOverlappedBy, TOverlaps, TStartedBy, TStarts}
use Rattle.tree.specs.Kinds.{UNBOUNDED, DATE, TIMESTAMP, ID}
use Rattle.tree.specs.Tree.{Tree, kind_of}
use Rattle.tree.specs.Tests.{column_name, fields_of, kind_in, is_id, is_interval, start_of, stop_of}
use Rattle.literal.specs.declared.Writing.{Writing}
use Rattle.literal.specs.declared.Writing.TheVariants.{Rust, GeoPackage}
use Rattle.row.specs.Row.{Value, val, Column, Found, absent, has, look}
use Rattle.row.specs.Row as row
use Rattle.time.specs.Operators.{entry}

-- an instant by its calendar fields, the largest first; or an open start or end
pub data Moment : Type 0 where
  open_start : Moment
  moment : List ℕ → Moment
  open_end : Moment

-- calendar order: by the year, then the month, and so on; an open start before all, an open end after all
unfoldable pub earlier : Moment → Moment → Bool
earlier open_start open_start = false
earlier open_start (moment y) = true
earlier open_start open_end = true
earlier (moment x) open_start = false
earlier (moment x) (moment y) = below x y
earlier (moment x) open_end = true
earlier open_end n = false

unfoldable pub same_moment : Moment → Moment → Bool
same_moment open_start open_start = true
same_moment open_start (moment y) = false
same_moment open_start open_end = false
same_moment (moment x) open_start = false
same_moment (moment x) (moment y) = is_eq (order x y)
same_moment (moment x) open_end = false
same_moment open_end open_start = false
same_moment open_end (moment y) = false
same_moment open_end open_end = true

-- what a predicate says of a's start and end and b's start and end; of an instant both are the instant
abbrev pub Formula : Type 0
Formula = Moment → Moment → Moment → Moment → Bool

unfoldable pub ogc : Op → Formula
ogc =
    entry
    ((TAfter, λ a_start a_end b_start b_end. earlier b_end a_start)
    ∷ (TBefore, λ a_start a_end b_start b_end. earlier a_end b_start)
    ∷ (TContains, λ a_start a_end b_start b_end. both (earlier a_start b_start) (earlier b_end a_end))
    ∷ (TDisjoint, λ a_start a_end b_start b_end. either (earlier a_end b_start) (earlier b_end a_start))
    ∷ (TDuring, λ a_start a_end b_start b_end. both (earlier b_start a_start) (earlier a_end b_end))
    ∷ (TEquals, λ a_start a_end b_start b_end. both (same_moment a_start b_start) (same_moment a_end b_end))
    ∷ (TFinishedBy, λ a_start a_end b_start b_end. both (earlier a_start b_start) (same_moment a_end b_end))
    ∷ (TFinishes, λ a_start a_end b_start b_end. both (earlier b_start a_start) (same_moment a_end b_end))
    ∷ (TIntersects, λ a_start a_end b_start b_end. negated (either (earlier a_end b_start) (earlier b_end a_start)))
    ∷ (TMeets, λ a_start a_end b_start b_end. same_moment a_end b_start)
    ∷ (TMetBy, λ a_start a_end b_start b_end. same_moment a_start b_end)
    ∷ (TOverlappedBy, λ a_start a_end b_start b_end. both (earlier b_start a_start) (both (earlier a_start b_end) (earlier b_end a_end)))
    ∷ (TOverlaps, λ a_start a_end b_start b_end. both (earlier a_start b_start) (both (earlier b_start a_end) (earlier a_end b_end)))
    ∷ (TStartedBy, λ a_start a_end b_start b_end. both (same_moment a_start b_start) (earlier b_end a_end))
    ∷ (TStarts, λ a_start a_end b_start b_end. both (same_moment a_start b_start) (earlier a_end b_end))
    ∷ [])
    (λ a_start a_end b_start b_end. false)

-- Values as instants.

-- the digit at i
abbrev pub digit_at : List ℕ → ℕ → ℕ
digit_at s i = get_or s i 0 - zero_digit

-- two digits at i
abbrev pub two_at : List ℕ → ℕ → ℕ
two_at s i = digit_at s i * 10 + digit_at s (i + 1)

-- three digits at i
abbrev pub three_at : List ℕ → ℕ → ℕ
three_at s i = two_at s i * 10 + digit_at s (i + 2)

abbrev pub are_two : List ℕ → ℕ → Bool
are_two s i = both (digit (get_or s i 0)) (digit (get_or s (i + 1) 0))

abbrev pub year_of : List ℕ → ℕ
year_of s = two_at s 0 * 100 + two_at s 2

-- YYYY-MM-DD at the front, a date of the calendar
unfoldable pub begins_date : List ℕ → Bool
begins_date s =
    both (are_two s 0) (both (are_two s 2) (both (eqb (get_or s 4 0) minus) (both (are_two s 5) (both (eqb (get_or s 7 0) minus) (both (are_two s 8)
    (valid_date (year_of s) (two_at s 5) (two_at s 8)))))))

-- THH:MM:SS after it, a time of day
unfoldable pub goes_on_time : List ℕ → Bool
goes_on_time s =
    both (eqb (get_or s 10 0) (byte "T")) (both (are_two s 11) (both (eqb (get_or s 13 0) colon) (both (are_two s 14) (both (eqb (get_or s 16 0) colon) (both (are_two s 17)
    (valid_time (two_at s 11) (two_at s 14) (two_at s 17)))))))

-- .SSSZ after that, milliseconds 000 to 999
unfoldable pub goes_on_milliseconds : List ℕ → Bool
goes_on_milliseconds s =
    both (eqb (get_or s 19 0) (byte ".")) (both (are_two s 20) (both (digit (get_or s 22 0)) (eqb (get_or s 23 0) (byte "Z"))))

-- all values are of one width: valid ten-byte dates, valid 19-byte timestamps, or valid 24-byte values YYYY-MM-DDTHH:MM:SS.SSSZ
pub data Width : Type 0 where
  ten : Width
  nineteen : Width
  twenty_four : Width

unfoldable pub is_instant : Width → List ℕ → Bool
is_instant ten s = both (eqb (length s) 10) (begins_date s)
is_instant nineteen s = both (eqb (length s) 19) (both (begins_date s) (goes_on_time s))
is_instant twenty_four s = both (eqb (length s) 24) (both (begins_date s) (both (goes_on_time s) (goes_on_milliseconds s)))

abbrev pub date_fields : List ℕ → List ℕ
date_fields s = year_of s ∷ two_at s 5 ∷ two_at s 8 ∷ []

unfoldable pub fields : Width → List ℕ → List ℕ
fields ten s = date_fields s
fields nineteen s = year_of s ∷ two_at s 5 ∷ two_at s 8 ∷ two_at s 11 ∷ two_at s 14 ∷ two_at s 17 ∷ []
fields twenty_four s = year_of s ∷ two_at s 5 ∷ two_at s 8 ∷ two_at s 11 ∷ two_at s 14 ∷ two_at s 17 ∷ three_at s 20 ∷ []

-- Where documents 01 and 02 ask for the agreement.

-- the call for which the agreement is asked, by the width of the row's values: the second for 24 bytes, else the first
abbrev pub writing_of : Width → Writing
writing_of ten = Rust
writing_of nineteen = Rust
writing_of twenty_four = GeoPackage

abbrev pub is_instant_value : Width → Value → Bool
is_instant_value w row.null = false
is_instant_value w (val x) = is_instant w x

-- a row without NULL, all of its values of one width
unfoldable pub instants : Width → List Column → Bool
instants w [] = true
instants w (c ∷ cs) = both (is_instant_value w c.holds) (instants w cs)

-- the kind of a written instant of a width
abbrev pub written : Width → ℕ
written ten = DATE
written nineteen = TIMESTAMP
written twenty_four = TIMESTAMP

-- its fields; no milliseconds are written but 000
abbrev pub written_fields : Width → Tree → List ℕ
written_fields ten t = fields_of t
written_fields nineteen t = fields_of t
written_fields twenty_four t = fields_of t ++ (0 ∷ [])

-- a column or a written instant of that width, and no NULL literal
unfoldable pub is_point : Width → Tree → Bool
is_point w t = kind_in (ID ∷ written w ∷ []) t

-- an interval's start: such a point, or `..`
unfoldable pub is_start : Width → Tree → Bool
is_start w t = kind_in (ID ∷ written w ∷ UNBOUNDED ∷ []) t

-- an interval's end: such a point, and in the second call also `..`
unfoldable pub is_stop : Width → Tree → Bool
is_stop ten t = is_point ten t
is_stop nineteen t = is_point nineteen t
is_stop twenty_four t = is_start twenty_four t

unfoldable pub ogc_operand : Width → Tree → Bool
ogc_operand w t = pick (is_interval t) (both (is_start w (start_of t)) (is_stop w (stop_of t))) (is_point w t)

-- the instant that an end stands for on a row
abbrev pub moment_of : Width → Found → Moment
moment_of w absent = open_start
moment_of w (has row.null) = open_start
moment_of w (has (val x)) = moment (fields w x)

-- `..` stands for the moment that is given
unfoldable pub moment_on : Width → List Column → Moment → Tree → Moment
moment_on w cs when_open t = pick (is_id t) (moment_of w (look (column_name t) cs)) (pick (eqb (kind_of t) UNBOUNDED) when_open (moment (written_fields w t)))

-- the start and the end of an operand: of an instant both are the instant
abbrev pub start_moment : Width → List Column → Tree → Moment
start_moment w cs t = moment_on w cs open_start (start_of t)

abbrev pub end_moment : Width → List Column → Tree → Moment
end_moment w cs t = pick (is_interval t) (moment_on w cs open_end (stop_of t)) (start_moment w cs t)

-- the predicate of 21-065r2 on two operands
unfoldable pub ogc_on : Width → List Column → Op → Tree → Tree → Bool
ogc_on w cs o t u = ogc o (start_moment w cs t) (end_moment w cs t) (start_moment w cs u) (end_moment w cs u)
