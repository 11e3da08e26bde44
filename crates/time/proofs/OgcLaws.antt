-- A temporal predicate agrees with OGC 21-065r2 on a row of instants of one width: each end stands for a moment, bytes and moments are ordered
-- alike, every guard passes, and so each condition of the fifteen translators comes to the formula over starts and ends.
use Rattle.std.specs.Prelude.{ℕ, ◌-◌, ◌≡◌, List, [], ◌∷◌, Bool}
use Rattle.std.proofs.Math.Path.{refl, subst}
use Rattle.std.proofs.Common.{ap, sym, ◌∙◌}
use Rattle.std.proofs.Math.Bool.{true, false}
use Rattle.std.proofs.lemmas.Bool.{false≢true}
use Rattle.prelude.specs.Choice.{pick, both, either, negated, some, same}
use Rattle.prelude.specs.ChoiceLaws.{both_true}
use Rattle.civil.specs.Civil.{valid_date, valid_time}
use Rattle.std.specs.declared.cmp.Ordering.{Ordering}
use Rattle.std.specs.declared.cmp.Ordering.TheVariants.{Less, Equal, Greater}
use Rattle.std.specs.Ordering.{is_lt, is_eq}
use Rattle.order.specs.Order.{order, below}
use Rattle.order.specs.OrderLaws.{order_above}
use Rattle.op.specs.declared.Op.{Op}
use Rattle.op.specs.declared.Op.TheVariants.{TAfter, TBefore, TContains, TDisjoint, TDuring, TEquals, TFinishedBy, TFinishes, TIntersects, TMeets, TMetBy, TOverlappedBy, TOverlaps, TStartedBy, TStarts}
use Rattle.op.specs.Op.{op_number, is_temporal, is_instant_or_interval}
use Rattle.tree.specs.Kinds.{NULL, UNBOUNDED, DATE, TIMESTAMP, ID, INTERVAL}
use Rattle.tree.specs.Tree.{Tree, null, unbounded, date, timestamp, kind_of}
use Rattle.tree.specs.Placed.{operands}
use Rattle.tree.specs.Tests.{children, first, second, everywhere, is_id, is_interval, start_of, stop_of, ends_of, columns_of}
use Rattle.tree.specs.TestsLaws.{one_of_all, OfKind, of_interval, interval_is}
use Rattle.tree.specs.GoodWords.{Good}
use Rattle.literal.specs.declared.Writing.TheVariants.{GeoPackage}
use Rattle.literal.specs.Literal as literal
use Rattle.literal.specs.Literal.{Slot, alone, first_end, second_end, start_slot, stop_slot}
use Rattle.sql.specs.Condition.{Cond, test, lt, gt, eq, check_id, check_ids}
use Rattle.sql.specs.Translators.{translate, t_after, t_before, t_contains, t_disjoint, t_during, t_equals, t_finished_by, t_finishes, t_intersects, t_meets, t_met_by, t_overlapped_by, t_overlaps, t_started_by, t_starts}
use Rattle.row.specs.Row.{Value, val, Column, Found, has, look}
use Rattle.row.specs.Row as row
use Rattle.truth.specs.declared.Truth.{Truth}
use Rattle.lexer.specs.declared.Kind.TheVariants.{Lt as LT, Gt as GT, Eq as EQ, Ne as NE}
use Rattle.truth.specs.Grammar.{value, not3, and3, or3, truth_of, compared}
use Rattle.truth.specs.Grammar as grammar
use Rattle.time.specs.Filter.{is_end}
use Rattle.time.specs.FilterLaws.{EndIs, null_end, open_end_lem, date-end, timestamp-end, column_end, end_is}
use Rattle.time.specs.FilterTruth.{found, holds, tree_atom, end_atom, value_on, end_on, cond_truth, end_values, temporal_truth, is_value}
use Rattle.time.specs.Ogc.{Moment, open_start, moment, open_end, earlier, same_moment, ogc, Width, ten, nineteen, twenty_four, is_instant, fields, writing_of, written, written_fields, is_instant_value, instants, is_point, is_start, is_stop, ogc_operand, moment_of, moment_on, ogc_on}
use Rattle.time.specs.OperatorLaws.{done, ◌also◌, of_temporal}
use Rattle.time.specs.TruthLaws.{and3-known, or3-known, not3-known, orders, gt_lt, guard, guard_passes, check_id_lem, check_ids_lem}
use Rattle.time.proofs.ComplementLaws.{ne_eq}
use Rattle.time.specs.InstantLaws.{fields-order, open_below, open_above, date-instant, date-fields, timestamp-instant, timestamp-fields}

-- A value and the moment that it stands for.
data Stands (w : Width) : Found → Moment → Type 0 where
  opens : Stands w (has (val (literal.open_end (writing_of w) first_end))) open_start
  ends : Stands w (has (val (literal.open_end GeoPackage second_end))) open_end
  at : {x : List ℕ} → is_instant w x ≡ true → Stands w (has (val x)) (moment (fields w x))

-- A truth that is the answer of a test.
record Known (a : Truth) (p : Bool) : Type 0 where
  is : a ≡ truth_of p

and_known : {a b : Truth} {p q : Bool} → Known a p → Known b q → Known (and3 a b) (both p q)
and_known {p = p} {q = q} h k = record { is = rw (h.is, k.is) (and3-known p q) }

or_known : {a b : Truth} {p q : Bool} → Known a p → Known b q → Known (or3 a b) (either p q)
or_known {p = p} {q = q} h k = record { is = rw (h.is, k.is) (or3-known p q) }

not_known : {a : Truth} {p : Bool} → Known a p → Known (not3 a) (negated p)
not_known {p = p} h = record { is = rw h.is (not3-known p) }

known_as : {a : Truth} {p q : Bool} → p ≡ q → Known a p → Known a q
known_as e h = record { is = h.is ∙ ap truth_of e }

known_is : {a b : Truth} {p : Bool} → a ≡ b → Known b p → Known a p
known_is e h = record { is = e ∙ h.is }

-- Comparing values is comparing moments.
lt_less : (o : Ordering) → grammar.holds LT o ≡ is_lt o
unfolding grammar.holds some
lt_less Less = refl
lt_less Equal = refl
lt_less Greater = refl

eq_equal : (o : Ordering) → grammar.holds EQ o ≡ is_eq o
unfolding grammar.holds some
eq_equal Less = refl
eq_equal Equal = refl
eq_equal Greater = refl

told : {a b : Truth} {p q : Bool} → a ≡ truth_of p → b ≡ truth_of q → Known a p × Known b q
told d e = (record { is = d }, record { is = e })

by_order : {w : Width} {x y : Found} {m n : Moment} → Stands w x m → Stands w y n → Known (compared LT x y) (earlier m n) × Known (compared EQ x y) (same_moment m n)
unfolding grammar.holds order below literal.open_end earlier same_moment some
by_order opens opens = told refl refl
by_order opens ends = told refl refl
by_order ends opens = told refl refl
by_order ends ends = told refl refl
by_order {w = w} opens (at {x = y} k) = let e = open_below w y k in told (rw e) (rw e)
by_order {w = w} (at {x = x} h) opens = let e = order_above (literal.open_end (writing_of w) first_end) x (open_below w x h) in told (rw e) (rw e)
by_order {w = w} ends (at {x = y} k) = let e = order_above y (literal.open_end GeoPackage second_end) (open_above w y k) in told (rw e) (rw e)
by_order {w = w} (at {x = x} h) ends = let e = open_above w x h in told (rw e) (rw e)
by_order {w = w} (at {x = x} h) (at {x = y} k) =
    let e = fields-order w x y h k in
    told (ap truth_of (lt_less (order x y) ∙ ap is_lt e)) (ap truth_of (eq_equal (order x y) ∙ ap is_eq e))

lt_known : {w : Width} {x y : Found} {m n : Moment} → Stands w x m → Stands w y n → Known (compared LT x y) (earlier m n)
lt_known h k = (by_order h k).0

eq_known : {w : Width} {x y : Found} {m n : Moment} → Stands w x m → Stands w y n → Known (compared EQ x y) (same_moment m n)
eq_known h k = (by_order h k).1

gt_known : {w : Width} {x y : Found} {m n : Moment} → Stands w x m → Stands w y n → Known (compared GT x y) (earlier n m)
gt_known {x = x} {y = y} h k = known_is (gt_lt x y) (lt_known k h)

-- of two moments one is earlier or they are the same
same_or : (m n : Moment) → same_moment m n ≡ negated (either (earlier m n) (earlier n m))
unfolding same_moment earlier below
same_or open_start open_start = refl
same_or open_start (moment y) = refl
same_or open_start open_end = refl
same_or (moment x) open_start = refl
same_or (moment x) open_end = refl
same_or open_end open_start = refl
same_or open_end (moment y) = refl
same_or open_end open_end = refl
same_or (moment x) (moment y) = orders (λ i j. is_eq i ≡ negated (either (is_lt i) (is_lt j))) refl refl refl x y

negated_twice : (p : Bool) → negated (negated p) ≡ p
negated_twice true = refl
negated_twice false = refl

both-same : (p : Bool) → p ≡ both p p
both-same true = refl
both-same false = refl

both_assoc : (p q r : Bool) → both (both p q) r ≡ both p (both q r)
both_assoc true q r = refl
both_assoc false q r = refl

ne_known : {w : Width} {x y : Found} {m n : Moment} → Stands w x m → Stands w y n → Known (compared NE x y) (either (earlier m n) (earlier n m))
ne_known {x = x} {y = y} {m = m} {n = n} h k =
    known_is (ne_eq x y)
    (known_as (ap negated (same_or m n) ∙ negated_twice (either (earlier m n) (earlier n m))) (not_known (eq_known h k)))

-- an end that stands for a moment has a value
valued : {w : Width} {x : Found} {m : Moment} → Stands w x m → is_value x ≡ true
unfolding is_value
valued opens = refl
valued ends = refl
valued (at h) = refl

-- The fifteen, by whether each operand is an interval.
module _ (w : Width) (v : ℕ → Found) (c : ℕ → Bool) (m0 m1 m2 m3 : Moment) (s0 : Stands w (v 0) m0) (s2 : Stands w (v 2) m2) where
  one_guard : (i : ℕ) (m : Moment) (base : Cond) {p : Bool} → Stands w (v i) m → Known (cond_truth v base) p → Known (cond_truth v (check_id c i base)) p
  one_guard i m base s h = known_is (check_id_lem v c i base ∙ guard_passes (c i) (v i) (cond_truth v base) (valued s)) h

  two_guards : (i j : ℕ) (m n : Moment) (base : Cond) {p : Bool} → Stands w (v i) m → Stands w (v j) n → Known (cond_truth v base) p
      → Known (cond_truth v (check_ids c i j base)) p
  two_guards i j m n base s r h =
      known_is
      (check_ids_lem v c i j base ∙ guard_passes (c i) (v i) (guard (c j) (v j) (cond_truth v base)) (valued s)
      ∙ guard_passes (c j) (v j) (cond_truth v base) (valued r))
      h

  -- the formula over starts and ends; of an instant both are the instant
  abbrev formula : Op → Bool → Bool → Bool
  formula o a b = ogc o m0 (pick a m1 m0) m2 (pick b m3 m2)

  abbrev End1 : Type 0
  End1 = Stands w (v 1) m1

  abbrev End3 : Type 0
  End3 = Stands w (v 3) m3

  after-known : (a b : Bool) → (a ≡ true → End1) → (b ≡ true → End3) → Known (cond_truth v (t_after a b c)) (formula TAfter a b)
  unfolding t_after cond_truth ogc some
  after-known false false f g = gt_known s0 s2
  after-known false true f g = one_guard 2 m2 (test 0 gt 3) s2 (gt_known s0 (g refl))
  after-known true false f g = one_guard 1 m1 (test 0 gt 2) (f refl) (gt_known s0 s2)
  after-known true true f g = two_guards 1 2 m1 m2 (test 0 gt 3) (f refl) s2 (gt_known s0 (g refl))

  before_known : (a b : Bool) → (a ≡ true → End1) → (b ≡ true → End3) → Known (cond_truth v (t_before a b c)) (formula TBefore a b)
  unfolding t_before cond_truth ogc some
  before_known false false f g = lt_known s0 s2
  before_known false true f g = one_guard 3 m3 (test 0 lt 2) (g refl) (lt_known s0 s2)
  before_known true false f g = one_guard 0 m0 (test 1 lt 2) s0 (lt_known (f refl) s2)
  before_known true true f g = two_guards 0 3 m0 m3 (test 1 lt 2) s0 (g refl) (lt_known (f refl) s2)

  disjoint_known : (a b : Bool) → (a ≡ true → End1) → (b ≡ true → End3) → Known (cond_truth v (t_disjoint a b c)) (formula TDisjoint a b)
  unfolding t_disjoint t_before t_after cond_truth ogc some
  disjoint_known false false f g = ne_known s0 s2
  disjoint_known false true f g = or_known (before_known false true f g) (after-known false true f g)
  disjoint_known true false f g = or_known (before_known true false f g) (after-known true false f g)
  disjoint_known true true f g = or_known (before_known true true f g) (after-known true true f g)

  equals-known : (a b : Bool) → (a ≡ true → End1) → (b ≡ true → End3) → Known (cond_truth v (t_equals a b c)) (formula TEquals a b)
  unfolding t_equals cond_truth ogc some
  equals-known false false f g = known_as (both-same (same_moment m0 m2)) (eq_known s0 s2)
  equals-known false true f g = and_known (eq_known s0 s2) (eq_known s0 (g refl))
  equals-known true false f g = and_known (eq_known s0 s2) (eq_known (f refl) s2)
  equals-known true true f g = and_known (eq_known s0 s2) (eq_known (f refl) (g refl))

  intersects_known : (a b : Bool) → (a ≡ true → End1) → (b ≡ true → End3) → Known (cond_truth v (t_intersects a b c)) (formula TIntersects a b)
  unfolding t_intersects cond_truth ogc some
  intersects_known false false f g = known_as (same_or m0 m2) (eq_known s0 s2)
  intersects_known false true f g = not_known (or_known (lt_known s0 s2) (gt_known s0 (g refl)))
  intersects_known true false f g = not_known (or_known (lt_known (f refl) s2) (gt_known s0 s2))
  intersects_known true true f g = not_known (or_known (lt_known (f refl) s2) (gt_known s0 (g refl)))

  -- what is to be shown of an operator
  abbrev Agrees : Op → Type 0
  Agrees o =
      (a b : Bool) → (a ≡ true → End1) → (b ≡ true → End3) → either (is_instant_or_interval o) (both a b) ≡ true
      → Known (cond_truth v (translate (op_number o) a b c)) (formula o a b)

  abbrev OnIntervals : Op → Type 0
  OnIntervals o = End1 → End3 → Known (cond_truth v (translate (op_number o) true true c)) (formula o true true)

  -- an operator that wants two intervals
  intervals : (o : Op) → is_instant_or_interval o ≡ false → OnIntervals o → Agrees o
  intervals o e h true true f g d = h (f refl) (g refl)
  intervals o e h true false f g d = absurd (false≢true (rw e at d))
  intervals o e h false b f g d = absurd (false≢true (rw e at d))

  contains_known : OnIntervals TContains
  unfolding translate t_contains cond_truth ogc some
  contains_known s1 s3 = and_known (lt_known s0 s2) (gt_known s1 s3)

  during_known : OnIntervals TDuring
  unfolding translate t_during cond_truth ogc some
  during_known s1 s3 = and_known (gt_known s0 s2) (lt_known s1 s3)

  finished_known : OnIntervals TFinishedBy
  unfolding translate t_finished_by cond_truth ogc some
  finished_known s1 s3 = and_known (lt_known s0 s2) (eq_known s1 s3)

  finishes_known : OnIntervals TFinishes
  unfolding translate t_finishes cond_truth ogc some
  finishes_known s1 s3 = and_known (gt_known s0 s2) (eq_known s1 s3)

  meets_known : OnIntervals TMeets
  unfolding translate t_meets cond_truth ogc some
  meets_known s1 s3 = two_guards 0 3 m0 m3 (test 1 eq 2) s0 s3 (eq_known s1 s2)

  met-known : OnIntervals TMetBy
  unfolding translate t_met_by cond_truth ogc some
  met-known s1 s3 = two_guards 1 2 m1 m2 (test 0 eq 3) s1 s2 (eq_known s0 s3)

  overlapped_known : OnIntervals TOverlappedBy
  unfolding translate t_overlapped_by cond_truth ogc some
  overlapped_known s1 s3 = known_as (both_assoc (earlier m2 m0) (earlier m0 m3) (earlier m3 m1)) (and_known (and_known (gt_known s0 s2) (lt_known s0 s3)) (gt_known s1 s3))

  overlaps_known : OnIntervals TOverlaps
  unfolding translate t_overlaps cond_truth ogc some
  overlaps_known s1 s3 = known_as (both_assoc (earlier m0 m2) (earlier m2 m1) (earlier m1 m3)) (and_known (and_known (lt_known s0 s2) (gt_known s1 s2)) (lt_known s1 s3))

  started_known : OnIntervals TStartedBy
  unfolding translate t_started_by cond_truth ogc some
  started_known s1 s3 = and_known (eq_known s0 s2) (gt_known s1 s3)

  starts_known : OnIntervals TStarts
  unfolding translate t_starts cond_truth ogc some
  starts_known s1 s3 = and_known (eq_known s0 s2) (lt_known s1 s3)

  agrees : (o : Op) → is_temporal o ≡ true → Agrees o
  unfolding translate is_instant_or_interval some
  agrees =
      of_temporal Agrees
      ((λ a b f g e. after-known a b f g)
      also (λ a b f g e. before_known a b f g)
      also intervals TContains refl contains_known
      also (λ a b f g e. disjoint_known a b f g)
      also intervals TDuring refl during_known
      also (λ a b f g e. equals-known a b f g)
      also intervals TFinishedBy refl finished_known
      also intervals TFinishes refl finishes_known
      also (λ a b f g e. intersects_known a b f g)
      also intervals TMeets refl meets_known
      also intervals TMetBy refl met-known
      also intervals TOverlappedBy refl overlapped_known
      also intervals TOverlaps refl overlaps_known
      also intervals TStartedBy refl started_known
      also intervals TStarts refl starts_known
      also done)

-- The ends of an operand stand for moments.

column_stands : (w : Width) (v : Value) → is_instant_value w v ≡ true → Stands w (has v) (moment_of w (has v))
column_stands w row.null e = absurd (false≢true e)
column_stands w (val x) e = at e

look_stands : (w : Width) (s : List ℕ) (cs : List Column) → instants w cs ≡ true → found (look s cs) ≡ true
    → Stands w (look s cs) (moment_of w (look s cs))
unfolding look instants
look_stands w s [] e f = absurd (false≢true f)
look_stands w s (c ∷ cs) e f =
    let h = both_true (is_instant_value w c.holds) (instants w cs) e in
    go (same s c.called) f (column_stands w c.holds h.0) (λ g. look_stands w s cs h.1 g)
  where
    go : (b : Bool) → found (pick b (has c.holds) (look s cs)) ≡ true → Stands w (has c.holds) (moment_of w (has c.holds))
        → (found (look s cs) ≡ true → Stands w (look s cs) (moment_of w (look s cs)))
        → Stands w (pick b (has c.holds) (look s cs)) (moment_of w (pick b (has c.holds) (look s cs)))
    go true g k r = k
    go false g k r = r g

date_stands : (w : Width) (y m d : ℕ) → valid_date y m d ≡ true → is_start w (date y m d) ≡ true → Stands w (has (val (literal.date y m d))) (moment (written_fields w (date y m d)))
unfolding is_start
date_stands ten y m d e f =
    let k : Stands ten (has (val (literal.date y m d))) (moment (fields ten (literal.date y m d))) = at (date-instant y m d e) in
    rw (date-fields y m d e) at k
date_stands nineteen y m d e f = absurd (false≢true f)
date_stands twenty_four y m d e f = absurd (false≢true f)

-- a width whose starts may be a Timestamp is one whose written instants are Timestamps
timestamp-written : (w : Width) (y m d h i s : ℕ) → is_start w (timestamp y m d h i s) ≡ true → written w ≡ TIMESTAMP
unfolding is_start
timestamp-written ten y m d h i s g = absurd (false≢true g)
timestamp-written nineteen y m d h i s g = refl
timestamp-written twenty_four y m d h i s g = refl

timestamp_stands : (w : Width) (y m d h i s : ℕ) → valid_date y m d ≡ true → valid_time h i s ≡ true → is_start w (timestamp y m d h i s) ≡ true
    → Stands w (has (val (literal.timestamp (writing_of w) y m d h i s))) (moment (written_fields w (timestamp y m d h i s)))
timestamp_stands w y m d h i s e f g =
    let q = timestamp-written w y m d h i s g in
    let k : Stands w (has (val (literal.timestamp (writing_of w) y m d h i s))) (moment (fields w (literal.timestamp (writing_of w) y m d h i s))) =
    at (timestamp-instant y m d h i s e f w q) in
    rw (timestamp-fields y m d h i s e f w q) at k

-- Null is no start
null_starts : (w : Width) → is_start w null ≡ true → ⊥
unfolding is_start
null_starts ten f = false≢true f
null_starts nineteen f = false≢true f
null_starts twenty_four f = false≢true f

-- a point is a start that is not open, and both are ends
pub start_is_end : (w : Width) (t : Tree) → is_start w t ≡ true → is_end t ≡ true
unfolding is_start is_end
start_is_end ten t = one_of_all (ID ∷ DATE ∷ UNBOUNDED ∷ []) (ID ∷ DATE ∷ TIMESTAMP ∷ UNBOUNDED ∷ NULL ∷ []) (kind_of t) refl
start_is_end nineteen t = one_of_all (ID ∷ TIMESTAMP ∷ UNBOUNDED ∷ []) (ID ∷ DATE ∷ TIMESTAMP ∷ UNBOUNDED ∷ NULL ∷ []) (kind_of t) refl
start_is_end twenty_four t = one_of_all (ID ∷ TIMESTAMP ∷ UNBOUNDED ∷ []) (ID ∷ DATE ∷ TIMESTAMP ∷ UNBOUNDED ∷ NULL ∷ []) (kind_of t) refl

pub point_start : (w : Width) (t : Tree) → is_point w t ≡ true → is_start w t ≡ true
unfolding is_point is_start
point_start ten t = one_of_all (ID ∷ DATE ∷ []) (ID ∷ DATE ∷ UNBOUNDED ∷ []) (kind_of t) refl
point_start nineteen t = one_of_all (ID ∷ TIMESTAMP ∷ []) (ID ∷ TIMESTAMP ∷ UNBOUNDED ∷ []) (kind_of t) refl
point_start twenty_four t = one_of_all (ID ∷ TIMESTAMP ∷ []) (ID ∷ TIMESTAMP ∷ UNBOUNDED ∷ []) (kind_of t) refl

-- a stop is a point, or in the second call an open end
pub stop_start : (w : Width) (t : Tree) → is_stop w t ≡ true → is_start w t ≡ true
unfolding is_stop
stop_start ten t f = point_start ten t f
stop_start nineteen t f = point_start nineteen t f
stop_start twenty_four t f = f

open_points : (w : Width) → is_point w unbounded ≡ true → ⊥
unfolding is_point
open_points ten f = false≢true f
open_points nineteen f = false≢true f
open_points twenty_four f = false≢true f

-- only the second call's width has an open end
second_stands : (w : Width) → is_stop w unbounded ≡ true → Stands w (has (val (literal.open_end (writing_of w) second_end))) open_end
unfolding is_stop
second_stands ten f = absurd (open_points ten f)
second_stands nineteen f = absurd (open_points nineteen f)
second_stands twenty_four f = ends

-- a slot where `..` may stand, and the moment that it stands for there
record Opening (w : Width) (slot : Slot) (when_open : Moment) (t : Tree) : Type 0 where
  allowed : is_start w t ≡ true
  opened : t ≡ unbounded → Stands w (has (val (literal.open_end (writing_of w) slot))) when_open

module _ (w : Width) (cs : List Column) (e : instants w cs ≡ true) where
  end_stands : (slot : Slot) (when_open : Moment) (t : Tree) (n : ℕ) → Good t n → holds cs t ≡ true → Opening w slot when_open t
      → Stands w (end_on (writing_of w) cs slot t) (moment_on w cs when_open t)
  unfolding Good holds everywhere end_on end_atom value_on tree_atom value moment_on is_id
  end_stands slot when_open t n g p f = go t (end_is t (start_is_end w t f.allowed)) g p f
    where
      go : (t : Tree) → EndIs t → Good t n → holds cs t ≡ true → Opening w slot when_open t → Stands w (end_on (writing_of w) cs slot t) (moment_on w cs when_open t)
      go t null_end g p f = absurd (null_starts w f.allowed)
      go t open_end_lem g p f = f.opened refl
      go t (date-end y m d) g p f = date_stands w y m d g.1 f.allowed
      go t (timestamp-end y m d h i s) g p f = timestamp_stands w y m d h i s g.1 g.2 f.allowed
      go t (column_end s) g p f = look_stands w s cs e p

  start_opens : (t : Tree) → is_start w t ≡ true → Opening w first_end open_start t
  start_opens t f = record { allowed = f; opened = λ q. opens }

  stop_opens : (t : Tree) → is_stop w t ≡ true → Opening w second_end open_end t
  stop_opens t f = record { allowed = stop_start w t f; opened = λ q. second_stands w (ap (is_stop w) (sym q) ∙ f) }

  -- a point is not open
  point_opens : (t : Tree) → is_point w t ≡ true → Opening w alone open_start t
  point_opens t f = record { allowed = point_start w t f; opened = λ q. absurd (open_points w (ap (is_point w) (sym q) ∙ f)) }

  -- the ends of an interval
  ends_stand : (t : Tree) (n : ℕ) → OfKind INTERVAL t → Good t n → holds cs t ≡ true → ogc_operand w t ≡ true
      → Stands w (end_on (writing_of w) cs (start_slot (is_interval t)) (start_of t)) (moment_on w cs open_start (start_of t))
      × Stands w (end_on (writing_of w) cs (stop_slot (is_interval t)) (stop_of t)) (moment_on w cs open_end (stop_of t))
  unfolding Good holds everywhere end_on end_atom value_on tree_atom value ogc_operand is_interval start_of stop_of first second is_id
  ends_stand t n (of_interval a b) g p f =
      let h = both_true (holds cs a) (holds cs b) p in
      let k = both_true (is_start w a) (is_stop w b) f in (
        end_stands first_end open_start a (n - 1) g.1 h.0 (start_opens a k.0),
        end_stands second_end open_end b (n - 1) g.2 h.1 (stop_opens b k.1),
      )

  first_stands : (t : Tree) (n : ℕ) → Good t n → holds cs t ≡ true → ogc_operand w t ≡ true
      → Stands w (end_on (writing_of w) cs (start_slot (is_interval t)) (start_of t)) (moment_on w cs open_start (start_of t))
  unfolding ogc_operand start_of
  first_stands t n g p f = go (is_interval t) refl f
    where
      go : (b : Bool) → is_interval t ≡ b → pick b (both (is_start w (start_of t)) (is_stop w (stop_of t))) (is_point w t) ≡ true
          → Stands w (end_on (writing_of w) cs (start_slot b) (pick b (first (children t)) t)) (moment_on w cs open_start (pick b (first (children t)) t))
      go true i q = subst (λ (c : Bool). Stands w (end_on (writing_of w) cs (start_slot c) (pick c (first (children t)) t)) (moment_on w cs open_start (pick c (first (children t)) t))) i (ends_stand t n (interval_is t i) g p f).0
      go false i q = end_stands alone open_start t n g p (point_opens t q)

  last_stands : (t : Tree) (n : ℕ) → Good t n → holds cs t ≡ true → ogc_operand w t ≡ true → is_interval t ≡ true
      → Stands w (end_on (writing_of w) cs (stop_slot (is_interval t)) (stop_of t)) (moment_on w cs open_end (stop_of t))
  last_stands t n g p f i = (ends_stand t n (interval_is t i) g p f).1

-- On a row without NULL, all of its values valid and of one width, the written instants as that width's call writes them, `..` only as an
-- interval's start, or in the second call as its end, and no NULL literal, a temporal predicate is true if the predicate of 21-065r2 holds, and
-- false if not.
pub ogc_agrees : (w : Width) (cs : List Column) (o : Op) (t u : Tree) (n m : ℕ) → is_temporal o ≡ true → operands o t u ≡ true → Good t n → Good u m
    → instants w cs ≡ true → holds cs t ≡ true → holds cs u ≡ true → ogc_operand w t ≡ true → ogc_operand w u ≡ true
    → temporal_truth (writing_of w) cs o t u ≡ truth_of (ogc_on w cs o t u)
unfolding temporal_truth ogc_on ends_of operands
ogc_agrees w cs o t u n m e f p q r ht hu ot ou =
    let d : either (is_instant_or_interval o) (both (is_interval t) (is_interval u)) ≡ true = rw e at f in
    let k =
    agrees w (end_values (writing_of w) cs t u) (columns_of t u)
    (moment_on w cs open_start (start_of t)) (moment_on w cs open_end (stop_of t)) (moment_on w cs open_start (start_of u)) (moment_on w cs open_end (stop_of u))
    (first_stands w cs r t n p ht ot) (first_stands w cs r u m q hu ou) o e (is_interval t) (is_interval u)
    (last_stands w cs r t n p ht ot) (last_stands w cs r u m q hu ou) d in
    k.is
