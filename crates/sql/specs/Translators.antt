-- The fifteen `t_…_sql` of src/ds/gpkg.rs: the condition of a temporal operator, by whether each operand is an interval and which ends are columns.
use Rattle.std.specs.Prelude.{ℕ, [], ◌∷◌, Bool, true, false}
use Rattle.prelude.specs.Choice.{entry_at}
use Rattle.op.specs.declared.Op.TheVariants.{TAfter, TBefore, TContains, TDisjoint, TDuring, TEquals, TFinishedBy, TFinishes, TIntersects, TMeets, TMetBy, TOverlappedBy, TOverlaps, TStartedBy}
use Rattle.op.specs.Op.{op_number}
use Rattle.sql.specs.Condition.{Cond, test, and, or, not, brackets, lt, gt, eq, ne, check_id, check_ids}

-- whether the first and the second operand is an interval; which ends are columns
abbrev pub Translator : Type 0
Translator = Bool → Bool → (ℕ → Bool) → Cond

-- mixed (instant and interval) arguments

unfoldable pub t_after : Translator
t_after false false column = test 0 gt 2
t_after false true column = check_id column 2 (test 0 gt 3)
t_after true false column = check_id column 1 (test 0 gt 2)
t_after true true column = check_ids column 1 2 (test 0 gt 3)

unfoldable pub t_before : Translator
t_before false false column = test 0 lt 2
t_before false true column = check_id column 3 (test 0 lt 2)
t_before true false column = check_id column 0 (test 1 lt 2)
t_before true true column = check_ids column 0 3 (test 1 lt 2)

unfoldable pub t_disjoint : Translator
t_disjoint false false column = test 0 ne 2
t_disjoint false true column = or (brackets (check_id column 3 (test 0 lt 2))) (brackets (check_id column 2 (test 0 gt 3)))
t_disjoint true false column = or (brackets (check_id column 0 (test 1 lt 2))) (brackets (check_id column 1 (test 0 gt 2)))
t_disjoint true true column =
    or (brackets (check_ids column 0 3 (test 1 lt 2))) (brackets (check_ids column 1 2 (test 0 gt 3)))

unfoldable pub t_equals : Translator
t_equals false false column = test 0 eq 2
t_equals false true column = and (brackets (test 0 eq 2)) (brackets (test 0 eq 3))
t_equals true false column = and (brackets (test 0 eq 2)) (brackets (test 1 eq 2))
t_equals true true column = and (brackets (test 0 eq 2)) (brackets (test 1 eq 3))

unfoldable pub t_intersects : Translator
t_intersects false false column = test 0 eq 2
t_intersects false true column = not (or (brackets (test 0 lt 2)) (brackets (test 0 gt 3)))
t_intersects true false column = not (or (brackets (test 1 lt 2)) (brackets (test 0 gt 2)))
t_intersects true true column = not (or (brackets (test 1 lt 2)) (brackets (test 0 gt 3)))

-- intervals only

unfoldable pub t_contains : Translator
t_contains a b column = and (brackets (test 0 lt 2)) (brackets (test 1 gt 3))

unfoldable pub t_during : Translator
t_during a b column = and (brackets (test 0 gt 2)) (brackets (test 1 lt 3))

unfoldable pub t_finished_by : Translator
t_finished_by a b column = and (brackets (test 0 lt 2)) (brackets (test 1 eq 3))

unfoldable pub t_finishes : Translator
t_finishes a b column = and (brackets (test 0 gt 2)) (brackets (test 1 eq 3))

unfoldable pub t_meets : Translator
t_meets a b column = check_ids column 0 3 (test 1 eq 2)

unfoldable pub t_met_by : Translator
t_met_by a b column = check_ids column 1 2 (test 0 eq 3)

unfoldable pub t_overlapped_by : Translator
t_overlapped_by a b column = and (and (brackets (test 0 gt 2)) (brackets (test 0 lt 3))) (brackets (test 1 gt 3))

unfoldable pub t_overlaps : Translator
t_overlaps a b column = and (and (brackets (test 0 lt 2)) (brackets (test 1 gt 2))) (brackets (test 1 lt 3))

unfoldable pub t_started_by : Translator
t_started_by a b column = and (brackets (test 0 eq 2)) (brackets (test 1 gt 3))

unfoldable pub t_starts : Translator
t_starts a b column = and (brackets (test 0 eq 2)) (brackets (test 1 lt 3))

-- the translator of a temporal operator, by the operator's number
unfoldable pub translate : ℕ → Translator
translate =
    entry_at
    ((op_number TAfter, t_after) ∷ (op_number TBefore, t_before) ∷ (op_number TContains, t_contains) ∷ (op_number TDisjoint, t_disjoint)
    ∷ (op_number TDuring, t_during) ∷ (op_number TEquals, t_equals) ∷ (op_number TFinishedBy, t_finished_by) ∷ (op_number TFinishes, t_finishes)
    ∷ (op_number TIntersects, t_intersects) ∷ (op_number TMeets, t_meets) ∷ (op_number TMetBy, t_met_by) ∷ (op_number TOverlappedBy, t_overlapped_by)
    ∷ (op_number TOverlaps, t_overlaps) ∷ (op_number TStartedBy, t_started_by) ∷ [])
    t_starts
