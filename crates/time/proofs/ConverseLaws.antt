-- A predicate and its converse with the operands exchanged are alike on every row: exchanging operands exchanges e0 with e2 and e1 with e3,
-- each comparison is read from its other side, and guards and the sides of an OR change places. No hypothesis on the row is wanted.
use Rattle.std.specs.Prelude.{ℕ, ◌≡◌, refl, List, Bool}
use Rattle.std.proofs.Math.Path.{sym, ap}
use Rattle.std.proofs.Common.{◌∙◌}
use Rattle.std.proofs.Math.Bool.{true, false}
use Rattle.std.proofs.lemmas.Bool.{false≢true}
use Rattle.prelude.specs.Choice.{pick, either, some}
use Rattle.op.specs.declared.Op.{Op}
use Rattle.op.specs.declared.Op.TheVariants.{TContains, TDuring, TFinishedBy, TFinishes, TMeets, TMetBy, TOverlappedBy, TOverlaps, TStartedBy, TStarts}
use Rattle.op.specs.Op.{is_temporal}
use Rattle.tree.specs.Tree.{Tree, dyadic}
use Rattle.tree.specs.Tests.{by_operator, is_interval, is_id, start_of, stop_of, ends_of, columns_of}
use Rattle.literal.specs.declared.Writing.{Writing}
use Rattle.literal.specs.Literal.{start_slot, stop_slot}
use Rattle.sql.specs.Condition.{test, lt, gt, eq}
use Rattle.sql.specs.Translators.{translate, t_after, t_before, t_contains, t_disjoint, t_during, t_equals, t_finished_by, t_finishes, t_intersects, t_meets, t_met_by, t_overlapped_by, t_overlaps, t_started_by, t_starts}
use Rattle.row.specs.Row.{Column, Found}
use Rattle.truth.specs.declared.Truth.{Truth}
use Rattle.lexer.specs.declared.Kind.TheVariants.{Lt as LT, Gt as GT, Eq as EQ}
use Rattle.truth.specs.Grammar.{not3, and3, or3, compared}
use Rattle.time.specs.Filter.{is_and, is_or, compares}
use Rattle.time.specs.FilterTruth.{end_on, cond_truth, end_values, temporal_truth, truth_on}
use Rattle.time.specs.Converse.{converse, Turned, keep, turn, in_both, in_neg}
use Rattle.time.specs.OperatorLaws.{done, ◌also◌, of_temporal}
use Rattle.time.specs.TruthLaws.{or3_comm, lt_gt, gt_lt, eq_eq, ne_ne, guard, guards_swap, check_id_lem, check_ids_lem}

module _ (writing : Writing) (cs : List Column) (t u : Tree) where
  -- the four ends of t and u; of u and t they are the third, the fourth, the first and the second of these
  abbrev here : ℕ → Found
  here = end_values writing cs t u

  abbrev cols : ℕ → Bool
  cols = columns_of t u

  abbrev there : ℕ → Found
  there = end_values writing cs u t

  abbrev cols' : ℕ → Bool
  cols' = columns_of u t

  abbrev x0 : Found
  x0 = end_on writing cs (start_slot (is_interval t)) (start_of t)

  abbrev x1 : Found
  x1 = end_on writing cs (stop_slot (is_interval t)) (stop_of t)

  abbrev x2 : Found
  x2 = end_on writing cs (start_slot (is_interval u)) (start_of u)

  abbrev x3 : Found
  x3 = end_on writing cs (stop_slot (is_interval u)) (stop_of u)

  abbrev c0 : Bool
  c0 = is_id (start_of t)

  abbrev c1 : Bool
  c1 = is_id (stop_of t)

  abbrev c2 : Bool
  c2 = is_id (start_of u)

  abbrev c3 : Bool
  c3 = is_id (stop_of u)

  after_before : (a b : Bool) → cond_truth here (t_after a b cols) ≡ cond_truth there (t_before b a cols')
  unfolding cond_truth t_after t_before ends_of
  after_before false false = gt_lt x0 x2
  after_before false true = check_id_lem here cols 2 (test 0 gt 3) ∙ ap (guard c2 x2) (gt_lt x0 x3) ∙ sym (check_id_lem there cols' 0 (test 1 lt 2))
  after_before true false = check_id_lem here cols 1 (test 0 gt 2) ∙ ap (guard c1 x1) (gt_lt x0 x2) ∙ sym (check_id_lem there cols' 3 (test 0 lt 2))
  after_before true true =
      check_ids_lem here cols 1 2 (test 0 gt 3)
      ∙ guards_swap c1 c2 x1 x2 (compared GT x0 x3)
      ∙ ap (λ b. guard c2 x2 (guard c1 x1 b)) (gt_lt x0 x3)
      ∙ sym (check_ids_lem there cols' 0 3 (test 1 lt 2))

  equals-turned : (a b : Bool) → cond_truth here (t_equals a b cols) ≡ cond_truth there (t_equals b a cols')
  unfolding cond_truth t_equals ends_of
  equals-turned false false = eq_eq x0 x2
  equals-turned false true = cc (eq_eq x0 x2, eq_eq x0 x3)
  equals-turned true false = cc (eq_eq x0 x2, eq_eq x1 x2)
  equals-turned true true = cc (eq_eq x0 x2, eq_eq x1 x3)

  intersects_turned : (a b : Bool) → cond_truth here (t_intersects a b cols) ≡ cond_truth there (t_intersects b a cols')
  unfolding cond_truth t_intersects ends_of
  intersects_turned false false = eq_eq x0 x2
  intersects_turned false true = cc (lt_gt x0 x2, gt_lt x0 x3, or3_comm (compared LT x0 x2) (compared GT x0 x3))
  intersects_turned true false = cc (lt_gt x1 x2, gt_lt x0 x2, or3_comm (compared LT x1 x2) (compared GT x0 x2))
  intersects_turned true true = cc (lt_gt x1 x2, gt_lt x0 x3, or3_comm (compared LT x1 x2) (compared GT x0 x3))

  contains_during : temporal_truth writing cs TContains t u ≡ temporal_truth writing cs TDuring u t
  unfolding temporal_truth translate cond_truth t_contains t_during ends_of
  contains_during = cc (lt_gt x0 x2, gt_lt x1 x3)

  finished_finishes : temporal_truth writing cs TFinishedBy t u ≡ temporal_truth writing cs TFinishes u t
  unfolding temporal_truth translate cond_truth t_finished_by t_finishes ends_of
  finished_finishes = cc (lt_gt x0 x2, eq_eq x1 x3)

  started_starts : temporal_truth writing cs TStartedBy t u ≡ temporal_truth writing cs TStarts u t
  unfolding temporal_truth translate cond_truth t_started_by t_starts ends_of
  started_starts = cc (eq_eq x0 x2, gt_lt x1 x3)

  overlaps_overlapped : temporal_truth writing cs TOverlaps t u ≡ temporal_truth writing cs TOverlappedBy u t
  unfolding temporal_truth translate cond_truth t_overlaps t_overlapped_by ends_of
  overlaps_overlapped = cc (lt_gt x0 x2, gt_lt x1 x2, lt_gt x1 x3)

  meets_met : temporal_truth writing cs TMeets t u ≡ temporal_truth writing cs TMetBy u t
  unfolding temporal_truth translate cond_truth t_meets t_met_by ends_of
  meets_met =
      check_ids_lem here cols 0 3 (test 1 eq 2)
      ∙ guards_swap c0 c3 x0 x3 (compared EQ x1 x2)
      ∙ ap (λ b. guard c3 x3 (guard c0 x0 b)) (eq_eq x1 x2)
      ∙ sym (check_ids_lem there cols' 1 2 (test 0 eq 3))

module _ (writing : Writing) (cs : List Column) (t u : Tree) where
  either-turned : (a b : Bool)
      → or3 (cond_truth (end_values writing cs t u) (t_before a b (columns_of t u))) (cond_truth (end_values writing cs t u) (t_after a b (columns_of t u)))
      ≡ or3 (cond_truth (end_values writing cs u t) (t_before b a (columns_of u t))) (cond_truth (end_values writing cs u t) (t_after b a (columns_of u t)))
  either-turned a b =
      or3_comm (cond_truth (end_values writing cs t u) (t_before a b (columns_of t u))) (cond_truth (end_values writing cs t u) (t_after a b (columns_of t u)))
      ∙ cc (after_before writing cs t u a b, after_before writing cs u t b a)

  -- TDisjoint is TBefore or TAfter, but of two instants
  disjoint_turned : (a b : Bool)
      → cond_truth (end_values writing cs t u) (t_disjoint a b (columns_of t u)) ≡ cond_truth (end_values writing cs u t) (t_disjoint b a (columns_of u t))
  unfolding cond_truth t_disjoint t_after t_before ends_of
  disjoint_turned false false = ne_ne (end_on writing cs (start_slot (is_interval t)) (start_of t)) (end_on writing cs (start_slot (is_interval u)) (start_of u))
  disjoint_turned false true = either-turned false true
  disjoint_turned true false = either-turned true false
  disjoint_turned true true = either-turned true true

  -- a temporal predicate and its converse with the operands exchanged
  pub turned_predicate : (o : Op) → is_temporal o ≡ true → temporal_truth writing cs o t u ≡ temporal_truth writing cs (converse o) u t
  unfolding temporal_truth translate converse some
  turned_predicate =
      of_temporal (λ o. temporal_truth writing cs o t u ≡ temporal_truth writing cs (converse o) u t)
      (after_before writing cs t u (is_interval t) (is_interval u)
      also sym (after_before writing cs u t (is_interval u) (is_interval t))
      also contains_during writing cs t u
      also disjoint_turned (is_interval t) (is_interval u)
      also sym (contains_during writing cs u t)
      also equals-turned writing cs t u (is_interval t) (is_interval u)
      also finished_finishes writing cs t u
      also sym (finished_finishes writing cs u t)
      also intersects_turned writing cs t u (is_interval t) (is_interval u)
      also meets_met writing cs t u
      also sym (meets_met writing cs u t)
      also sym (overlaps_overlapped writing cs u t)
      also overlaps_overlapped writing cs t u
      also started_starts writing cs t u
      also sym (started_starts writing cs u t)
      also done)

-- the converse of a temporal operator is one
pub converse_temporal : (o : Op) → is_temporal o ≡ true → is_temporal (converse o) ≡ true
unfolding is_temporal converse some
converse_temporal =
    of_temporal (λ o. is_temporal (converse o) ≡ true)
    (refl also refl also refl also refl also refl also refl also refl also refl also refl also refl also refl also refl also refl also refl
    also refl also done)

-- a temporal operator is neither AND nor OR nor a comparison
abbrev Apart : Op → Type 0
Apart o = (is_and o ≡ false) × (is_or o ≡ false) × (compares o ≡ false)

apart : (o : Op) → is_temporal o ≡ true → Apart o
unfolding some
apart =
    of_temporal Apart
    ((refl, refl, refl) also (refl, refl, refl) also (refl, refl, refl) also (refl, refl, refl) also (refl, refl, refl)
    also (refl, refl, refl) also (refl, refl, refl) also (refl, refl, refl) also (refl, refl, refl) also (refl, refl, refl)
    also (refl, refl, refl) also (refl, refl, refl) also (refl, refl, refl) also (refl, refl, refl) also (refl, refl, refl) also done)

-- the truth of a temporal predicate as a filter
pub predicate_truth : (writing : Writing) (cs : List Column) (o : Op) (t u : Tree) → is_temporal o ≡ true → truth_on writing cs (dyadic o t u) ≡ temporal_truth writing cs o t u
unfolding truth_on by_operator
predicate_truth writing cs o t u e = let h = apart o e in rw (h.0, h.1, h.2)

-- AND and OR of filters whose truths are alike
joined : (p q : Bool) {a a' b b' : Truth} (r r' : Truth) → either p q ≡ true → a ≡ a' → b ≡ b'
    → pick p (and3 a b) (pick q (or3 a b) r) ≡ pick p (and3 a' b') (pick q (or3 a' b') r')
joined true q r r' e f g = cc
joined false true r r' e f g = cc
joined false false r r' e f g = absurd (false≢true e)

-- One, some or all of a filter's temporal predicates replaced by their converses, operands exchanged: the truth stays on every row.
pub turned_truth : (writing : Writing) (cs : List Column) {t t' : Tree} → Turned t t' → truth_on writing cs t ≡ truth_on writing cs t'
unfolding truth_on by_operator
turned_truth writing cs (keep t) = refl
turned_truth writing cs (turn o t u e) =
    predicate_truth writing cs o t u e ∙ turned_predicate writing cs t u o e ∙ sym (predicate_truth writing cs (converse o) u t (converse_temporal o e))
turned_truth writing cs (in_both {t = t} {t' = t'} {u = u} {u' = u'} o e f g) =
    joined (is_and o) (is_or o) _ _ e (turned_truth writing cs f) (turned_truth writing cs g)
turned_truth writing cs (in_neg o e f) = rw e (ap not3 (turned_truth writing cs f))
