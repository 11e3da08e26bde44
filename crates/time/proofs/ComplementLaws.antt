-- TDisjoint is the negation of TIntersects where no column of the operands is NULL: its guards then pass, and without them it is what
-- TIntersects negates.
use Rattle.std.specs.Prelude.{ℕ, ◌≡◌, refl, List, Bool}
use Rattle.std.proofs.Common.{sym, ◌∙◌, ap}
use Rattle.std.proofs.Math.Bool.{true, false}
use Rattle.prelude.specs.Choice.{either, negated, some}
use Rattle.std.specs.declared.cmp.Ordering.{Ordering}
use Rattle.std.specs.declared.cmp.Ordering.TheVariants.{Less, Equal, Greater}
use Rattle.order.specs.Order.{order}
use Rattle.op.specs.declared.Op.TheVariants.{TDisjoint, TIntersects}
use Rattle.tree.specs.Tree.{Tree}
use Rattle.tree.specs.TestsLaws.{everywhere_here, everywhere_start, everywhere_stop}
use Rattle.tree.specs.Tests.{column_name, is_interval, is_id, start_of, stop_of, ends_of, columns_of}
use Rattle.literal.specs.declared.Writing.{Writing}
use Rattle.literal.specs.Literal.{Slot, start_slot, stop_slot}
use Rattle.sql.specs.Condition.{test, lt, gt}
use Rattle.sql.specs.Translators.{translate, t_disjoint, t_intersects}
use Rattle.row.specs.Row.{val, Column, Found, absent, has, look}
use Rattle.row.specs.Row as row
use Rattle.truth.specs.declared.Truth.{Truth}
use Rattle.truth.specs.declared.Truth.TheVariants.{True, False, Unknown, Missing}
use Rattle.truth.specs.Reading.{says_true, says_false, says_unknown}
use Rattle.truth.specs.Reading.{answered}
use Rattle.lexer.specs.declared.Kind.TheVariants.{Eq as EQ, Ne as NE}
use Rattle.truth.specs.Grammar.{not3, or3, truth_of, compared, holds}
use Rattle.time.specs.FilterTruth.{at_column, end_on, is_value, cond_truth, end_values, temporal_truth, columns_non_null}
use Rattle.time.specs.Claims.{Opposite}
use Rattle.time.specs.TruthLaws.{not3_twice, guard, guard_passes, check_id_lem, check_ids_lem, end_on_lem, column_value}

-- An end of an operand whose columns are not NULL.
start_non_null : (cs : List Column) (t : Tree) → columns_non_null cs t ≡ true → columns_non_null cs (start_of t) ≡ true
unfolding columns_non_null is_id
start_non_null cs = everywhere_start (at_column is_value cs) refl

stop_non_null : (cs : List Column) (t : Tree) → columns_non_null cs t ≡ true → columns_non_null cs (stop_of t) ≡ true
unfolding columns_non_null is_id
stop_non_null cs = everywhere_stop (at_column is_value cs) refl

-- its guard passes
open_guard : (writing : Writing) (cs : List Column) (slot : Slot) (e : Tree) → columns_non_null cs e ≡ true → (b : Truth) → guard (is_id e) (end_on writing cs slot e) b ≡ b
unfolding columns_non_null is_value
open_guard writing cs slot e h b = go (is_id e) refl (everywhere_here (at_column is_value cs) e h)
  where
    go : (c : Bool) → is_id e ≡ c → either (negated c) (is_value (look (column_name e) cs)) ≡ true → guard c (end_on writing cs slot e) b ≡ b
    go true i p = guard_passes true (end_on writing cs slot e) b (end_on_lem is_value writing cs slot e refl (ap is_value (column_value writing cs e i) ∙ p))
    go false i p = refl

-- the two signs of two instants
pub ne_eq : (x y : Found) → compared NE x y ≡ not3 (compared EQ x y)
unfolding holds some
ne_eq absent y = refl
ne_eq (has x) absent = refl
ne_eq (has row.null) (has y) = refl
ne_eq (has (val x)) (has row.null) = refl
ne_eq (has (val x)) (has (val y)) = go (order x y)
  where
    go : (o : Ordering) → truth_of (holds NE o) ≡ not3 (truth_of (holds EQ o))
    go Less = refl
    go Equal = refl
    go Greater = refl

sides : (a b a' b' : Truth) → a ≡ a' → b ≡ b' → or3 a b ≡ or3 a' b'
sides a b a' b' e f = cc

both_sides : (a b a' b' : Truth) → a ≡ a' → b ≡ b' → or3 a b ≡ not3 (not3 (or3 a' b'))
both_sides a b a' b' e f = sides a b a' b' e f ∙ sym (not3_twice (or3 a' b'))

-- A truth and its negation are opposite, and so are the answers that reading makes of them.
abbrev Truths : Truth → Truth → Type 0
Truths x y = Opposite True False Unknown x y

abbrev Readings : Truth → Truth → Type 0
Readings x y = Opposite says_true says_false says_unknown (answered x) (answered y)

opposite : (y : Truth) → Truths (not3 y) y
opposite True = record { when_true = (λ e. cc, λ e. cc); when_false = (λ e. cc, λ e. cc); when_unknown = (λ e. cc, λ e. cc) }
opposite False = record { when_true = (λ e. cc, λ e. cc); when_false = (λ e. cc, λ e. cc); when_unknown = (λ e. cc, λ e. cc) }
opposite Unknown = record { when_true = (λ e. cc, λ e. cc); when_false = (λ e. cc, λ e. cc); when_unknown = (λ e. cc, λ e. cc) }
opposite Missing = record { when_true = (λ e. cc, λ e. cc); when_false = (λ e. cc, λ e. cc); when_unknown = (λ e. cc, λ e. cc) }

opposite_read : (y : Truth) → Readings (not3 y) y
opposite_read True = record { when_true = (λ e. cc, λ e. cc); when_false = (λ e. cc, λ e. cc); when_unknown = (λ e. cc, λ e. cc) }
opposite_read False = record { when_true = (λ e. cc, λ e. cc); when_false = (λ e. cc, λ e. cc); when_unknown = (λ e. cc, λ e. cc) }
opposite_read Unknown = record { when_true = (λ e. cc, λ e. cc); when_false = (λ e. cc, λ e. cc); when_unknown = (λ e. cc, λ e. cc) }
opposite_read Missing = record { when_true = (λ e. cc, λ e. cc); when_false = (λ e. cc, λ e. cc); when_unknown = (λ e. cc, λ e. cc) }

module _ (writing : Writing) (cs : List Column) (t u : Tree) (p : columns_non_null cs t ≡ true) (q : columns_non_null cs u ≡ true) where
  abbrev ends : ℕ → Found
  ends = end_values writing cs t u

  abbrev cols : ℕ → Bool
  cols = columns_of t u

  pass0 : (b : Truth) → guard (is_id (start_of t)) (end_on writing cs (start_slot (is_interval t)) (start_of t)) b ≡ b
  pass0 = open_guard writing cs (start_slot (is_interval t)) (start_of t) (start_non_null cs t p)

  pass1 : (b : Truth) → guard (is_id (stop_of t)) (end_on writing cs (stop_slot (is_interval t)) (stop_of t)) b ≡ b
  pass1 = open_guard writing cs (stop_slot (is_interval t)) (stop_of t) (stop_non_null cs t p)

  pass2 : (b : Truth) → guard (is_id (start_of u)) (end_on writing cs (start_slot (is_interval u)) (start_of u)) b ≡ b
  pass2 = open_guard writing cs (start_slot (is_interval u)) (start_of u) (start_non_null cs u q)

  pass3 : (b : Truth) → guard (is_id (stop_of u)) (end_on writing cs (stop_slot (is_interval u)) (stop_of u)) b ≡ b
  pass3 = open_guard writing cs (stop_slot (is_interval u)) (stop_of u) (stop_non_null cs u q)

  complement : (a b : Bool) → cond_truth ends (t_disjoint a b cols) ≡ not3 (cond_truth ends (t_intersects a b cols))
  unfolding cond_truth t_disjoint t_intersects ends_of
  complement false false = ne_eq (end_on writing cs (start_slot (is_interval t)) (start_of t)) (end_on writing cs (start_slot (is_interval u)) (start_of u))
  complement false true =
      both_sides _ _ _ _ (check_id_lem ends cols 3 (test 0 lt 2) ∙ pass3 _) (check_id_lem ends cols 2 (test 0 gt 3) ∙ pass2 _)
  complement true false =
      both_sides _ _ _ _ (check_id_lem ends cols 0 (test 1 lt 2) ∙ pass0 _) (check_id_lem ends cols 1 (test 0 gt 2) ∙ pass1 _)
  complement true true =
      both_sides _ _ _ _ (check_ids_lem ends cols 0 3 (test 1 lt 2) ∙ pass0 _ ∙ pass3 _) (check_ids_lem ends cols 1 2 (test 0 gt 3) ∙ pass1 _ ∙ pass2 _)

  -- TDisjoint is true exactly where TIntersects is false, false exactly where it is true, and unknown exactly where it is unknown
  pub disjoint_intersects : temporal_truth writing cs TDisjoint t u ≡ not3 (temporal_truth writing cs TIntersects t u)
  unfolding temporal_truth translate
  disjoint_intersects = complement (is_interval t) (is_interval u)

  -- the sentence of demand 3, over the tree and as reading answers
  pub complement_truths : Opposite True False Unknown (temporal_truth writing cs TDisjoint t u) (temporal_truth writing cs TIntersects t u)
  complement_truths = rw disjoint_intersects (opposite (temporal_truth writing cs TIntersects t u))

  pub complement-readings :
      Opposite says_true says_false says_unknown (answered (temporal_truth writing cs TDisjoint t u)) (answered (temporal_truth writing cs TIntersects t u))
  complement-readings = rw disjoint_intersects (opposite_read (temporal_truth writing cs TIntersects t u))
