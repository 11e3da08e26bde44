-- The cycle of the walk. The measure is four times the length of the record, and a rank: an operand, the nodes, any record, records
-- one after the other. Each return is one step of StepLaws or ItemLaws.
use mathlib.Core.Path.{◌≡◌}
use lib.ListN.{length}
use Prim.Native.Nat.{◌+◌, ◌*◌, ◌-◌}
use Rattle.reduce.proofs.ItemLaws as item
use Rattle.reduce.proofs.walk.+folds.Given as goal

abbrev pub decreases-fold : goal.decreases-fold
decreases-fold l = 4 * length l.s.now + 3

abbrev pub decreases-fold_dyadic : goal.decreases-fold_dyadic
decreases-fold_dyadic l = 4 * length l.s.now + 2

abbrev pub decreases-fold_items : goal.decreases-fold_items
decreases-fold_items l = 4 * length l.s.now + 2

abbrev pub decreases-fold_list : goal.decreases-fold_list
decreases-fold_list l = 4 * length l.s.now + 4

abbrev pub decreases-fold_monadic : goal.decreases-fold_monadic
decreases-fold_monadic l = 4 * length l.s.now + 2

abbrev pub decreases-fold_operand : goal.decreases-fold_operand
decreases-fold_operand l = 4 * length l.s.now + 1

abbrev pub invariant-fold_list-loop-p : goal.invariant-fold_list-loop-p
invariant-fold_list-loop-p l = (length l.room ≡ length l.initial.room) × item.Loop l.s l.at l.p l.here l.initial.room l.room

abbrev pub decreases-fold_list-loop-p : goal.decreases-fold_list-loop-p
decreases-fold_list-loop-p l = length l.s - l.p
