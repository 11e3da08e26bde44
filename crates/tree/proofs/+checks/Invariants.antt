-- The proof of the cycle of calls. The measure is the levels left, and a place in the round. Each return cites the law of its case.
use mathlib.Core.Path.{◌≡◌}
use Prim.Native.Nat.{◌+◌, ◌-◌, ◌*◌, ◌≤◌}
use lib.ListN.{length, drop}
use Rattle.tree.proofs.WalkLaws.{grown}
use Rattle.tree.specs.Parse.{many, items, node}
use Rattle.tree.specs.WalkWords.{seen_all}
use Prim.Native.Nat.{ℕ}
use Rattle.tree.proofs.+checks.Given as goal

abbrev pub decreases-check_dyadic : goal.decreases-check_dyadic
decreases-check_dyadic l = 5 * l.levels + 4

abbrev pub decreases-check_first : goal.decreases-check_first
decreases-check_first l = 5 * l.levels + 1

abbrev pub decreases-check_function : goal.decreases-check_function
decreases-check_function l = 5 * l.levels + 4

abbrev pub decreases-check_many : goal.decreases-check_many
decreases-check_many l = 5 * l.levels + 2

abbrev pub decreases-check_monadic : goal.decreases-check_monadic
decreases-check_monadic l = 5 * l.levels + 4

abbrev pub decreases-check_node : goal.decreases-check_node
decreases-check_node l = 5 * l.levels

abbrev pub decreases-check_one : goal.decreases-check_one
decreases-check_one l = 5 * l.levels + 2

abbrev pub decreases-check_two : goal.decreases-check_two
decreases-check_two l = 5 * l.levels + 3

abbrev pub invariant-check_many-loop-at : goal.invariant-check_many-loop-at
invariant-check_many-loop-at l = (l.at ≤ length l.s) × (l.count ≤ l.at) × ((f : ℕ) × (length l.s - l.at ≤ f) × (seen_all (items (node l.levels) l.s) ≡ grown l.plain l.count (seen_all (many (node l.levels) f (drop l.at l.s)))))

abbrev pub decreases-check_many-loop-at : goal.decreases-check_many-loop-at
decreases-check_many-loop-at l = length l.s - l.at
