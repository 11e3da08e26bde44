-- The cycle: OR-expressions, ANDs, NOTs, tests and brackets. Each answer is one law of proofs/Steps.antt; the brackets that may still open fall.
use lib.ListN.{length}
use Prim.Native.Nat.{◌+◌, ◌-◌, ◌*◌}
use Rattle.truth.specs.PlaceWords.{cols_of}
use Rattle.truth.proofs.Steps.{Going, Turning, or_level, and_level, Halting}
use Rattle.truth.proofs.+condition.Given as goal

abbrev pub decreases-read_and : goal.decreases-read_and
decreases-read_and l = 4 * l.depth + 2

abbrev pub decreases-read_not : goal.decreases-read_not
decreases-read_not l = 4 * l.depth + 1

abbrev pub decreases-read_or : goal.decreases-read_or
decreases-read_or l = 4 * l.depth + 3

abbrev pub decreases-read_test : goal.decreases-read_test
decreases-read_test l = 4 * l.depth

abbrev pub invariant-read_and-loop-left : goal.invariant-read_and-loop-left
invariant-read_and-loop-left l = Going (cols_of l.row) l.text (and_level (cols_of l.row) l.depth) l.at l.left.truth l.left.next

abbrev pub decreases-read_and-loop-left : goal.decreases-read_and-loop-left
decreases-read_and-loop-left l = length l.text - l.left.next

abbrev pub invariant-read_not-loop-t : goal.invariant-read_not-loop-t
invariant-read_not-loop-t l = Turning (cols_of l.row) l.text l.depth l.at l.flip l.here

abbrev pub decreases-read_not-loop-t : goal.decreases-read_not-loop-t
decreases-read_not-loop-t l = length l.text - l.here

abbrev pub invariant-read_or-loop-left : goal.invariant-read_or-loop-left
invariant-read_or-loop-left l = Halting (cols_of l.row) l.text (or_level (cols_of l.row) l.depth) l.at l.left.truth l.left.kind l.left.end

abbrev pub decreases-read_or-loop-left : goal.decreases-read_or-loop-left
decreases-read_or-loop-left l = length l.text - l.left.end
