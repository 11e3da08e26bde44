-- `string::past_sequences` meets its contract: the loop keeps that the string is read up to i; each `return` is a law of where it stops.
use Prim.Native.Nat.{◌-◌}
use lib.ListN.{length}
use Rattle.string.specs.SequenceWords.{Reaches}
use Rattle.string.proofs.past_sequences.Given as goal

abbrev pub invariant-loop-i : goal.invariant-loop-i
invariant-loop-i l = Reaches l.quoted l.s l.i

abbrev pub decreases-loop-i : goal.decreases-loop-i
decreases-loop-i l = length l.s - l.i
