-- `order::compare_values` meets its contract: the loop keeps that the values from i on compare as the whole values do.
use Rattle.order.specs.ValueWords.{Alike}
use Rattle.order.proofs.compare_values.Given as goal

abbrev pub invariant-loop-i : goal.invariant-loop-i
invariant-loop-i l = Alike l.a_written l.b_written l.a l.b l.i l.i
