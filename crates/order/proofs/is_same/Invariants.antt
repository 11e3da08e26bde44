-- `order::is_same` meets its contract: the rests after the bytes seen compare as the whole strings do.
use Rattle.std.proofs.Common.{◌≡◌, length, drop}
use Rattle.order.specs.Order.{order}
use Rattle.order.proofs.is_same.Given as goal

abbrev pub invariant-loop-x : goal.invariant-loop-x
invariant-loop-x l = order (drop (length l.yielded) l.a) (drop (length l.yielded) l.b) ≡ order l.a l.b
