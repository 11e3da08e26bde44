-- Below zero the sign is a minus, else nothing.
use Rattle.std.proofs.Common.{ap, sym, arith}
use Rattle.literal.specs.Literal.{sign}
use Rattle.number.proofs.Signed.{below, above}
use Rattle.number.proofs.sign_of.Goals as goal

pub returns-then-m-lt0 : goal.returns-then-m-lt0
unfolding sign
returns-then-m-lt0 c = (sym (ap sign (below c.args.m c.ranges.m c.if-m-lt0.true).is), omega arith)

pub returns-else-m-lt0 : goal.returns-else-m-lt0
unfolding sign
returns-else-m-lt0 c = (sym (ap sign (above c.args.m c.ranges.m c.if-m-lt0.false).is), omega arith)
