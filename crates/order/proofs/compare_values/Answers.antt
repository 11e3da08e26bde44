-- `order::compare_values` meets its contract: the loop keeps that the values from i on compare as the whole values do.
use Rattle.std.proofs.Common.{arith, refl, ◌∙◌}
use Rattle.order.specs.ValueLaws.{alike_start, alike-plain, value-apart, value-lengths}
use Rattle.order.proofs.compare_values.Goals as goal

pub loop-i-init : goal.loop-i-init
loop-i-init c = alike_start _ _ _ _

pub loop-i-preserved : goal.loop-i-preserved
loop-i-preserved c = alike-plain c.loop-i.invariant (omega arith) (omega arith) c.if-a-i.false c.if-a-i-eq39.false

pub returns-then-a-i : goal.returns-then-a-i
returns-then-a-i c = c.cmp.ensures ∙ value-apart c.loop-i.invariant (omega arith) (omega arith) c.if-a-i.true

pub returns : goal.returns
returns c = c.cmp-2.ensures ∙ value-lengths c.loop-i.invariant refl (omega arith)
