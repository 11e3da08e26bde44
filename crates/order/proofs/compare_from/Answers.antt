-- `order::compare_from` meets its contract: the loop keeps that the values from i and j on compare as the whole values do.
use Rattle.std.proofs.Common.{inl, inr, arith, ◌∙◌}
use Rattle.order.specs.ValueLaws.{next_onward, alike_next, value-apart, value-rest}
use Rattle.order.proofs.compare_from.Goals as goal
use Rattle.order.proofs.compare_from.Goals.{then-loop-i-test+else-j-b, else-loop-i-test}

pub loop-i-init : goal.loop-i-init
loop-i-init c = c.requires

pub returns-then-a-i : goal.returns-then-a-i
returns-then-a-i c = c.cmp.ensures ∙ value-apart c.loop-i.invariant (omega arith) (omega arith) c.if-a-i.true

pub loop-i-smaller : goal.loop-i-smaller
loop-i-smaller c = let n = next_onward c.args.a_written c.args.a.now c.loop-i.i in omega (arith, c.after-i.ensures)

pub loop-i-preserved : goal.loop-i-preserved
loop-i-preserved c = alike_next c.loop-i.invariant (omega arith) (omega arith) c.if-a-i.false c.after-i.ensures c.after-j.ensures

pub returns : goal.returns
returns c =
    c.cmp-2.ensures ∙ value-rest c.loop-i.invariant (elim c.loop-i-test.branch [ then-loop-i-test+else-j-b w ↦ inr w.if-j-b.false | else-loop-i-test w ↦ inl w.loop-i-test.false ])
