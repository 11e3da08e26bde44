-- Each turn drops one closing zero, which keeps the text.
use Rattle.std.proofs.Common.{arith, sym, ◌∙◌}
use Rattle.literal.specs.LiteralLaws.{plain-shown, plain-drop, shown-plain}
use Rattle.number.proofs.shorten.Goals as goal

pub loop-s-preserved : goal.loop-s-preserved
loop-s-preserved c = let l = c.loop-s in (plain-drop l.m l.s (omega arith) c.if-m-eq0.true ∙ l.invariant.0, omega arith)

pub returns-else-m-eq0 : goal.returns-else-m-eq0
returns-else-m-eq0 c = let l = c.loop-s in (sym (plain-shown l.m l.s c.if-m-eq0.false) ∙ l.invariant.0, l.invariant.1)

pub returns-after-loop-s : goal.returns-after-loop-s
returns-after-loop-s c = let l = c.loop-s in (shown-plain l.m l.s (omega arith) ∙ l.invariant.0, l.invariant.1)
