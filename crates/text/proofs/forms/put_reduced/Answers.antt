-- What the calls ensure, by the case that was taken.
use Rattle.emit.specs.EmitLaws.{lays, lays_none, lays_then}
use Rattle.text.proofs.forms.put_reduced.Goals as goal

pub returns-then-reduced : goal.returns-then-reduced
returns-then-reduced c = rw c.if-reduced.true (lays_then (lays c.put-comma.ensures) (lays_then c.put_precision-close.ensures (lays c.put.ensures)))

pub returns : goal.returns
returns c = rw c.if-reduced.false (lays_none c.ended.ensures)
