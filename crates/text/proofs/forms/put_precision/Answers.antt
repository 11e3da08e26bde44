-- One write after the other.
use mathlib.Core.Path.{ap}
use Rattle.literal.specs.Literal.{decimal}
use Rattle.emit.specs.EmitLaws.{lays, lays_of, lays_then}
use Rattle.text.proofs.forms.put_precision.Goals as goal

pub returns : goal.returns
returns c = lays_then (lays c.put-here.ensures) (lays_of (ap decimal c.byte_at.ensures.0) (lays c.put_decimal.ensures))
