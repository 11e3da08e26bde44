-- One write of one of two texts.
use Rattle.emit.specs.EmitLaws.{lays}
use Rattle.text.proofs.forms.put_comma.Goals as goal

pub returns : goal.returns
returns c = lays c.put_either.ensures
