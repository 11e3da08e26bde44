-- The ten bytes in quotes.
use Rattle.std.proofs.Common.{ap}
use Rattle.literal.specs.Literal.{quoted}
use Rattle.emit.specs.EmitLaws.{puts_of}
use Rattle.instant.proofs.put_date.Goals as goal

pub returns : goal.returns
returns c = puts_of (ap quoted c.text.ensures) c.put_quoted.ensures
