-- One text and no more is that text.
use Rattle.std.proofs.Common.{append-nil}
use Rattle.emit.specs.EmitLaws.{puts_of}
use Rattle.emit.proofs.put.Goals as goal

pub returns : goal.returns
returns c = puts_of (append-nil c.args.s.now) c.put_all.ensures
