-- The two texts that are put one after the other are the collation.
use Rattle.std.proofs.Common.{◌++◌, ap, append-nil}
use Rattle.prelude.specs.Bytes.{bytes}
use Rattle.emit.specs.EmitLaws.{puts_of}
use Rattle.literal.specs.Literal.{collate}
use Rattle.literal.proofs.put_collate.Goals as goal

pub returns : goal.returns
unfolding collate
returns c = puts_of (ap (λ x. bytes " COLLATE " ++ x) (append-nil c.args.name.now)) c.put_all.ensures
