-- A Str of the same text has a record of the same head.
use Rattle.std.proofs.Common.{append-nil}
use Rattle.emit.specs.EmitLaws.{puts_of}
use Rattle.reduce.proofs.WriteLaws.{str_written}
use Rattle.reduce.proofs.records.put_str.Goals as goal

pub returns : goal.returns
returns c =
    λ f x e. str_written f _ x _ _ e
    c.requires.1
    c.requires.2
    (puts_of (simp append-nil) c.put_all-end.ensures)
