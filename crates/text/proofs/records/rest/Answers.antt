-- A part that is cut off at the end of the bytes.
use Prim.Native.Nat.{◌-◌}
use Rattle.text.proofs.ClipLaws.{clip_from}
use Rattle.text.proofs.records.rest.Goals as goal

pub returns : goal.returns
returns c = clip_from c.args.s.now c.args.n c.min.result c.min.ensures
