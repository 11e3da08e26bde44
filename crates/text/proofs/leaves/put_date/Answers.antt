-- The fields that were read are those of the record.
use mathlib.Core.Path.{◌≡◌}
use lib.ListN.{get_or}
use Rattle.record.specs.Record.{le16}
use Rattle.literal.specs.Literal.{date_text}
use Rattle.emit.specs.EmitLaws.{lays, lays_of}
use Rattle.text.proofs.leaves.put_date.Goals as goal

pub returns : goal.returns
returns c =
    let s = c.args.s.now in
    let d = c.date_at.result in
    let e : date_text d.year d.month d.day ≡ date_text (le16 s 6) (get_or s 8 0) (get_or s 9 0) = cc in
    lays_of e (lays c.put_date.ensures)
