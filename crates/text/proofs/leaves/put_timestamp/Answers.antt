-- The fields that were read are those of the record.
use mathlib.Core.Path.{◌≡◌}
use lib.ListN.{get_or}
use Rattle.record.specs.Record.{le16}
use Rattle.literal.specs.Literal.{timestamp_text}
use Rattle.emit.specs.EmitLaws.{lays, lays_of}
use Rattle.text.proofs.leaves.put_timestamp.Goals as goal

pub returns : goal.returns
returns c =
    let s = c.args.s.now in
    let w = c.args.writing in
    let d = c.date_at.result in
    let e : timestamp_text w d.year d.month d.day c.byte_at.result c.byte_at-2.result c.byte_at-3.result
    ≡ timestamp_text w (le16 s 6) (get_or s 8 0) (get_or s 9 0) (get_or s 10 0) (get_or s 11 0) (get_or s 12 0) = cc in
    lays_of e (lays c.put_timestamp.ensures)
