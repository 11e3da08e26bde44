-- A text without an apostrophe is put as it is; any other between quotation marks, if there is room for all.
use Rattle.std.proofs.Common.{arith, ap, sym, ◌∙◌}
use Rattle.prelude.specs.Bytes.{bytes}
use Rattle.string.specs.Quote.{doubled}
use Rattle.emit.specs.EmitLaws.{puts_of, wrote, wrote_then, wrote_puts}
use Rattle.emit.specs.RoomLaws.{no_room_far, room_far, front}
use Rattle.literal.specs.Literal.{quoted}
use Rattle.literal.specs.LiteralLaws.{length-quoted}
use Rattle.literal.proofs.DoubledLaws.{none_doubled, length-written, too_long, laid_then}
use Rattle.literal.proofs.put_str.Goals as goal

pub returns-then-not-contains : goal.returns-then-not-contains
returns-then-not-contains c = puts_of (ap quoted (sym (none_doubled c.args.s.now (sym c.contains.ensures.value ∙ c.if-not-contains.true)))) c.put_quoted.ensures

pub returns-then-s-gt-COUNT_LIMIT : goal.returns-then-s-gt-COUNT_LIMIT
returns-then-s-gt-COUNT_LIMIT c = too_long _ _ _ c.if-s-gt-COUNT_LIMIT.true c.ended.ensures

pub returns-then-lacks_room : goal.returns-then-lacks_room
returns-then-lacks_room c =
    let i = c.args in
    let e = length-written i.s.now c.apostrophes.result c.apostrophes.ensures c.saturating_add.ensures c.saturating_add-n.ensures in
    no_room_far i.out.now i.at (quoted (doubled i.s.now)) e c.lacks_room.ensures c.if-lacks_room.true c.ended-then-lacks_room.ensures

pub returns : goal.returns
unfolding quoted
returns c =
    let i = c.args in
    let s = i.s.now in
    let n = length-quoted (doubled s) in
    let e = length-written s c.apostrophes.result c.apostrophes.ensures c.saturating_add.ensures c.saturating_add-n.ensures in
    let g = room_far i.out.now i.at (quoted (doubled s)) e c.lacks_room.ensures c.if-lacks_room.false in
    let one = wrote (front _ g (omega (arith, n))) c.put-text.ensures in
    let two = laid_then {k = c.copy_doubled-close.result} (doubled s) one c.copy_doubled-close.ensures.text c.copy_doubled-close.ensures.end in
    let three = wrote_then (bytes "'") (front _ g (omega (arith, n))) two c.put.ensures in
    wrote_puts g three
