-- `number::put_decimal` meets its contract: the part that is lent is as long as the digits of n, and comes back filled with them.
use native.Mathlib.Omega.{arith}
use mathlib.Core.Path.{◌≡◌, ap, sym, ◌∙◌}
use mathlib.Core.List.{List}
use Prim.Native.Nat.{ℕ, ◌+◌, ◌-◌, ◌≤◌}
use lib.ListN.{length, take, drop}
use lib.Seq.{sets}
use Rattle.literal.specs.Literal.{low, decimal}
use Rattle.literal.specs.LiteralLaws.{decimal-low}
use Rattle.emit.specs.Emit.{count_limit, ended}
use Rattle.emit.specs.EmitLaws.{placed-fits}
use Rattle.emit.specs.RoomLaws.{no_room, room}
use Rattle.number.proofs.Laws.{mid_sets, mid_length}
use Rattle.number.proofs.put_decimal.Goals as goal

pub returns-then-lacks_room : goal.returns-then-lacks_room
returns-then-lacks_room c =
    let i = c.args in
    no_room i.out.now i.at (decimal i.n) c.decimal_len-w.ensures.0 c.lacks_room.ensures c.if-lacks_room.true c.ended.ensures

pub overflow_add-end : goal.overflow_add-end
overflow_add-end c =
    let i = c.args in
    let g = room i.out.now i.at (decimal i.n) c.decimal_len-w.ensures.0 c.lacks_room.ensures c.if-lacks_room.false in
    omega (arith, c.decimal_len-w.ensures.0)

pub slice_bounds-fill_low-end : goal.slice_bounds-fill_low-end
slice_bounds-fill_low-end c =
    let i = c.args in
    let g = room i.out.now i.at (decimal i.n) c.decimal_len-w.ensures.0 c.lacks_room.ensures c.if-lacks_room.false in
    omega (arith, c.decimal_len-w.ensures.0)

pub returns : goal.returns
returns c =
    let i = c.args in
    let out = i.out.now in
    let w = c.decimal_len-w in
    let e = i.at + w.result in
    let g = room i.out.now i.at (decimal i.n) c.decimal_len-w.ensures.0 c.lacks_room.ensures c.if-lacks_room.false in
    let h : e ≤ length out = omega (arith, w.ensures.0) in
    let l = mid_length out i.at e (omega arith) h in
    let t = c.fill_low.ensures.text in
    let n : length (take (e - i.at) (drop i.at out)) ≡ length (decimal i.n) = omega (arith, w.ensures.0) in
    let y = t ∙ ap (λ (x : ℕ). low x i.n) n ∙ sym (decimal-low i.n) in record {
      laid = mid_sets out c.fill_low.new.part i.at e h (omega (arith, ap length y, w.ensures.0))
          ∙ ap (λ (x : List ℕ). sets out i.at x) y
          ∙ sym (placed-fits out i.at (decimal i.n) g);
      end = ap (λ (x : ℕ). i.at + x) w.ensures.0 ∙ (let z : i.at + length (decimal i.n) ≡ ended count_limit i.at (length (decimal i.n)) = omega arith in z);
    }
