-- `number::put_num` meets its contract: the sign, then the part after it that is filled with the shortened number.
use native.Mathlib.Omega.{arith}
use mathlib.Core.Path.{◌≡◌, ap, sym, ◌∙◌}
use mathlib.Core.List.{List, ◌++◌}
use Prim.Native.Nat.{ℕ, ◌+◌}
use lib.ListN.{length}
use Rattle.emit.specs.EmitLaws.{wrote, wrote_same, wrote_puts, puts_of}
use lib.Seq.{length-sets}
use Rattle.literal.specs.Literal.{sign, num_text}
use lib.IntN.{ℤ, pos, negsuc, nat_abs}
use Rattle.std.proofs.Common.{unsigned_abs, refl}
use mir.Syntax.{w64}
use mir.ValLaws.{to_z-of_z}
use Rattle.emit.specs.RoomLaws.{no_room, room, front}
use Rattle.number.proofs.Signed.{back}
use Rattle.number.proofs.Laws.{num_length, num_is, wrote_part}
use Rattle.number.proofs.put_num.Goals as goal

absolute : (z : ℤ) → unsigned_abs z ≡ nat_abs z
absolute (pos n) = refl
absolute (negsuc n) = refl

pub returns-then-lacks_room : goal.returns-then-lacks_room
returns-then-lacks_room c =
    let i = c.args in
    let b = to_z-of_z w64 i.m c.ranges.m in
    let g : c.sign_of-sign.result.now ≡ sign i.m = c.sign_of-sign.ensures.0 ∙ ap sign b in
    let z = num_length i.m i.scale (c.unsigned_abs.ensures.value ∙ absolute (back i.m) ∙ ap nat_abs b) c.shorten-p.ensures.0 in
    let n : length c.sign_of-sign.result.now + c.len-k.result ≡ length (num_text i.m i.scale) = omega (arith, ap length g, c.len-k.ensures.0) in
    no_room i.out.now i.at (num_text i.m i.scale) n c.lacks_room.ensures c.if-lacks_room.true c.ended.ensures

pub overflow_add-end : goal.overflow_add-end
overflow_add-end c =
    let i = c.args in
    let b = to_z-of_z w64 i.m c.ranges.m in
    let g : c.sign_of-sign.result.now ≡ sign i.m = c.sign_of-sign.ensures.0 ∙ ap sign b in
    let z = num_length i.m i.scale (c.unsigned_abs.ensures.value ∙ absolute (back i.m) ∙ ap nat_abs b) c.shorten-p.ensures.0 in
    let n : length c.sign_of-sign.result.now + c.len-k.result ≡ length (num_text i.m i.scale) = omega (arith, ap length g, c.len-k.ensures.0) in
    let h = room i.out.now i.at (num_text i.m i.scale) n c.lacks_room.ensures c.if-lacks_room.false in
    let p = c.put-from in
    let one = wrote {t = sign i.m} (front _ h (omega arith)) (puts_of g p.ensures) in
    let y : p.result ≡ i.at + length (sign i.m) = one.end in
    let x : length p.new.out ≡ length i.out.now = ap length one.laid ∙ length-sets i.out.now i.at (sign i.m) in
    omega (arith, c.len-k.ensures.0)

pub slice_bounds-fill-end : goal.slice_bounds-fill-end
slice_bounds-fill-end c =
    let i = c.args in
    let b = to_z-of_z w64 i.m c.ranges.m in
    let g : c.sign_of-sign.result.now ≡ sign i.m = c.sign_of-sign.ensures.0 ∙ ap sign b in
    let z = num_length i.m i.scale (c.unsigned_abs.ensures.value ∙ absolute (back i.m) ∙ ap nat_abs b) c.shorten-p.ensures.0 in
    let n : length c.sign_of-sign.result.now + c.len-k.result ≡ length (num_text i.m i.scale) = omega (arith, ap length g, c.len-k.ensures.0) in
    let h = room i.out.now i.at (num_text i.m i.scale) n c.lacks_room.ensures c.if-lacks_room.false in
    let p = c.put-from in
    let one = wrote {t = sign i.m} (front _ h (omega arith)) (puts_of g p.ensures) in
    let y : p.result ≡ i.at + length (sign i.m) = one.end in
    let x : length p.new.out ≡ length i.out.now = ap length one.laid ∙ length-sets i.out.now i.at (sign i.m) in
    omega (arith, c.len-k.ensures.0)

pub returns : goal.returns
returns c =
    let i = c.args in
    let b = to_z-of_z w64 i.m c.ranges.m in
    let g : c.sign_of-sign.result.now ≡ sign i.m = c.sign_of-sign.ensures.0 ∙ ap sign b in
    let z = num_length i.m i.scale (c.unsigned_abs.ensures.value ∙ absolute (back i.m) ∙ ap nat_abs b) c.shorten-p.ensures.0 in
    let n : length c.sign_of-sign.result.now + c.len-k.result ≡ length (num_text i.m i.scale) = omega (arith, ap length g, c.len-k.ensures.0) in
    let h = room i.out.now i.at (num_text i.m i.scale) n c.lacks_room.ensures c.if-lacks_room.false in
    let p = c.put-from in
    let one = wrote {t = sign i.m} (front _ h (omega arith)) (puts_of g p.ensures) in
    let y : p.result ≡ i.at + length (sign i.m) = one.end in
    let x : length p.new.out ≡ length i.out.now = ap length one.laid ∙ length-sets i.out.now i.at (sign i.m) in
    let u = c.fill.new.part in
    let k = c.len-k in
    let v = c.fill.ensures in
    let j : length u ≡ k.result = ap length v ∙ sym k.ensures.0 in
    let two = wrote_part u (p.result + k.result) (front _ h (omega (arith, k.ensures.0))) one (ap (λ (w : ℕ). p.result + w) (sym j)) in
    wrote_puts h (wrote_same (ap (λ (w : List ℕ). sign i.m ++ w) v ∙ num_is i.m i.scale (c.unsigned_abs.ensures.value ∙ absolute (back i.m) ∙ ap nat_abs b) c.shorten-p.ensures.0) two)
