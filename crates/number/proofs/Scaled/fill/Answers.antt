-- `number::Scaled::fill` meets its contract: the fraction, the point and the whole part fill the three parts of the text.
-- how long the part is
use native.Mathlib.Omega.{arith}
use mathlib.Core.Path.{◌≡◌, refl, ap, sym, ◌∙◌}
use mathlib.Core.List.{List, ◌++◌}
use Prim.Native.Nat.{ℕ, ◌+◌, ◌-◌, ◌/◌, ◌^◌}
use lib.ListN.{length, take, drop, set, length-set, length-append}
use Rattle.prelude.specs.Bytes.{bytes}
use Rattle.literal.specs.Literal.{low, decimal, pointed}
use Rattle.literal.specs.LiteralLaws.{shown, shown-whole, shown-pointed, length-pointed, length-low, decimal-low, decimal-some}
use borrow.Rule.Slice.PartMut.{put_mid}
use Rattle.number.proofs.Laws.{positive, put_length, fraction, whole_part, filled}
use Rattle.number.proofs.Scaled.fill.Goals as goal

long : (n s : ℕ) (p : List ℕ) → (s ≡ 0 → ⊥) → length p ≡ length (shown n s) → length p ≡ length (decimal (n / 10 ^ s)) + (1 + s)
long n s p h e = e ∙ ap length (shown-pointed n s (positive s h)) ∙ length-pointed n s

pub returns-then-self-eq0 : goal.returns-then-self-eq0
returns-then-self-eq0 c =
    let a = c.args in
    let e : shown a.self.n a.self.s ≡ decimal a.self.n = ap (λ (x : ℕ). shown a.self.n x) c.if-self-eq0.true ∙ shown-whole a.self.n in
    c.fill_low.ensures.text ∙ ap (λ (x : ℕ). low x a.self.n) (c.requires ∙ ap length e) ∙ sym (decimal-low a.self.n) ∙ sym e

pub overflow_sub-from : goal.overflow_sub-from
overflow_sub-from c =
    let a = c.args in
    let l = long a.self.n a.self.s a.part.now c.if-self-eq0.false c.requires in
    omega arith

pub overflow_sub-point : goal.overflow_sub-point
overflow_sub-point c =
    let a = c.args in
    let l = long a.self.n a.self.s a.part.now c.if-self-eq0.false c.requires in
    omega (arith, decimal-some (a.self.n / 10 ^ a.self.s))

pub bounds-part-point : goal.bounds-part-point
bounds-part-point c =
    let a = c.args in
    let p = a.part.now in
    let l = long a.self.n a.self.s p c.if-self-eq0.false c.requires in
    let k = decimal-some (a.self.n / 10 ^ a.self.s) in
    let from = length p - a.self.s in
    let y = c.fill_low-whole.new.part in
    let e = fraction p y a.self.n a.self.s from (omega arith) refl c.fill_low-whole.ensures.text in
    let h : from + length y ≡ length p = omega (arith, ap length e, length-low a.self.s a.self.n) in
    let f = put_length p y from h in
    omega arith

pub slice_bounds-fill_low-end-2 : goal.slice_bounds-fill_low-end-2
slice_bounds-fill_low-end-2 c =
    let a = c.args in
    let p = a.part.now in
    let l = long a.self.n a.self.s p c.if-self-eq0.false c.requires in
    let k = decimal-some (a.self.n / 10 ^ a.self.s) in
    let from = length p - a.self.s in
    let y = c.fill_low-whole.new.part in
    let e = fraction p y a.self.n a.self.s from (omega arith) refl c.fill_low-whole.ensures.text in
    let h : from + length y ≡ length p = omega (arith, ap length e, length-low a.self.s a.self.n) in
    let f = put_length p y from h in
    let point = from - 1 in
    let l2 = set (put_mid from (length p - from) p y) point 46 in
    let g = length-set (put_mid from (length p - from) p y) point 46 in
    omega arith

pub shape_of-part : goal.shape_of-part
shape_of-part c =
    let a = c.args in
    let p = a.part.now in
    let l = long a.self.n a.self.s p c.if-self-eq0.false c.requires in
    let k = decimal-some (a.self.n / 10 ^ a.self.s) in
    let from = length p - a.self.s in
    let y = c.fill_low-whole.new.part in
    let e = fraction p y a.self.n a.self.s from (omega arith) refl c.fill_low-whole.ensures.text in
    let h : from + length y ≡ length p = omega (arith, ap length e, length-low a.self.s a.self.n) in
    let f = put_length p y from h in
    let point = from - 1 in
    let l2 = set (put_mid from (length p - from) p y) point 46 in
    let g = length-set (put_mid from (length p - from) p y) point 46 in
    let x = c.fill_low-2.new.part in
    let q = c.fill_low-whole.result in
    let r : q ≡ a.self.n / 10 ^ a.self.s = c.fill_low-whole.ensures.rest ∙ ap (λ (w : ℕ). a.self.n / 10 ^ w) (sym (length-low (length (take (length p - from) (drop from p))) a.self.n) ∙ ap length (sym c.fill_low-whole.ensures.text ∙ e) ∙ length-low a.self.s a.self.n) in
    let v = whole_part l2 x q point (omega arith) (omega (arith, ap (λ (w : ℕ). length (decimal w)) r)) c.fill_low-2.ensures.text in
    ap length (filled p x y from point h (omega arith)) ∙ length-append x (bytes "." ++ y) ∙ omega (arith, ap length v, ap (λ (w : ℕ). length (decimal w)) r)

pub returns : goal.returns
unfolding pointed
returns c =
    let a = c.args in
    let p = a.part.now in
    let l = long a.self.n a.self.s p c.if-self-eq0.false c.requires in
    let k = decimal-some (a.self.n / 10 ^ a.self.s) in
    let from = length p - a.self.s in
    let y = c.fill_low-whole.new.part in
    let e = fraction p y a.self.n a.self.s from (omega arith) refl c.fill_low-whole.ensures.text in
    let h : from + length y ≡ length p = omega (arith, ap length e, length-low a.self.s a.self.n) in
    let f = put_length p y from h in
    let point = from - 1 in
    let l2 = set (put_mid from (length p - from) p y) point 46 in
    let g = length-set (put_mid from (length p - from) p y) point 46 in
    let x = c.fill_low-2.new.part in
    let q = c.fill_low-whole.result in
    let r : q ≡ a.self.n / 10 ^ a.self.s = c.fill_low-whole.ensures.rest ∙ ap (λ (w : ℕ). a.self.n / 10 ^ w) (sym (length-low (length (take (length p - from) (drop from p))) a.self.n) ∙ ap length (sym c.fill_low-whole.ensures.text ∙ e) ∙ length-low a.self.s a.self.n) in
    let v = whole_part l2 x q point (omega arith) (omega (arith, ap (λ (w : ℕ). length (decimal w)) r)) c.fill_low-2.ensures.text in
    filled p x y from point h (omega arith)
    ∙ ap (λ (w : List ℕ). w ++ (bytes "." ++ y)) (v ∙ ap decimal r)
    ∙ ap (λ (w : List ℕ). decimal (a.self.n / 10 ^ a.self.s) ++ (bytes "." ++ w)) e
    ∙ sym (shown-pointed a.self.n a.self.s (positive a.self.s c.if-self-eq0.false))
