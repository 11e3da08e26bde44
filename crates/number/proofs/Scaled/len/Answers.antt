-- `number::Scaled::len` meets its contract: the whole part has what is left of the digits of n, or one zero.
use native.Mathlib.Omega.{arith}
use mathlib.Core.Path.{ap, sym, ◌∙◌}
use Prim.Native.Nat.{ℕ}
use lib.ListN.{length}
use Rattle.number.proofs.Laws.{positive}
use Rattle.literal.specs.LiteralLaws.{shown, shown-whole, shown-pointed, length-pointed, whole_long, whole_short}
use Rattle.number.proofs.Scaled.len.Goals as goal

pub returns-then-self-eq0 : goal.returns-then-self-eq0
returns-then-self-eq0 c =
    let a = c.args in
    let w = c.decimal_len-w in
    (w.ensures.0 ∙ ap length (sym (shown-whole a.self.n) ∙ ap (λ (x : ℕ). shown a.self.n x) (sym c.if-self-eq0.true)), omega (arith, w.ensures.1))

pub returns-then-self-w : goal.returns-then-self-w
returns-then-self-w c =
    let a = c.args in
    let w = c.decimal_len-w in
    let e = ap length (shown-pointed a.self.n a.self.s (positive a.self.s c.if-self-eq0.false)) ∙ length-pointed a.self.n a.self.s in
    let l = whole_long a.self.s a.self.n (omega (arith, w.ensures.0)) in
    (omega (arith, w.ensures.0), omega (arith, w.ensures.1))

pub returns-else-self-w : goal.returns-else-self-w
returns-else-self-w c =
    let a = c.args in
    let w = c.decimal_len-w in
    let e = ap length (shown-pointed a.self.n a.self.s (positive a.self.s c.if-self-eq0.false)) ∙ length-pointed a.self.n a.self.s in
    let l = whole_short a.self.s a.self.n (omega (arith, w.ensures.0)) in
    (omega arith, omega (arith, c.requires))
