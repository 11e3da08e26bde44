-- What the calls ensure, put together.
use native.Mathlib.Omega.{arith}
use Prim.Native.Nat.{◌-◌}
use Rattle.text.proofs.EndLaws.{halves, interval_is, single}
use Rattle.text.proofs.EndLaws.{stands_long, at_six}
use Rattle.text.proofs.ends.operand_at.Goals as goal

pub returns-then-s-a-lt-BODY : goal.returns-then-s-a-lt-BODY
returns-then-s-a-lt-BODY c = λ x h. absurd (let q = stands_long h in let v : ⊥ = omega (arith, c.if-s-a-lt-BODY.true) in v)

pub returns-then-word_at-eq-INTERVAL : goal.returns-then-word_at-eq-INTERVAL
returns-then-word_at-eq-INTERVAL c = λ x h. let w = halves h c.word_at.ensures.0 c.if-word_at-eq-INTERVAL.true (at_six _ _ c.if-s-a-lt-BODY.false) c.end_of-m.ensures in interval_is w (c.end_at-start.ensures w.first w.one) (c.end_at.ensures w.second w.two)

pub returns : goal.returns
returns c = λ x h. single h c.word_at.ensures.0 c.if-word_at-eq-INTERVAL.false _ (c.end_at-2.ensures x h)
