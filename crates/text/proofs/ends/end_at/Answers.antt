-- What the calls ensure, put together.
use native.Mathlib.Omega.{arith}
use Prim.Native.Nat.{◌-◌}
use Rattle.text.proofs.EndLaws.{stands_long, as_null, as_open, as_column, as_instant, as_other}
use Rattle.text.proofs.ends.end_at.Goals as goal

pub returns-then-s-a-lt-BODY : goal.returns-then-s-a-lt-BODY
returns-then-s-a-lt-BODY c = λ x h. absurd (let q = stands_long h in let v : ⊥ = omega (arith, c.if-s-a-lt-BODY.true) in v)

pub returns-in-0 : goal.returns-in-0
returns-in-0 c = λ x h. as_null h c.word_at.ensures.0 c.in-0.is

pub returns-in-1 : goal.returns-in-1
returns-in-1 c = λ x h. as_open h c.word_at.ensures.0 c.in-1.is

pub returns-in-5 : goal.returns-in-5
returns-in-5 c = λ x h. as_instant h c.word_at.ensures.0 (λ y. let w = c.in-5.is in let v : ⊥ = omega arith in v) (λ y. let w = c.in-5.is in let v : ⊥ = omega arith in v)

pub returns-in-6 : goal.returns-in-6
returns-in-6 c = λ x h. as_instant h c.word_at.ensures.0 (λ y. let w = c.in-6.is in let v : ⊥ = omega arith in v) (λ y. let w = c.in-6.is in let v : ⊥ = omega arith in v)

pub returns-in-8 : goal.returns-in-8
returns-in-8 c = λ x h. as_column h c.word_at.ensures.0 c.in-8.is

pub returns-in_default : goal.returns-in_default
returns-in_default c = λ x h. as_other h c.word_at.ensures.0 c.in_default.in_default-own.rest.0.0.0.1 c.in_default.in_default-own.rest.1
