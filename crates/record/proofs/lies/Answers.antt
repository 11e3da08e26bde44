-- Only the last branch answers true.
use mathlib.Core.Path.{◌≡◌}
use Prim.Native.Nat.{ℕ}
use native.Mathlib.Omega.{arith}
use Rattle.record.proofs.lies.Goals as goal

pub returns-then-len-n : goal.returns-then-len-n
returns-then-len-n c = λ e. absurd (let z : ◌≡◌ {A = ℕ} 0 1 = cc in let v : ⊥ = omega arith in v)

pub returns-then-len-n-2 : goal.returns-then-len-n-2
returns-then-len-n-2 c = λ e. absurd (let z : ◌≡◌ {A = ℕ} 0 1 = cc in let v : ⊥ = omega arith in v)

pub returns : goal.returns
returns c = λ e. omega arith
