-- What the last arm of `op_of` knows.
use Rattle.std.specs.Prelude.{None}
use Prim.Native.Nat.{ℕ, zero, suc, ◌≤◌}
use native.Mathlib.Omega.{arith}
use mathlib.Core.Path.{◌≡◌, refl}
use mathlib.Core.List.{List, [], ◌∷◌}
use lib.ListN.{length}
use Rattle.op.specs.declared.Op.{Op}
use Rattle.op.specs.Op.{operators, op_at, op_of}

-- none of the numbers below k
abbrev NoneOf : ℕ → ℕ → Type 0
NoneOf n zero = Unit {0}
NoneOf n (suc k) = NoneOf n k × (n ≡ k → ⊥)

none_below : (n k : ℕ) → NoneOf n k → k ≤ n
none_below n zero h = omega arith
none_below n (suc k) h = let q = none_below n k h.0 in let w = h.1 in omega arith

past : (os : List Op) (n : ℕ) → length os ≤ n → op_at os n ≡ None
unfolding op_at
past [] n h = refl
past (o ∷ os) zero h = absurd (omega arith)
past (o ∷ os) (suc n) h = past os n (omega arith)

pub past_all : (n : ℕ) → NoneOf n 53 → op_of n ≡ None
past_all n h = past operators n (none_below n 53 h)
