-- A test of an i64 against 0, told of the number itself: the machine reads it back from its bits, and what fits comes back as it was.
use Prim.Native.Nat.{ℕ, ◌<◌, ◌^◌}
use mathlib.Core.Path.{◌≡◌, refl, subst}
use mathlib.Core.Bool.{true, false}
use native.Mathlib.Omega.{arith}
use lib.Dec.{ltb}
use lib.IntN.{ℤ, pos, negsuc}
use lib.Signed.{lt_z}
use mir.Syntax.{w64}
use mir.Val.{to_z, of_z, SFits}
use mir.ValLaws.{to_z-of_z}
use borrow.Author.Tests.{le-ltb}

-- what is read back from the bits of z
abbrev pub back : ℤ → ℤ
back z = to_z w64 (of_z w64 z)

-- z is -(n + 1)
pub record Below (z : ℤ) : Type 0 where
  pub n : ℕ
  pub is : z ≡ negsuc n
  pub small : n < 2 ^ 63

-- z is n
pub record Above (z : ℤ) : Type 0 where
  pub n : ℕ
  pub is : z ≡ pos n
  pub small : n < 2 ^ 63

pub below : (z : ℤ) → SFits w64 z → lt_z (back z) (pos 0) ≡ true → Below z
below z f e = go z f (subst (λ (x : ℤ). lt_z x (pos 0) ≡ true) (to_z-of_z w64 z f) e)
  where
    go : (z : ℤ) → SFits w64 z → lt_z z (pos 0) ≡ true → Below z
    go (negsuc n) f e = record { n = n; is = refl; small = f.sfits }
    go (pos n) f e = let v : ◌≡◌ {A = ℕ} 0 1 = (let a : ltb n 0 ≡ false = le-ltb n 0 (omega arith) in cc) in absurd (let w : ⊥ = omega arith in w)

pub above : (z : ℤ) → SFits w64 z → lt_z (back z) (pos 0) ≡ false → Above z
above z f e = go z f (subst (λ (x : ℤ). lt_z x (pos 0) ≡ false) (to_z-of_z w64 z f) e)
  where
    go : (z : ℤ) → SFits w64 z → lt_z z (pos 0) ≡ false → Above z
    go (negsuc n) f e = let v : ◌≡◌ {A = ℕ} 0 1 = cc in absurd (let w : ⊥ = omega arith in w)
    go (pos n) f e = record { n = n; is = refl; small = f.sfits }
