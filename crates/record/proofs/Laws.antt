-- Laws of little-endian numbers that reach past the end, and of signed numbers. Each is over plain lists and numbers.
use mathlib.Core.Path.{◌≡◌, refl, ap, sym, ◌∙◌, subst}
use mathlib.Core.List.{List}
use mathlib.Core.Bool.{Bool, true, false}
use Prim.Native.Nat.{ℕ, zero, suc, ◌+◌, ◌-◌, ◌≤◌, ◌<◌}
use native.Mathlib.Omega.{arith}
use lib.ListN.{length, get_or, get_or-eq_default}
use lib.IntN.{ℤ, pos, negsuc, ◌-ℤ◌}
use lib.Dec.{ltb}
use mir.Syntax.{w64}
use mir.Val.{SFits, to_z}
use mir.Facts.{to_z_pos}
use borrow.Author.Tests.{ltb-true, ltb-false, le-ltb, lt-ltb}
use Rattle.prelude.specs.Choice.{pick}
use Rattle.record.specs.Record.{le16, le32, le64, signed}

-- a byte past the end counts as 0
pub past_end : (s : List ℕ) (at k : ℕ) → length s ≤ at → get_or s (at + k) 0 ≡ 0
past_end s at k h = let l : length s ≤ at + k = omega arith in get_or-eq_default s 0 l

pub word-past : (s : List ℕ) (at : ℕ) → length s ≤ at → le16 s at ≡ 0
word-past s at h = omega (arith, get_or-eq_default s 0 h, past_end s at 1 h)

pub dword_past : (s : List ℕ) (at : ℕ) → length s ≤ at + 2 → le32 s at ≡ le16 s at
dword_past s at h = omega (arith, word-past s (at + 2) h)

pub qword_past : (s : List ℕ) (at : ℕ) → length s ≤ at → le64 s at ≡ 0
qword_past s at h =
    omega (arith, word-past s at h, word-past s (at + 2) (omega arith), word-past s (at + 4) (omega arith), word-past s (at + 4 + 2) (omega arith))

-- Two's complement, as the code computes it.

abbrev half : ℕ
half = 9223372036854775808

minus_one : (k : ℕ) → negsuc 0 -ℤ pos k ≡ negsuc k
minus_one zero = refl
minus_one (suc k) = let e : suc (0 + k) ≡ suc k = omega arith in ap negsuc e

pub signed_pos : (n : ℕ) → n < half → to_z w64 n ≡ signed n
unfolding signed
signed_pos n h = to_z_pos w64 h ∙ simp (lt-ltb n half h)

module _ (n : ℕ) (high : half ≤ n) (low : n < 18446744073709551616) where
  below : 18446744073709551615 - n < half
  below = omega arith

  pub signed_neg : negsuc 0 -ℤ to_z w64 (18446744073709551615 - n) ≡ signed n
  unfolding signed
  signed_neg =
      ap (λ (z : ℤ). negsuc 0 -ℤ z) (to_z_pos w64 below) ∙ minus_one (18446744073709551615 - n) ∙ simp (le-ltb n half high)

  pub signed_neg_fits : SFits w64 (negsuc 0 -ℤ to_z w64 (18446744073709551615 - n))
  signed_neg_fits =
      subst (λ (z : ℤ). SFits w64 z) (sym (ap (λ (z : ℤ). negsuc 0 -ℤ z) (to_z_pos w64 below) ∙ minus_one (18446744073709551615 - n))) (record { sfits = below })

pub signed-fits : (n : ℕ) → n < 18446744073709551616 → SFits w64 (signed n)
unfolding signed
signed-fits n l = go (ltb n half) refl
  where
    go : (b : Bool) → ltb n half ≡ b → SFits w64 (pick b (pos n) (negsuc (18446744073709551615 - n)))
    go true e = record { sfits = ltb-true n half e }
    go false e = record { sfits = omega (arith, ltb-false n half e) }
