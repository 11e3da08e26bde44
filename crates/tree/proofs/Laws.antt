-- Laws of the definitions that the proofs of the code cite. Each is over plain lists and numbers.
use mathlib.Core.Path.{◌≡◌, refl, sym, ◌∙◌}
use mathlib.Core.List.{List}
use mathlib.Core.Bool.{Bool, true, false}
use Prim.Native.Nat.{ℕ, suc, ◌-◌, ◌≤◌, ◌<◌}
use native.Mathlib.Omega.{arith}
use lib.IntN.{pos, negsuc, nat_abs}
use lib.ListN.{length, take, drop, length-drop}
use lib.Seq.{take_all}
use lib.Dec.{ltb, leb}
use borrow.Author.Tests.{ltb-true, ltb-false, le-ltb, lt-ltb, le-leb, lt-leb}
use Rattle.prelude.specs.Choice.{pick}
use Rattle.tree.specs.Limits.{mantissa_limit}
use Rattle.record.specs.Record.{signed}

-- The bytes from `at` on, as the code's `&s[at..]` has them.
abbrev pub tail : ℕ → List ℕ → List ℕ
tail at s = take (length s - at) (drop at s)

pub tail-is : (at : ℕ) (s : List ℕ) → tail at s ≡ drop at s
tail-is at s = take_all (length s - at) (drop at s) (omega (arith, length-drop at s))

-- The limit of a mantissa, by the number that its bytes hold.

pub limit_low : (n : ℕ) → n ≤ mantissa_limit → leb (nat_abs (signed n)) mantissa_limit ≡ true
unfolding signed
limit_low n h = simp (lt-ltb n 9223372036854775808 (omega arith), le-leb n mantissa_limit h)

pub limit_high : (n : ℕ) → mantissa_limit < n → n < 18446744073709551616 → ltb (18446744073709551615 - mantissa_limit) n ≡ leb (nat_abs (signed n)) mantissa_limit
unfolding signed
limit_high n h l = go (ltb n 9223372036854775808) refl
  where
    go : (b : Bool) → ltb n 9223372036854775808 ≡ b → ltb (18446744073709551615 - mantissa_limit) n ≡ leb (nat_abs (pick b (pos n) (negsuc (18446744073709551615 - n)))) mantissa_limit
    go true e = le-ltb (18446744073709551615 - mantissa_limit) n (omega (arith, ltb-true n 9223372036854775808 e)) ∙ sym (lt-leb n mantissa_limit h)
    go false e = high (ltb (18446744073709551615 - mantissa_limit) n) refl
      where
        high : (b : Bool) → ltb (18446744073709551615 - mantissa_limit) n ≡ b → b ≡ leb (suc (18446744073709551615 - n)) mantissa_limit
        high true f = sym (le-leb (suc (18446744073709551615 - n)) mantissa_limit (omega (arith, ltb-true (18446744073709551615 - mantissa_limit) n f)))
        high false f = sym (lt-leb (suc (18446744073709551615 - n)) mantissa_limit (omega (arith, ltb-false (18446744073709551615 - mantissa_limit) n f)))
