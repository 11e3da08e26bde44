-- A number from a power of ten on and below the next has one digit more than the power has zeros; 0 has one.
use Rattle.std.proofs.Common.{◌≡◌, ◌+◌, ◌*◌, ◌/◌, ◌%◌, ◌^◌, ◌≤◌, ◌<◌, ℕ, zero, suc, [], ◌∷◌, length, length-append, max, arith, ap, sym, ◌∙◌}
use Rattle.std.proofs.Math.Nat.{pow-succ'}
use Rattle.literal.specs.Literal.{decimal}
use Rattle.literal.specs.LiteralLaws.{decimal_one, decimal-more}
use Rattle.number.proofs.decimal_len.Goals as goal

one_more : (m : ℕ) → 10 ≤ m → length (decimal m) ≡ length (decimal (m / 10)) + 1
one_more m h = ap length (decimal-more m h) ∙ length-append (decimal (m / 10)) ((48 + m % 10) ∷ [])

ten_some : (k : ℕ) → 1 ≤ 10 ^ k
ten_some zero = omega arith
ten_some (suc k) = let e : 10 ^ suc k ≡ 10 * 10 ^ k = pow-succ' 10 k in omega (arith, ten_some k)

by_power : (k m : ℕ) → 10 ^ k ≤ m → m < 10 * 10 ^ k → length (decimal m) ≡ k + 1
by_power zero m h g = ap length (decimal_one m (omega arith))
by_power (suc k) m h g =
    let e : 10 ^ suc k ≡ 10 * 10 ^ k = pow-succ' 10 k in
    let p : 1 ≤ 10 ^ k = ten_some k in
    let r = by_power k (m / 10) (omega arith) (omega arith) in
    one_more m (omega arith) ∙ omega (arith, r)

-- 0 is written as 1 is
and_zero : (n k : ℕ) {m : ℕ} → m ≡ max n 1 → 10 ^ k ≤ m → m < 10 * 10 ^ k → length (decimal n) ≡ k + 1
and_zero zero k e h g = ap length (decimal_one 0 (omega arith)) ∙ sym (ap length (decimal_one 1 (omega arith))) ∙ by_power k 1 (omega (arith, e)) (omega (arith, e))
and_zero (suc n) k e h g = by_power k (suc n) (omega (arith, e)) (omega (arith, e))

pub returns : goal.returns
returns c = let l = c.ilog10.ensures in (sym (and_zero c.args.n c.ilog10.result c.max.ensures l.power_le l.next_power_gt), omega (arith, l.bound))
