-- The digits of what is left, then those written, are the digits of n.
use Rattle.std.proofs.Common.{◌≡◌, ◌-◌, ◌/◌, ◌^◌, ◌++◌, length, drop}
use Rattle.literal.specs.Literal.{low}
use Rattle.number.proofs.fill_low.Given as goal

abbrev pub invariant-loop-k : goal.invariant-loop-k
invariant-loop-k l = (low l.k l.rest ++ drop l.k l.part ≡ low (length l.initial.part) l.n) × (l.rest ≡ l.n / 10 ^ (length l.initial.part - l.k))
