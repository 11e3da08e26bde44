-- Counted are the apostrophes before this byte.
use Rattle.std.proofs.Common.{◌≡◌, ℕ, count_by, eqb, take}
use Rattle.prelude.specs.Bytes.{apostrophe}
use Rattle.literal.proofs.apostrophes.Given as goal

abbrev pub invariant-loop-b : goal.invariant-loop-b
invariant-loop-b l = l.n ≡ count_by (λ (b : ℕ). eqb b apostrophe) (take l.b-index l.s)
