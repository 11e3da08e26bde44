-- The bytes before this one are laid, each apostrophe twice.
use Rattle.literal.proofs.DoubledLaws.{Laid}
use Rattle.literal.proofs.copy_doubled.Given as goal

abbrev pub invariant-loop-b : goal.invariant-loop-b
invariant-loop-b l = Laid l.s l.initial.out l.at l.out l.b-index l.to
