-- `replay_cases::replay` meets its contract: what is counted after the cases so far is counted from the start.
use Rattle.replay_cases.specs.Counted.{CountsCases, none_counted}
use Rattle.replay_cases.proofs.replay.Given as goal

abbrev pub invariant-loop : goal.invariant-loop
invariant-loop g l =
    (end : _) → CountsCases (g.K.Kind.judges l.fn.kind) l.tally end → CountsCases (g.K.Kind.judges l.fn.kind) none_counted end
