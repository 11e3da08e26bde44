-- `string::past_simple` meets its contract: all bytes before the first that the search stops at are simple.
use Rattle.std.proofs.Common.{rules, tests}
use Rattle.std.proofs.lemmas.Iterator.{YieldsList-from_slice, IsFirst-from_position}
use Rattle.string.proofs.SequenceLaws.{Simple, reaches_first}
use Rattle.string.proofs.past_simple.Goals as goal

pub returns : goal.returns
returns c =
    let first = IsFirst-from_position c.position.new.self _ _ (λ _. Unit {0}) (Simple c.args.quoted c.args.s.now) c.position.ensures.ran (YieldsList-from_slice c.args.s.now cc) (λ x q k. tt) (λ x q k. search (rules, tests)) in
    rw c.unwrap_or.ensures (reaches_first c.args.quoted c.args.s.now _ first)
