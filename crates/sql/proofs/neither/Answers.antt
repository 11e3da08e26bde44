-- The parts spell both tests in brackets, each its three parts.
use Rattle.std.proofs.Common.{rules, arith, ◌∙◌, ap}
use Rattle.sql.specs.Template.{spelt}
use Rattle.sql.proofs.Laws.{neither_spelt, neither_of, three}
use Rattle.sql.proofs.neither.Goals as goal

pub returns : goal.returns
returns c = record { text = ap spelt c.sql.ensures.items ∙ neither_spelt _ _ _ _ _ _ ∙ neither_of (three c.args.x _ _ _ (search (rules, c.well_formed))) (three c.args.y _ _ _ (search (rules, c.well_formed))); len = rw c.sql.ensures.len (omega arith) }
