-- The parts spell the guard around the base, which is its three parts.
use Rattle.std.proofs.Common.{rules, arith, ◌∙◌, ap, List}
use Rattle.sql.specs.declared.Part.{Part}
use Rattle.sql.specs.Template.{spelt, part_of, guarded_both_text}
use Rattle.sql.proofs.Laws.{two_guarded, three}
use Rattle.sql.proofs.guarded_both.Goals as goal

pub returns : goal.returns
returns c = record { text = ap spelt c.sql.ensures.items ∙ two_guarded _ _ _ c.args.i c.args.j ∙ ap (λ (l : List Part). guarded_both_text (part_of c.args.i) (part_of c.args.j) (spelt l)) (three c.args.base _ _ _ (search (rules, c.well_formed))); len = rw c.sql.ensures.len (omega arith) }
