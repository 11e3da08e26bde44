-- The parts spell the guard around the base, which is its three parts.
use Rattle.std.proofs.Common.{rules, arith, ◌∙◌, ap, List}
use Rattle.sql.specs.declared.Part.{Part}
use Rattle.sql.specs.Template.{spelt, part_of, guarded_text}
use Rattle.sql.proofs.Laws.{one_guarded, three}
use Rattle.sql.proofs.guarded.Goals as goal

pub returns : goal.returns
returns c = record { text = ap spelt c.sql.ensures.items ∙ one_guarded _ _ _ c.args.i ∙ ap (λ (l : List Part). guarded_text (part_of c.args.i) (spelt l)) (three c.args.base _ _ _ (search (rules, c.well_formed))); len = rw c.sql.ensures.len (omega arith) }
