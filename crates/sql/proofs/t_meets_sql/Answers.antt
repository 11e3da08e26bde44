-- What the guard spells is the condition's template.
use Rattle.std.proofs.Common.{◌∙◌}
use Rattle.sql.specs.Condition.{test, eq, print}
use Rattle.sql.specs.Template.{spelt, part_of}
use Rattle.sql.specs.Translators.{t_meets}
use Rattle.sql.proofs.Laws.{two_guards}
use Rattle.sql.proofs.t_meets_sql.Goals as goal

pub returns-clause-text : goal.returns-clause-text
unfolding t_meets print spelt part_of
returns-clause-text c = c.check_ids.ensures.text ∙ two_guards _ 0 3 (test 1 eq 2)
