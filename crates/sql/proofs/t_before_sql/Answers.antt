-- What the guard spells is the condition's template, in each case.
use Rattle.std.proofs.Common.{◌∙◌, ap}
use Rattle.sql.specs.Condition.{test, lt, print}
use Rattle.sql.specs.Template.{spelt, part_of}
use Rattle.sql.specs.Translators.{t_before}
use Rattle.sql.proofs.Laws.{one_guard, two_guards}
use Rattle.sql.proofs.t_before_sql.Goals as goal

pub returns-in-true-true-clause-text : goal.returns-in-true-true-clause-text
unfolding t_before print spelt part_of
returns-in-true-true-clause-text c = rw (c.in-true-true.is-0, c.in-true-true.is-1) (c.check_ids.ensures.text ∙ two_guards _ 0 3 (test 1 lt 2))

pub returns-in-true-false-clause-text : goal.returns-in-true-false-clause-text
unfolding t_before print spelt part_of
returns-in-true-false-clause-text c = rw (c.in-true-false.is-0, c.in-true-false.is-1) (c.check_id.ensures.text ∙ one_guard _ 0 (test 1 lt 2))

pub returns-in-false-true-clause-text : goal.returns-in-false-true-clause-text
unfolding t_before print spelt part_of
returns-in-false-true-clause-text c = rw (c.in-false-true.is-0, c.in-false-true.is-1) (c.check_id-in-false-true.ensures.text ∙ one_guard _ 3 (test 0 lt 2))

pub returns-in-false-false-clause-text : goal.returns-in-false-false-clause-text
unfolding t_before print spelt part_of
returns-in-false-false-clause-text c = rw (c.in-false-false.is-0, c.in-false-false.is-1) (ap spelt c.sql.ensures.items)
