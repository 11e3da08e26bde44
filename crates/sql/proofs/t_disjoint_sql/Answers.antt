-- Each side is what its guard spells, and the two are joined.
use Rattle.std.proofs.Common.{◌∙◌, ap}
use Rattle.sql.specs.Condition.{test, gt, lt, print, check_id, check_ids}
use Rattle.sql.specs.Template.{spelt, part_of}
use Rattle.sql.specs.Translators.{t_disjoint}
use Rattle.sql.proofs.Laws.{one_guard, two_guards, either_of, either_or}
use Rattle.sql.proofs.t_disjoint_sql.Goals as goal

pub returns-in-true-true-clause-text : goal.returns-in-true-true-clause-text
unfolding t_disjoint spelt part_of print
returns-in-true-true-clause-text c =
    rw (c.in-true-true.is-0, c.in-true-true.is-1)
    (c.either.ensures.text
    ∙ either_of (c.check_ids-before.ensures.text ∙ two_guards _ 0 3 (test 1 lt 2)) (c.check_ids.ensures.text ∙ two_guards _ 1 2 (test 0 gt 3))
    ∙ either_or (check_ids _ 0 3 (test 1 lt 2)) (check_ids _ 1 2 (test 0 gt 3)))

pub returns-in-true-false-clause-text : goal.returns-in-true-false-clause-text
unfolding t_disjoint spelt part_of print
returns-in-true-false-clause-text c =
    rw (c.in-true-false.is-0, c.in-true-false.is-1)
    (c.either-in-true-false.ensures.text
    ∙ either_of (c.check_id-before.ensures.text ∙ one_guard _ 0 (test 1 lt 2)) (c.check_id.ensures.text ∙ one_guard _ 1 (test 0 gt 2))
    ∙ either_or (check_id _ 0 (test 1 lt 2)) (check_id _ 1 (test 0 gt 2)))

pub returns-in-false-true-clause-text : goal.returns-in-false-true-clause-text
unfolding t_disjoint spelt part_of print
returns-in-false-true-clause-text c =
    rw (c.in-false-true.is-0, c.in-false-true.is-1)
    (c.either-in-false-true.ensures.text
    ∙ either_of (c.check_id-before-in-false-true.ensures.text ∙ one_guard _ 3 (test 0 lt 2)) (c.check_id-in-false-true.ensures.text ∙ one_guard _ 2 (test 0 gt 3))
    ∙ either_or (check_id _ 3 (test 0 lt 2)) (check_id _ 2 (test 0 gt 3)))

pub returns-in-false-false-clause-text : goal.returns-in-false-false-clause-text
unfolding t_disjoint spelt part_of print
returns-in-false-false-clause-text c = rw (c.in-false-false.is-0, c.in-false-false.is-1) (ap spelt c.sql.ensures.items)
