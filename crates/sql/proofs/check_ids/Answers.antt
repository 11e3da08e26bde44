-- Which of the ends are columns says which guard it is.
use Rattle.std.proofs.Common.{sym}
use Rattle.sql.specs.Template.{check_ids_text}
use Rattle.sql.proofs.check_ids.Goals as goal

pub returns-in-true-true : goal.returns-in-true-true
unfolding check_ids_text
returns-in-true-true c = rw (sym c.in-true-true.ensures, sym c.in-true-true.ensures') c.guarded_both.ensures

pub returns-in-true-false : goal.returns-in-true-false
unfolding check_ids_text
returns-in-true-false c = rw (sym c.in-true-false.ensures, sym c.in-true-false.ensures') c.guarded.ensures

pub returns-in-false-default : goal.returns-in-false-default
unfolding check_ids_text
returns-in-false-default c = rw (sym c.in-false-default.ensures) c.check_id.ensures
