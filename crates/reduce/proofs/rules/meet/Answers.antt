-- `reduce::rules::meet` meets its contract: And and Or compute, and any other operator is neither.
use Rattle.prelude.specs.Choice.{some}
use Rattle.op.specs.declared.Op.TheVariants as op
use Rattle.reduce.specs.Rules.{meet}
use Rattle.reduce.proofs.RuleLaws.{op_apart}
use Rattle.reduce.proofs.rules.meet.Goals as goal

pub returns-in-And : goal.returns-in-And
unfolding meet some
returns-in-And c = rw c.in-And.is c.meet_and.ensures

pub returns-in-Or : goal.returns-in-Or
unfolding meet some
returns-in-Or c = rw c.in-Or.is c.meet_or.ensures

pub returns-in_default : goal.returns-in_default
unfolding meet some
returns-in_default c = simp (op_apart c.args.op op.And c.in_default.not-And, op_apart c.args.op op.Or c.in_default.not-Or) c.meet_other.ensures
