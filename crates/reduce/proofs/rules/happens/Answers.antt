-- `reduce::rules::happens` meets its contract: an arm's operator computes, and the last is none of those named.
use mathlib.Core.Path.{refl}
use lib.Dec.{eqb}
use Rattle.prelude.specs.Choice.{some}
use Rattle.op.specs.declared.Op.TheVariants as op
use Rattle.reduce.specs.Rules.{happens}
use Rattle.reduce.proofs.RuleLaws.{op_apart, not_is}
use Rattle.reduce.proofs.rules.happens.Goals as goal

pub returns-in-TAfter : goal.returns-in-TAfter
unfolding happens some
returns-in-TAfter c = rw c.in-TAfter.is refl

pub returns-in-TBefore : goal.returns-in-TBefore
unfolding happens some
returns-in-TBefore c = rw c.in-TBefore.is refl

pub returns-in-TDisjoint : goal.returns-in-TDisjoint
unfolding happens some
returns-in-TDisjoint c = rw c.in-TDisjoint.is (not_is (eqb c.args.x c.args.y))

pub returns-in_default : goal.returns-in_default
unfolding happens some
returns-in_default c = simp (op_apart c.args.op op.TAfter c.in_default.not-TAfter, op_apart c.args.op op.TBefore c.in_default.not-TBefore, op_apart c.args.op op.TDisjoint c.in_default.not-TDisjoint)
