-- `op::op_of` meets its contract: each arm knows its number, and what is none of 0 to 52 lies past the list.
use mathlib.Core.Path.{sym}
use Rattle.op.proofs.Laws.{past_all}
use Rattle.op.proofs.op_of.Goals as goal

pub returns-in_default : goal.returns-in_default
returns-in_default c = sym (past_all _ c.in_default.in_default-own.rest)
