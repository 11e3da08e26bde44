-- The ends of both operands, in order.
use Rattle.text.proofs.OperandLaws.{temporal_ends}
use Rattle.text.proofs.ends.temporal_ends.Goals as goal

pub returns : goal.returns
returns c = λ t u p q. rw c.unfold_expressions.ensures (temporal_ends _ _ (c.operand_at-a.ensures t p) (c.operand_at.ensures u q))
