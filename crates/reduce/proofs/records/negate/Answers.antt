-- The Num that was read is written with its sign changed, over itself.
use native.Mathlib.Omega.{arith}
use Rattle.reduce.proofs.WriteLaws.{num_written, opposite_is}
use Rattle.reduce.proofs.TurnLaws.{negated_num}
use Rattle.reduce.proofs.records.negate.Goals as goal

pub returns : goal.returns
returns c =
    λ v k l h g f. negated_num v k h g f c.requires.0
    c.qword_at.ensures.0
    (λ z i e. opposite_is z i e c.wrapping_neg-n.ensures (omega arith)) c.byte_at-scale.ensures
    (λ z e. num_written _ _ _ _ z e c.put_num.ensures)
