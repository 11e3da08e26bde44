-- A Function's name stands before its items, with its length; an Array and an Interval have none.
use Rattle.reduce.proofs.LeafLaws.{leaf-kind, leaf_other}
use Rattle.reduce.proofs.NameLaws.{name_size, no_name}
use Rattle.reduce.proofs.walk.items_at.Goals as goal

pub returns-then-kind-eq-FUNCTION : goal.returns-then-kind-eq-FUNCTION
returns-then-kind-eq-FUNCTION c = λ t e f h. name_size e c.byte_at.ensures.0 (leaf-kind t e f 11 c.if-kind-eq-FUNCTION.true)

pub returns-else-kind-eq-FUNCTION : goal.returns-else-kind-eq-FUNCTION
returns-else-kind-eq-FUNCTION c = λ t e f h. no_name t (leaf_other t e f 11 c.if-kind-eq-FUNCTION.false)
