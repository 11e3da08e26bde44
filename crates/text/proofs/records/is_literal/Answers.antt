-- What is left to look at is a list of trees, of which all must be literal.
use native.Mathlib.Omega.{arith}
use Prim.Native.Nat.{◌-◌}
use mathlib.Core.Path.{sym, ◌∙◌}
use Rattle.prelude.specs.ChoiceLaws.{between_true}
use Rattle.tree.specs.EncodeLaws.{between_is}
use Rattle.text.proofs.LeafLaws.{clash}
use Rattle.text.proofs.LiteralLaws.{left_start, left_long, left_end, left_array, left_next, left_not}
use Rattle.text.proofs.records.is_literal.Goals as goal

pub loop-p-init : goal.loop-p-init
loop-p-init c = λ t e. left_start _ t e

pub returns-then-s-p-lt-BODY : goal.returns-then-s-p-lt-BODY
returns-then-s-p-lt-BODY c = λ t e. absurd (let q = left_long (omega arith) (c.loop-p.invariant t e) in let v : ⊥ = omega (arith, c.if-s-p-lt-BODY.true) in v)

pub loop-p-preserved-then-kind-eq-ARRAY : goal.loop-p-preserved-then-kind-eq-ARRAY
loop-p-preserved-then-kind-eq-ARRAY c = λ t e. left_array (omega arith) c.word_at-kind.ensures.0 c.if-kind-eq-ARRAY.true (c.loop-p.invariant t e)

pub returns-else-is_value : goal.returns-else-is_value
returns-else-is_value c = λ t e. left_not (omega arith) c.word_at-kind.ensures.0 c.if-kind-eq-ARRAY.false (λ x y. clash (sym (sym c.is_value.ensures ∙ c.if-is_value.false) ∙ between_is 2 c.word_at-kind.result 7 x y)) (c.loop-p.invariant t e)

pub end_of-p-requires : goal.end_of-p-requires
end_of-p-requires c = (omega arith, omega arith)

pub loop-p-smaller : goal.loop-p-smaller
loop-p-smaller c = let z = c.end_of-p.ensures.moves (omega arith) in omega arith

pub loop-p-preserved : goal.loop-p-preserved
loop-p-preserved c = λ t e. let h = between_true 2 c.word_at-kind.result 7 (sym c.is_value.ensures ∙ c.if-is_value.true) in left_next (omega arith) c.word_at-kind.ensures.0 (omega (arith, h.0)) (omega (arith, h.1)) c.end_of-p.ensures (c.loop-p.invariant t e)

pub returns : goal.returns
returns c = λ t e. left_end (omega arith) (c.loop-p.invariant t e)
