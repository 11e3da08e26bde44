-- An array is literal as its items are; of all others the kind says.
use native.Mathlib.Omega.{arith}
use mathlib.Core.Path.{◌∙◌}
use Rattle.text.proofs.LiteralLaws.{no_id, kind_tells}
use Rattle.text.proofs.records.is_literal_or_id.Goals as goal

pub returns-then-kind-eq-ARRAY : goal.returns-then-kind-eq-ARRAY
returns-then-kind-eq-ARRAY c = λ t e. no_id _ c.word_at-kind.result t _ e c.word_at-kind.ensures.0 (λ z. let v : ⊥ = omega (arith, c.if-kind-eq-ARRAY.true) in v) (c.is_literal.ensures t e)

pub returns-else-kind-eq-ARRAY : goal.returns-else-kind-eq-ARRAY
returns-else-kind-eq-ARRAY c = λ t e. c.is_value_or_id.ensures ∙ kind_tells _ c.word_at-kind.result t e c.word_at-kind.ensures.0 c.if-kind-eq-ARRAY.false
