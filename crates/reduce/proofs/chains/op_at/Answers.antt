-- The number at the operator's place is an operator's, so there is one.
use mathlib.Core.Path.{ap, sym, ◌∙◌}
use Rattle.std.specs.Prelude.{is_some}
use Rattle.op.specs.Op.{op_of}
use Rattle.op.specs.OpLaws.{number_of}
use Rattle.reduce.proofs.ChainLaws.{some_same}
use Rattle.reduce.proofs.chains.op_at.Goals as goal

pub unwrap-requires : goal.unwrap-requires
unwrap-requires c = ap is_some (c.op_of.ensures ∙ ap op_of (c.word_at.ensures.0 ∙ c.requires.is) ∙ number_of c.requires.op)

pub returns : goal.returns
returns c = λ o e. some_same (sym c.unwrap.ensures ∙ c.op_of.ensures ∙ ap op_of (c.word_at.ensures.0 ∙ e) ∙ number_of o)
