-- `lexer::quoted` meets its contract: a double quote that does not come again is a token of one byte.
use Rattle.std.proofs.Common.{sym, ◌∙◌}
use Rattle.lexer.proofs.TokenLaws.{quoted_told}
use Rattle.lexer.proofs.Tests.{taken, passed}
use Rattle.lexer.proofs.quoted.Goals as goal
use Rattle.lexer.proofs.quoted.Goals.{then-eq, else-eq}

pub quote_kind-kind-requires : goal.quote_kind-kind-requires
quote_kind-kind-requires c = (c.requires.before, c.requires.ends)

pub returns : goal.returns
returns c =
    quoted_told _ _ _ _ c.requires c.quote_kind-kind.ensures.0 c.quote_kind-kind.ensures.1 c.eq.result c.eq.ensures
    (elim c.if-eq.branch [
      | then-eq w ↦ w.end-is ∙ taken _ _ _ w.if-eq.true
      | else-eq w ↦ w.end-is ∙ passed _ _ _ w.if-eq.false
    ])
