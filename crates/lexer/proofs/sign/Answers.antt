-- `lexer::sign` meets its contract: past the end the next byte is 0, and the sign has one byte.
use Rattle.std.proofs.Common.{ap, ◌∙◌, arith}
use Rattle.std.specs.Option.{unwrap_or}
use Rattle.lexer.proofs.TokenLaws.{sign_told}
use Rattle.lexer.proofs.sign.Goals as goal

pub returns : goal.returns
returns c =
    sign_told _ _ _ c.requires (c.unwrap_or-next.ensures ∙ ap (λ o. unwrap_or o 0) c.copied.ensures ∙ c.get.ensures.lookup.4 (omega arith) 0)
    c.sign_kind-kind.ensures c.sign_more.ensures.0 c.sign_more.ensures.1
