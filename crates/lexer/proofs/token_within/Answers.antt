-- `lexer::token_within` meets its contract: each `return` is a case of `lexeme` at the place where the spaces end.
use mathlib.Core.Path.{sym, ◌∙◌}
use native.Mathlib.Omega.{arith}
use Rattle.lexer.proofs.TokenLaws.{bare_at, at_end, word_at, quote_name}
use Rattle.lexer.proofs.token_within.Goals as goal

pub returns-then-start-s : goal.returns-then-start-s
returns-then-start-s c = at_end _ _ _ c.past-start.ensures.2 c.if-start-s.true

pub word_kind-kind-requires : goal.word_kind-kind-requires
word_kind-kind-requires c = bare_at _ _ _ (omega arith) (sym c.is_name_start.ensures ∙ c.if-is_name_start.true) c.past-end.ensures.2

pub returns-then-is_name_start : goal.returns-then-is_name_start
returns-then-is_name_start c = word_at _ _ _ c.past-start.ensures.2 (omega arith) (sym c.is_name_start.ensures ∙ c.if-is_name_start.true) _ _ c.past-end.ensures.0 c.past-end.ensures.2 c.word_kind-kind.ensures

pub text-requires : goal.text-requires
text-requires c = (record { spaced = c.past-start.ensures.2; inside = omega arith; wordless = sym c.is_name_start.ensures ∙ c.if-is_name_start.false }, c.if-b-eq39.true)

pub quoted-requires : goal.quoted-requires
quoted-requires c = quote_name _ _ _ (record { spaced = c.past-start.ensures.2; inside = omega arith; wordless = sym c.is_name_start.ensures ∙ c.if-is_name_start.false }) c.if-b-eq39.false c.if-b-eq34.true _ c.past-end-then-b-eq34.ensures.0 c.past-end-then-b-eq34.ensures.1 c.past-end-then-b-eq34.ensures.2

pub sign-requires : goal.sign-requires
sign-requires c = record { starts = (record { spaced = c.past-start.ensures.2; inside = omega arith; wordless = sym c.is_name_start.ensures ∙ c.if-is_name_start.false }); plain = c.if-b-eq39.false; simple = c.if-b-eq34.false }
