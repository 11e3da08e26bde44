-- `lexer::word_kind` meets its contract: each of the reader's own words in turn, then what the name rule leaves to test of a bare word.
use mathlib.Core.Path.{sym, ◌∙◌}
use Rattle.lexer.specs.Lex.{word_kind}
use Rattle.lexer.proofs.Tests.{taken, passed}
use Rattle.lexer.proofs.TokenLaws.{free_name}
use Rattle.lexer.proofs.word_kind.Goals as goal

pub returns-then-is_word : goal.returns-then-is_word
unfolding word_kind
returns-then-is_word c = taken _ _ _ (sym c.is_word.ensures ∙ c.if-is_word.true)

pub returns-then-is_word-2 : goal.returns-then-is_word-2
unfolding word_kind
returns-then-is_word-2 c = taken _ _ _ (sym c.is_word-2.ensures ∙ c.if-is_word-2.true) ∙ passed _ _ _ (sym c.is_word.ensures ∙ c.if-is_word.false)

pub returns-then-is_word-3 : goal.returns-then-is_word-3
unfolding word_kind
returns-then-is_word-3 c = taken _ _ _ (sym c.is_word-3.ensures ∙ c.if-is_word-3.true) ∙ passed _ _ _ (sym c.is_word-2.ensures ∙ c.if-is_word-2.false) ∙ passed _ _ _ (sym c.is_word.ensures ∙ c.if-is_word.false)

pub returns-then-is_word-4 : goal.returns-then-is_word-4
unfolding word_kind
returns-then-is_word-4 c = taken _ _ _ (sym c.is_word-4.ensures ∙ c.if-is_word-4.true) ∙ passed _ _ _ (sym c.is_word-3.ensures ∙ c.if-is_word-3.false) ∙ passed _ _ _ (sym c.is_word-2.ensures ∙ c.if-is_word-2.false) ∙ passed _ _ _ (sym c.is_word.ensures ∙ c.if-is_word.false)

pub returns-then-is_word-5 : goal.returns-then-is_word-5
unfolding word_kind
returns-then-is_word-5 c = taken _ _ _ (sym c.is_word-5.ensures ∙ c.if-is_word-5.true) ∙ passed _ _ _ (sym c.is_word-4.ensures ∙ c.if-is_word-4.false) ∙ passed _ _ _ (sym c.is_word-3.ensures ∙ c.if-is_word-3.false) ∙ passed _ _ _ (sym c.is_word-2.ensures ∙ c.if-is_word-2.false) ∙ passed _ _ _ (sym c.is_word.ensures ∙ c.if-is_word.false)

pub returns-then-is_word-6 : goal.returns-then-is_word-6
unfolding word_kind
returns-then-is_word-6 c = taken _ _ _ (sym c.is_word-6.ensures ∙ c.if-is_word-6.true) ∙ passed _ _ _ (sym c.is_word-5.ensures ∙ c.if-is_word-5.false) ∙ passed _ _ _ (sym c.is_word-4.ensures ∙ c.if-is_word-4.false) ∙ passed _ _ _ (sym c.is_word-3.ensures ∙ c.if-is_word-3.false) ∙ passed _ _ _ (sym c.is_word-2.ensures ∙ c.if-is_word-2.false) ∙ passed _ _ _ (sym c.is_word.ensures ∙ c.if-is_word.false)

pub returns-then-is_word-7 : goal.returns-then-is_word-7
unfolding word_kind
returns-then-is_word-7 c = taken _ _ _ (sym c.is_word-7.ensures ∙ c.if-is_word-7.true) ∙ passed _ _ _ (sym c.is_word-6.ensures ∙ c.if-is_word-6.false) ∙ passed _ _ _ (sym c.is_word-5.ensures ∙ c.if-is_word-5.false) ∙ passed _ _ _ (sym c.is_word-4.ensures ∙ c.if-is_word-4.false) ∙ passed _ _ _ (sym c.is_word-3.ensures ∙ c.if-is_word-3.false) ∙ passed _ _ _ (sym c.is_word-2.ensures ∙ c.if-is_word-2.false) ∙ passed _ _ _ (sym c.is_word.ensures ∙ c.if-is_word.false)

pub returns-then-is_free_word : goal.returns-then-is_free_word
unfolding word_kind
returns-then-is_free_word c = taken _ _ _ (free_name c.requires ∙ sym c.is_free_word.ensures ∙ c.if-is_free_word.true) ∙ passed _ _ _ (sym c.is_word-7.ensures ∙ c.if-is_word-7.false) ∙ passed _ _ _ (sym c.is_word-6.ensures ∙ c.if-is_word-6.false) ∙ passed _ _ _ (sym c.is_word-5.ensures ∙ c.if-is_word-5.false) ∙ passed _ _ _ (sym c.is_word-4.ensures ∙ c.if-is_word-4.false) ∙ passed _ _ _ (sym c.is_word-3.ensures ∙ c.if-is_word-3.false) ∙ passed _ _ _ (sym c.is_word-2.ensures ∙ c.if-is_word-2.false) ∙ passed _ _ _ (sym c.is_word.ensures ∙ c.if-is_word.false)

pub returns : goal.returns
unfolding word_kind
returns c = passed _ _ _ (free_name c.requires ∙ sym c.is_free_word.ensures ∙ c.if-is_free_word.false) ∙ passed _ _ _ (sym c.is_word-7.ensures ∙ c.if-is_word-7.false) ∙ passed _ _ _ (sym c.is_word-6.ensures ∙ c.if-is_word-6.false) ∙ passed _ _ _ (sym c.is_word-5.ensures ∙ c.if-is_word-5.false) ∙ passed _ _ _ (sym c.is_word-4.ensures ∙ c.if-is_word-4.false) ∙ passed _ _ _ (sym c.is_word-3.ensures ∙ c.if-is_word-3.false) ∙ passed _ _ _ (sym c.is_word-2.ensures ∙ c.if-is_word-2.false) ∙ passed _ _ _ (sym c.is_word.ensures ∙ c.if-is_word.false)
