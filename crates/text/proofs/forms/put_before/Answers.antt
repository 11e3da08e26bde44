-- Each branch is a case of the definition.
use mathlib.Core.Path.{sym, ◌∙◌}
use Rattle.emit.specs.EmitLaws.{lays, lays_none, lays_of, lays_then}
use Rattle.spelling.specs.Spelling.{word}
use Rattle.text.proofs.NodeLaws.{before_nullable, before_sign, before_none}
use Rattle.text.proofs.forms.put_before.Goals as goal

pub returns-then-is_nullable : goal.returns-then-is_nullable
returns-then-is_nullable c = λ o e. lays_of (before_nullable c.args.op (word o) c.args.bare (sym c.is_nullable.ensures ∙ c.if-is_nullable.true)) (lays c.put_either.ensures)

pub returns-then-is_sign : goal.returns-then-is_sign
returns-then-is_sign c = λ o e. lays_of (before_sign c.args.op (word o) c.args.bare (sym c.is_nullable.ensures ∙ c.if-is_nullable.false) (sym c.is_sign.ensures ∙ c.if-is_sign.true)) (lays_then (c.put_word-word.ensures o e) (lays c.put_either-then-is_sign.ensures))

pub returns : goal.returns
returns c = λ o e. lays_of (before_none c.args.op (word o) c.args.bare (sym c.is_nullable.ensures ∙ c.if-is_nullable.false) (sym c.is_sign.ensures ∙ c.if-is_sign.false)) (lays_none c.ended.ensures)
