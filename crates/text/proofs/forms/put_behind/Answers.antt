-- Each branch is a case of the definition.
use Rattle.emit.specs.EmitLaws.{lays, lays_of, lays_then}
use Rattle.literal.specs.Literal.{collate}
use mathlib.Core.Path.{sym, ◌∙◌}
use Rattle.spelling.specs.Spelling.{word}
use Rattle.tree.specs.Accepted.{settings_in}
use Rattle.text.proofs.NodeLaws.{behind_nullable, behind_sign, behind_collate}
use Rattle.text.proofs.forms.put_behind.Goals as goal

pub returns-then-is_nullable : goal.returns-then-is_nullable
returns-then-is_nullable c = λ o e. lays_of (behind_nullable c.args.op (word o) c.args.bare (settings_in c.args.set.now) c.args.twin (sym c.is_nullable.ensures ∙ c.if-is_nullable.true)) (lays_then (lays c.put_either-word.ensures) (c.put_word.ensures o e))

pub returns-then-is_sign : goal.returns-then-is_sign
returns-then-is_sign c = λ o e. lays_of (behind_sign c.args.op (word o) c.args.bare (settings_in c.args.set.now) c.args.twin (sym c.is_nullable.ensures ∙ c.if-is_nullable.false) (sym c.is_sign.ensures ∙ c.if-is_sign.true)) (lays c.put_either.ensures)

pub returns : goal.returns
unfolding collate
returns c = λ o e. lays_of (behind_collate c.args.op (word o) c.args.bare (settings_in c.args.set.now) c.args.twin (sym c.is_nullable.ensures ∙ c.if-is_nullable.false) (sym c.is_sign.ensures ∙ c.if-is_sign.false) c.collation_flags.result c.collation_flags.ensures) (lays_then (lays c.put-name.ensures) (lays_of c.name_of.ensures (lays c.put.ensures)))
