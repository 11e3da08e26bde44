-- Whether the end is a column says whether the base is guarded.
use Rattle.std.proofs.Common.{sym, ap, ◌∙◌, rules}
use Rattle.sql.specs.Template.{check_id_text, spelt}
use Rattle.sql.proofs.check_id.Goals as goal

pub returns-then-is_column : goal.returns-then-is_column
unfolding check_id_text
returns-then-is_column c = rw (sym c.is_column.ensures ∙ c.if-is_column.true) c.guarded.ensures

pub returns-else-is_column : goal.returns-else-is_column
unfolding check_id_text
returns-else-is_column c = rw (sym c.is_column.ensures ∙ c.if-is_column.false) (record { text = ap spelt c.sql.ensures.items; len = rw c.sql.ensures.len (search (rules, c.well_formed)) })
