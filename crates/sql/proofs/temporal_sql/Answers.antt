-- The number of an operator is its own; any other number is no temporal operator's.
use Rattle.std.proofs.Common.{sym, ◌∙◌, ap, ℕ}
use Rattle.op.specs.OpLaws.{of_number}
use Rattle.operand.specs.Ends.{columns}
use Rattle.sql.specs.Template.{template_of}
use Rattle.sql.specs.Translators.{translate}
use Rattle.sql.proofs.Laws.{past_all}
use Rattle.sql.proofs.temporal_sql.Goals as goal

pub returns-in-Some-clause-text : goal.returns-in-Some-clause-text
returns-in-Some-clause-text c =
    let a = c.args in
    c.of_operator.ensures.text
    ∙ ap (λ (n : ℕ). template_of (translate n a.a a.b (columns a.e))) (sym (of_number a.op _ (sym c.op_of.ensures ∙ c.in-Some.is)))

pub returns-in-None-clause-text : goal.returns-in-None-clause-text
returns-in-None-clause-text c = rw (past_all c.args.op (sym c.op_of.ensures ∙ c.in-None.is)) c.t_starts_sql.ensures.text
