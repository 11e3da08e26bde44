-- `spelling::to_sql` meets its contract: an operator's number names it.
use Rattle.std.proofs.Common.{ap, ◌∙◌}
use Rattle.op.specs.OpLaws.{number_of}
use Rattle.spelling.specs.Spelling.{numbered, spelling_of}
use Rattle.spelling.proofs.to_sql.Goals as goal

pub returns : goal.returns
returns c = c.of_number.ensures ∙ (ap spelling_of c.op_number.ensures ∙ ap numbered (number_of c.args.op))
