-- Any other operator has the condition of TStarts.
use Rattle.sql.proofs.Laws.{others}
use Rattle.sql.proofs.of_operator.Goals as goal

pub returns-in_default-clause-text : goal.returns-in_default-clause-text
returns-in_default-clause-text c = rw (others c.args.op c.in_default.not-TAfter c.in_default.not-TBefore c.in_default.not-TContains c.in_default.not-TDisjoint c.in_default.not-TDuring c.in_default.not-TEquals c.in_default.not-TFinishedBy c.in_default.not-TFinishes c.in_default.not-TIntersects c.in_default.not-TMeets c.in_default.not-TMetBy c.in_default.not-TOverlappedBy c.in_default.not-TOverlaps c.in_default.not-TStartedBy) c.t_starts_sql.ensures.text
