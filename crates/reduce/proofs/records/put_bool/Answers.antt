-- The seven bytes are those of this Bool.
use Rattle.reduce.proofs.WriteLaws.{bool_written}
use Rattle.reduce.proofs.records.put_bool.Goals as goal

pub returns : goal.returns
returns c = bool_written _ _ c.from.ensures c.put-end.ensures
