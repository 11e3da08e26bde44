-- The six bytes are those of a Null.
use Rattle.reduce.proofs.WriteLaws.{null_written}
use Rattle.reduce.proofs.records.put_null.Goals as goal

pub returns : goal.returns
returns c = null_written _ _ c.put-end.ensures
