-- The fields that were read are those of the record.
use Rattle.reduce.proofs.LeafLaws.{second_read}
use Rattle.reduce.proofs.leaves.second_key.Goals as goal

pub returns : goal.returns
returns c = second_read c.args.s.now c.day_key.ensures.0 c.byte_at.ensures.0 c.byte_at-2.ensures.0 c.byte_at-3.ensures.0
