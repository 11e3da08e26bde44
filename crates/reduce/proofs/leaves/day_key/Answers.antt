-- The fields that were read are those of the record.
use Rattle.reduce.proofs.LeafLaws.{day_read}
use Rattle.reduce.proofs.leaves.day_key.Goals as goal

pub returns : goal.returns
returns c = day_read c.args.s.now c.word_at.ensures c.byte_at.ensures c.byte_at-2.ensures
