-- Where all of it lies in s it is read at once.
use Rattle.record.proofs.word_at.Goals as goal

pub word_in-requires : goal.word_in-requires
word_in-requires c = c.lies.ensures c.if-lies.true
