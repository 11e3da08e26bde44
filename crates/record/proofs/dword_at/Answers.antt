-- Where all of it lies in s it is read at once.
use Rattle.record.proofs.dword_at.Goals as goal

pub dword_in-requires : goal.dword_in-requires
dword_in-requires c = c.lies.ensures c.if-lies.true
