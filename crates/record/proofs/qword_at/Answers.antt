-- Where all of it lies in s it is read at once; past the end it is 0, and else its halves are read by themselves.
use mathlib.Core.Path.{sym}
use native.Mathlib.Omega.{arith}
use Rattle.record.proofs.Laws as laws
use Rattle.record.proofs.qword_at.Goals as goal

pub qword_in-requires : goal.qword_in-requires
qword_in-requires c = c.lies.ensures c.if-lies.true

pub returns-then-s-at : goal.returns-then-s-at
returns-then-s-at c = (sym (laws.qword_past c.args.s.now _ c.if-s-at.true), omega arith)
