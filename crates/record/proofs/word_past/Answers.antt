-- `record::word_past` meets its contract: past the end both bytes count as 0.
use mathlib.Core.Path.{sym}
use native.Mathlib.Omega.{arith}
use Rattle.record.proofs.Laws as laws
use Rattle.record.proofs.word_past.Goals as goal

pub returns-else-at-s : goal.returns-else-at-s
returns-else-at-s c = (sym (laws.word-past c.args.s.now _ c.if-at-s.false), omega arith)
