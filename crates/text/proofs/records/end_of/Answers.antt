-- By the length field: it ends where that says, and where that would pass the end no record stands.
use mathlib.Core.Path.{refl}
use Rattle.record.specs.Record.{le32}
use native.Mathlib.Omega.{arith}
use Rattle.text.proofs.RecordLaws.{end_short, end_over, end_exact}
use Rattle.text.proofs.records.end_of.Goals as goal

pub returns-then-left-lt-KIND : goal.returns-then-left-lt-KIND
returns-then-left-lt-KIND c = end_short _ _ (le32 c.args.s.now c.args.p) refl c.requires.0 c.requires.1 (omega arith)

pub returns-then-left-n : goal.returns-then-left-n
returns-then-left-n c = end_over _ _ c.dword_at-n.result c.dword_at-n.ensures.0 c.requires.0 c.requires.1 (omega arith)

pub returns : goal.returns
returns c = end_exact _ _ c.dword_at-n.result c.dword_at-n.ensures.0 c.requires.0 c.requires.1 (omega arith) (omega arith)
