-- `record::dword_past` meets its contract: where the upper word lies past the end, the lower is all.
use mathlib.Core.Path.{sym, ◌∙◌}
use native.Mathlib.Omega.{arith}
use Rattle.record.proofs.Laws as laws
use Rattle.record.proofs.dword_past.Goals as goal

pub returns-then-s-lt2 : goal.returns-then-s-lt2
returns-then-s-lt2 c = (c.word_past.ensures.0 ∙ sym (laws.dword_past c.args.s.now c.args.at (omega arith)), omega arith)

pub returns-then-s-at : goal.returns-then-s-at
returns-then-s-at c = (c.word_past-then-s-at.ensures.0 ∙ sym (laws.dword_past c.args.s.now c.args.at (omega arith)), omega arith)
