-- `record::signed_at` meets its contract: the number of eight bytes, read as signed.
use mathlib.Core.Path.{sym, ap, ◌∙◌, subst}
use lib.IntN.{ℤ}
use mir.Syntax.{w64}
use mir.Val.{SFits}
use mir.Facts.{to_z-of_z}
use Rattle.record.proofs.Laws as laws
use Rattle.record.specs.Record.{signed}
use Rattle.record.proofs.signed_at.Goals as goal

pub returns : goal.returns
returns c = to_z-of_z (subst (λ (z : ℤ). SFits w64 z) (sym c.signed_of.ensures) (laws.signed-fits _ c.qword_at.ensures.1)) ∙ c.signed_of.ensures ∙ ap signed c.qword_at.ensures.0
