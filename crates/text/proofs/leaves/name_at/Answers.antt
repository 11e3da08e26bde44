-- A part that is cut off at the end of the bytes.
use mathlib.Core.Path.{ap, ◌∙◌}
use Prim.Native.Nat.{ℕ, ◌+◌, ◌-◌, min}
use lib.ListN.{length}
use Rattle.text.proofs.ClipLaws.{clip}
use Rattle.text.proofs.leaves.name_at.Goals as goal

pub returns : goal.returns
returns c = clip _ _ _ _ _ c.min-from.ensures (c.min-to.ensures ∙ ap (λ (k : ℕ). min (c.args.p + 1 + k) (length c.args.set.now)) c.byte_at.ensures.0)
