-- `number::shorten` meets its contract: each turn drops one closing zero, which keeps the text.
use mathlib.Core.Path.{◌≡◌}
use Prim.Native.Nat.{◌<◌}
use Rattle.literal.specs.Literal.{plain}
use Rattle.number.proofs.shorten.Given as goal

abbrev pub invariant-loop-s : goal.invariant-loop-s
invariant-loop-s l = (plain l.m l.s ≡ plain l.n l.scale) × (l.s < 256)

abbrev pub decreases-loop-s : goal.decreases-loop-s
decreases-loop-s l = l.s
