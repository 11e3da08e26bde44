-- What is left to look at is a list of trees, of which all must be literal.
use mathlib.Core.Path.{◌≡◌}
use Prim.Native.Nat.{◌-◌}
use lib.ListN.{length}
use Rattle.tree.specs.Tree.{Tree, encode}
use Rattle.text.proofs.LiteralLaws.{Left}
use Rattle.text.proofs.records.is_literal.Given as goal

abbrev pub invariant-loop-p : goal.invariant-loop-p
invariant-loop-p l = (t : Tree) → l.s ≡ encode t → Left l.s l.p t

abbrev pub decreases-loop-p : goal.decreases-loop-p
decreases-loop-p l = length l.s - l.p
