-- `input::pass` ends: each turn reads at least a byte of those that are left; and it counts no more than n.
use Rattle.std.proofs.Common.{◌≡◌, ◌≤◌, length}
use Rattle.input.proofs.pass.Given as goal

abbrev pub invariant-loop-buffer : goal.invariant-loop-buffer
invariant-loop-buffer g l = (length l.buffer ≡ length l.initial.buffer) × (l.left ≤ l.n)

abbrev pub decreases-loop-buffer : goal.decreases-loop-buffer
decreases-loop-buffer g l = l.left
