-- `input::read_case` meets its contract: the parts before the one that is due were read.
use Rattle.std.proofs.Common.{ℕ, ◌<◌, ◌≡◌, length, slice_index_or}
use Rattle.input.specs.Part.{IsRead}
use Rattle.input.specs.declared.Part.{Part}
use Rattle.input.proofs.read_case.Given as goal

abbrev pub invariant-loop-i : goal.invariant-loop-i
invariant-loop-i g l = (length l.parts ≡ length l.initial.parts) × ((k : ℕ) (d : Part) → k < l.i → IsRead (slice_index_or l.parts k d))
