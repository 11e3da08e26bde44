-- `keyword::table::look_up` meets its contract: the words of the length from `at` on, `left` in number, hold the word exactly if it is reserved.
use mathlib.Core.Path.{◌≡◌}
use Prim.Native.Nat.{◌+◌, ◌*◌, ◌≤◌}
use lib.ListN.{length, drop}
use Rattle.prelude.specs.Choice.{some, same}
use Rattle.word.specs.Case.{uppers}
use Rattle.keyword.specs.Reserved.{reserved}
use Rattle.keyword.specs.TableWords.{cut}
use Rattle.keyword.proofs.table.look_up.Given as goal

abbrev pub invariant-loop-left : goal.invariant-loop-left
invariant-loop-left l = (l.at + l.left * length l.s ≤ length l.table) × (some (same (uppers l.s)) (cut l.left (length l.s) (drop l.at l.table)) ≡ reserved l.s)

abbrev pub decreases-loop-left : goal.decreases-loop-left
decreases-loop-left l = l.left
