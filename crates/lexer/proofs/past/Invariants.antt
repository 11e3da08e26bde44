-- `lexer::past` meets its contract: the run from i on ends where the run from `at` on ends.
use mathlib.Core.Path.{◌≡◌}
use Prim.Native.Nat.{◌≤◌, ◌-◌, ◌+◌}
use lib.ListN.{length, drop}
use Rattle.lexer.specs.Lex.{run}
use Rattle.charset.specs.ClassWords.{class_byte}
use Rattle.lexer.proofs.past.Given as goal

abbrev pub invariant-loop-i : goal.invariant-loop-i
invariant-loop-i l = (l.i ≤ length l.s) × (l.at ≤ l.i) × (l.i + run (class_byte l.class) (drop l.i l.s) ≡ l.at + run (class_byte l.class) (drop l.at l.s))

abbrev pub decreases-loop-i : goal.decreases-loop-i
decreases-loop-i l = length l.s - l.i
