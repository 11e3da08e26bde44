-- `string::is_valid` meets its contract: a string that is read to its end is valid; of any other the rest tells.
use mathlib.Core.Path.{sym, ap, ◌∙◌}
use native.Mathlib.Omega.{arith}
use Prim.Native.Nat.{ℕ}
use lib.Dec.{eqb}
use borrow.Author.Tests.{eq-eqb}
use Rattle.string.proofs.SequenceLaws.{end-valid, one_tells}
use Rattle.string.proofs.is_valid.Goals as goal

pub returns-then-i-s : goal.returns-then-i-s
returns-then-i-s c = rw (eq-eqb _ _ c.if-i-s.true) (sym (end-valid c.past_simple-i.ensures (omega arith)))

pub returns-else-i-s : goal.returns-else-i-s
returns-else-i-s c = ap (λ (n : ℕ). eqb n 1) c.past_sequences.ensures ∙ one_tells _
