-- What lowering answers, refusals 1 to 9 in order: document 01, "What a caller hears"; by the
-- writing, by the size of a buffer alone, and by the caller's limits: document 02, slips 4, 6 and 7.
use Rattle.std.specs.Prelude.{ℕ, List, length, Result, Ok, Err}
use Rattle.refusal.specs.declared.Refusal.{Refusal}
use Rattle.refusal.specs.Number.{number_of}
use Rattle.literal.specs.declared.Writing.{Writing}
use Rattle.tree.specs.Parse.{Read, refused, got, also}
use Rattle.tree.specs.Accepted.{accepted}
pub use Rattle.tree.specs.Written.{leaves, Heard, written, refusal, said}
use Rattle.tree.specs.declared.Limits.{Limits}
use Rattle.tree.specs.Limits.{planner}
use Rattle.room.specs.Room.{sized}
use Rattle.text.specs.Text.{text}

-- 8 if the text is longer than the limit, 9 if it is longer than the buffer, whose bytes are `room`, else the text
unfoldable pub fitted : ℕ → ℕ → List ℕ → Read (List ℕ)
fitted limit room x = sized refused (got x) limit room (length x)

-- the text of settings and a tree that are accepted within the caller's limits, by the writing of the call
unfoldable pub lowering_within : Limits → Writing → List ℕ → List ℕ → ℕ → Read (List ℕ)
lowering_within limits w settings tree room = also (accepted limits settings tree) (λ p. fitted limits.text room (text w p.0 p.1))

-- for the planner
abbrev pub lowering : Writing → List ℕ → List ℕ → ℕ → Read (List ℕ)
lowering = lowering_within planner

-- the answer: a text's length, or the refusal
unfoldable pub answer : Read (List ℕ) → Result ℕ Refusal
answer (refused n) = Err n
answer (got x) = Ok (length x)

-- what a caller hears of it; of what was decided, and what the buffer is left with: tree/specs/Written.antt
abbrev pub heard : Result ℕ Refusal → Heard
heard (Ok n) = written n
heard (Err n) = refusal (number_of n)
