-- What reducing answers, refusals 2 to 7, then 14, then 9: document 02, slip 8; document 01, "What a caller hears".
use Rattle.std.specs.Prelude.{ℕ, List, Result, Ok, Err, length, ltb}
use Rattle.prelude.specs.Choice.{pick}
use Rattle.refusal.specs.declared.Refusal.{Refusal}
use Rattle.refusal.specs.declared.Refusal.TheVariants.{BufferTooShort}
use Rattle.refusal.specs.Number.{number_of}
use Rattle.tree.specs.Limits.{planner}
use Rattle.tree.specs.Tree.{encode}
use Rattle.tree.specs.Parse.{Read, refused, got, also}
use Rattle.tree.specs.Accepted.{accepted_tree}
use Rattle.tree.specs.Written.{Heard, written, refusal}
use Rattle.reduce.specs.Reduced.{reduced}

-- 9 if the bytes are more than the buffer has, else the bytes
unfoldable pub fitted : ℕ → List ℕ → Read (List ℕ)
fitted room x = pick (ltb room (length x)) (refused BufferTooShort) (got x)

-- the reduced tree of an accepted one, as it is written
unfoldable pub reducing : List ℕ → ℕ → Read (List ℕ)
reducing s room = also (accepted_tree planner s) (λ t. also (reduced t) (λ u. fitted room (encode u)))

-- the answer: the reduced tree's length, or the refusal
unfoldable pub answer : Read (List ℕ) → Result ℕ Refusal
answer (refused n) = Err n
answer (got x) = Ok (length x)

-- what a caller hears of it; of what was decided, and what the buffer is left with: tree/specs/Written.antt
abbrev pub heard : Result ℕ Refusal → Heard
heard (Ok n) = written n
heard (Err n) = refusal (number_of n)
