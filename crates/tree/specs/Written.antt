-- What a call that writes bytes into a lent buffer leaves there, and what its caller hears: document 01, "What a caller hears". The bytes are an SQL
-- text (crate text) or a reduced tree (crate reduce).
use Rattle.std.specs.Prelude.{ℕ, List, ◌++◌, length, drop}
use Rattle.refusal.specs.Number.{number_of}
use Rattle.tree.specs.Parse.{Read, refused, got}

-- the buffer: the bytes that were decided and then those as lent, or all as lent
unfoldable pub leaves : List ℕ → Read (List ℕ) → List ℕ
leaves out (refused n) = out
leaves out (got x) = x ++ drop (length x) out

-- What a caller hears, in document 01's terms: so many bytes, or a refusal's number alone.
pub data Heard : Type 0 where
  written : ℕ → Heard
  refusal : ℕ → Heard

-- of what was decided
abbrev pub said : Read (List ℕ) → Heard
said (refused n) = refusal (number_of n)
said (got x) = written (length x)
