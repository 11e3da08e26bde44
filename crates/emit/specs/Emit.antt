-- What writing a text into lent bytes does, the one way in which every writer writes: a text is laid over them from a place on, whole or not at
-- all, and the place after it is counted, up to a cap. Document 01, "What a caller hears": 8 and 9 are decided by a text's length.
use Rattle.std.specs.Prelude.{ℕ, ◌+◌, min, ◌≡◌, List, Bool, length, ltb}
use Rattle.std.proofs.lemmas.List.Edits.{sets}
use Rattle.prelude.specs.Choice.{pick}

-- the cap of the writers: one more than the longest text, so that a longer one can be seen
abbrev pub count_limit : ℕ
count_limit = 65536

-- the place n bytes after `at`
abbrev pub ended : ℕ → ℕ → ℕ → ℕ
ended cap at n = min (at + n) cap

-- n bytes from `at` do not lie within the first `len` bytes, below the cap
abbrev pub lacks : ℕ → ℕ → ℕ → ℕ → Bool
lacks cap len at n = ltb (min len cap) (at + n)

-- `out` with t laid over it from `at`
unfoldable pub placed : ℕ → List ℕ → ℕ → List ℕ → List ℕ
placed cap out at t = pick (lacks cap (length out) at (length t)) out (sets out at t)

-- One write, the contract of every writer of one text: the bytes at exit and the answer.
pub record Puts (cap at : ℕ) (t entry exit : List ℕ) (r : ℕ) : Type 0 where
  pub laid : exit ≡ placed cap entry at t
  pub end : r ≡ ended cap at (length t)
