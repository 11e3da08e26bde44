-- What several writes do together (the word of the private contracts of all that writes more than one text): t is laid over `entry` from `at`
-- where it has room, and its end is counted. Where it has no room the bytes are free, and only their number is kept.
use Rattle.std.specs.Prelude.{ℕ, ◌+◌, ◌≤◌, ◌≡◌, List, length}
use Rattle.std.proofs.lemmas.List.Edits.{sets}
use Rattle.emit.specs.Emit.{ended}

pub record Lays (cap at : ℕ) (t entry exit : List ℕ) (r : ℕ) : Type 0 where
  pub place : r ≡ ended cap at (length t)
  pub kept : length exit ≡ length entry
  pub laid : at + length t ≤ length entry → at + length t ≤ cap → exit ≡ sets entry at t
