-- The spellings as a table of bytes, for the contract of the table: at n it says where the spelling of the operator with the number n begins, and at
-- n + 1 where it ends. No definition of the papers rests on it.
use Rattle.std.specs.Prelude.{ℕ, ◌+◌, ◌-◌, ◌≡◌, List, leb, ltb, get_or, take, drop, Option, Some, None}
use Rattle.prelude.specs.Choice.{pick}
use Rattle.op.specs.declared.Op.{Op}
use Rattle.op.specs.Op.{op_number}
use Rattle.spelling.specs.Spelling.{spelling}

-- where a number's spelling stands, from a place to a place: nowhere above 52, and nowhere if it ends no later than it begins
unfoldable pub place_in : List ℕ → ℕ → Option (ℕ × ℕ)
place_in table n =
    pick (ltb 52 n) None
    (pick (leb (get_or table (n + 1) 0) (get_or table n 0)) None
    (Some (get_or table n 0, get_or table (n + 1) 0)))

-- the bytes that stand there
unfoldable pub standing : List ℕ → Option (ℕ × ℕ) → Option (List ℕ)
standing table None = None
standing table (Some p) = Some (take (p.1 - p.0) (drop p.0 table))

-- each operator has its spelling in the table
pub record Spells (table : List ℕ) : Type 0 where
  pub right : (o : Op) → standing table (place_in table (op_number o)) ≡ spelling o
