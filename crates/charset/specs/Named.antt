-- A name behind its length byte, as the settings and a Function hold it: document 01, "Records".
use Rattle.std.specs.Prelude.{ℕ, ◌+◌, List, Bool, length, get_or, take, drop, leb}
use Rattle.prelude.specs.Choice.{both}
use Rattle.charset.specs.Charset.{name}

-- the name after the length byte at i, as far as there are bytes; and where it ends
abbrev pub name_at : List ℕ → ℕ → List ℕ
name_at s i = take (get_or s i 0) (drop (i + 1) s)

abbrev pub past : List ℕ → ℕ → ℕ
past s i = i + 1 + get_or s i 0

-- length byte and name at i are whole, and it is a name
unfoldable pub named_at : List ℕ → ℕ → Bool
named_at s i = both (leb (past s i) (length s)) (name (name_at s i))
