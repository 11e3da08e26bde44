-- Which bytes may stand in a name and in a Spatial text: document 01, "Records". The settings, trees, rows and SQL texts all keep to these rules.
use Rattle.std.specs.Prelude.{ℕ, List, Bool, length, get_or, leb, eqb}
use Rattle.prelude.specs.Choice.{both, either, negated, between, all}
use Rattle.prelude.specs.Bytes.{byte, space, open_bracket, close_bracket, comma, point, underscore}
use Rattle.keyword.specs.Reserved.{reserved}

-- A to Z and a to z
unfoldable pub letter : ℕ → Bool
letter b = either (between (byte "A") b (byte "Z")) (between (byte "a") b (byte "z"))

unfoldable pub digit : ℕ → Bool
digit b = between (byte "0") b (byte "9")

-- a name begins with a letter or an underscore
unfoldable pub name_start : ℕ → Bool
name_start b = either (letter b) (eqb b underscore)

-- and goes on with letters, digits, underscores
unfoldable pub name_byte : ℕ → Bool
name_byte b = either (name_start b) (digit b)

-- the most bytes of a name
abbrev pub name_limit : ℕ
name_limit = 64

-- what a word must be besides, to be a name: at most 64 bytes, and not reserved
abbrev pub free_word : List ℕ → Bool
free_word s = both (leb (length s) name_limit) (negated (reserved s))

-- a name: 1 to 64 bytes, a letter or underscore and then letters, digits, underscores, and no reserved word
unfoldable pub name : List ℕ → Bool
name s =
    both (between 1 (length s) name_limit)
    (both (name_start (get_or s 0 0))
    (both (all name_byte s) (negated (reserved s))))

-- a byte of a Spatial text: letters, digits, space, comma, parentheses, minus, point
unfoldable pub spatial_byte : ℕ → Bool
spatial_byte b =
    either (letter b)
    (either (digit b)
    (either (eqb b space)
    (either (between open_bracket b close_bracket) (between comma b point))))

abbrev pub spatial_text : List ℕ → Bool
spatial_text s = all spatial_byte s
