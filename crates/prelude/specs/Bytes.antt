-- Texts as bytes: the list of the codes of a quoted text, so that every other definition can quote what is written.
use Rattle.std.specs.Prelude.{ℕ, zero, suc, ◌+◌, List, [], ◌∷◌}
use Prim.Native.Char.{code}
use Prim.Native.String.{String, len, char_at}

-- n codes of a text, from the place i on
abbrev pub codes : ℕ → ℕ → String → List ℕ
codes zero i s = []
codes (suc n) i s = code (char_at s i) ∷ codes n (i + 1) s

-- the bytes of a text, one for each character (the texts here are ASCII)
abbrev pub bytes : String → List ℕ
bytes s = codes (len s) 0 s

-- the first byte of a text: `byte "A"` is 65
abbrev pub byte : String → ℕ
byte s = code (char_at s 0)

-- Single bytes by name.

abbrev pub space : ℕ
space = byte " "

abbrev pub exclamation : ℕ
exclamation = byte "!"

abbrev pub double_quote : ℕ
double_quote = byte "\""

abbrev pub apostrophe : ℕ
apostrophe = byte "'"

abbrev pub open_bracket : ℕ
open_bracket = byte "("

abbrev pub close_bracket : ℕ
close_bracket = byte ")"

abbrev pub comma : ℕ
comma = byte ","

abbrev pub minus : ℕ
minus = byte "-"

abbrev pub point : ℕ
point = byte "."

abbrev pub slash : ℕ
slash = byte "/"

abbrev pub zero_digit : ℕ
zero_digit = byte "0"

abbrev pub nine_digit : ℕ
nine_digit = byte "9"

abbrev pub colon : ℕ
colon = byte ":"

abbrev pub less : ℕ
less = byte "<"

abbrev pub equals : ℕ
equals = byte "="

abbrev pub greater : ℕ
greater = byte ">"

abbrev pub underscore : ℕ
underscore = byte "_"
