-- Texts in any letter case: document 01, "Records" and "Truth".
use Rattle.std.specs.Prelude.{ℕ, ◌-◌, List, map}
use Rattle.prelude.specs.Choice.{pick, between}
use Rattle.prelude.specs.Bytes.{byte}

-- a letter as its capital, any other byte as it is
unfoldable pub upper : ℕ → ℕ
upper b = pick (between (byte "a") b (byte "z")) (b - 32) b

-- a text with its letters as capitals: two texts are equal in any letter case if these are equal
abbrev pub uppers : List ℕ → List ℕ
uppers s = map upper s
