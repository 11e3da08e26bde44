-- The number that a caller in C hears for each answer of document 01, "What a caller hears", as docs/DECISIONS.md assigns them.
use Rattle.std.specs.Prelude.{ℕ, ℤ, pos, neg_ℤ}
use Rattle.tree.specs.Written.{Heard, written, refusal}
use Rattle.truth.specs.Reading as reading

abbrev pub minus : ℕ → ℤ
minus n = neg_ℤ (pos n)

-- of a call that writes a text or a reduced tree: its length, or minus the refusal's number
abbrev pub lowering_number : Heard → ℤ
lowering_number (written n) = pos n
lowering_number (refusal n) = minus n

-- 1, 0, 2, or minus the refusal's number
abbrev pub reading_number : reading.Heard → ℤ
reading_number reading.true = pos 1
reading_number reading.false = pos 0
reading_number reading.unknown = pos 2
reading_number (reading.refusal n) = minus n
