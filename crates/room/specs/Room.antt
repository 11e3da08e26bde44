-- Refusals 8 and 9, of the length of a text: document 01, "What a caller hears".
use Rattle.std.specs.Prelude.{ℕ, ltb}
use Rattle.prelude.specs.Choice.{pick}
use Rattle.refusal.specs.declared.Refusal.{Refusal}
use Rattle.refusal.specs.declared.Refusal.TheVariants.{TextTooLong, BufferTooShort}

-- 8 if a text of n bytes is longer than the limit, 9 if it is longer than the buffer, whose bytes are `room`; else it may stand as it is
unfoldable pub sized : {A : Type 0} → (Refusal → A) → A → ℕ → ℕ → ℕ → A
sized refuse stand limit room n =
    pick (ltb limit n) (refuse TextTooLong)
    (pick (ltb room n) (refuse BufferTooShort) stand)
