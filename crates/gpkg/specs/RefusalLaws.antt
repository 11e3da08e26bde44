-- Which refusals a call can give: of lowering 1 to 9, and 1 to 8 at every size from the limit of a text on (document 01, "What a caller hears").
use Rattle.std.specs.Prelude.{ℕ, ◌≤◌, ◌≡◌, Bool}
use Rattle.std.proofs.Math.Path.{refl, ap}
use Rattle.std.proofs.Math.Bool.{true, false}
use mathlib.Core.List.{List, [], ◌∷◌, ◌++◌}
use Rattle.std.proofs.Common.{arith}
use Rattle.std.proofs.Math.ListN.{length}
use Rattle.std.proofs.Math.Dec.{ltb}
use borrow.Author.Tests.{ltb-true, ltb-false}
use Rattle.refusal.specs.declared.Refusal.{Refusal}
use Rattle.refusal.specs.declared.Refusal.TheVariants.{TextTooLong, BufferTooShort}
use Rattle.literal.specs.declared.Writing.{Writing}
use Rattle.tree.specs.declared.Limits.{Limits}
use Rattle.tree.specs.Parse.{refused, got}
use Rattle.tree.specs.Accepted.{accepted}
use Rattle.tree.specs.LimitLaws.{is_of}
pub use Rattle.tree.specs.RefusalLaws.{early, accepted_refuses}
use Rattle.tree.specs.RefusalLaws.{gives, also-gives, pick_gives, later, accepted-gives, refuses}
use Rattle.text.specs.Text.{text}
use Rattle.text.specs.Lowered.{fitted, lowering_within}
use Rattle.room.specs.Room.{sized}
use Rattle.room.specs.RoomLaws.{too_long, has_room}

module _ (limits : Limits) (w : Writing) (settings tree : List ℕ) (room : ℕ) (n : Refusal) where
  lowering-gives : (more : List Refusal) → ((x : List ℕ) → gives (early ++ more) (fitted limits.text room x) ≡ true) → gives (early ++ more) (lowering_within limits w settings tree room) ≡ true
  unfolding lowering_within
  lowering-gives more f =
      also-gives
      (early ++ more)
      (accepted limits settings tree)
      (λ p. fitted limits.text room (text w p.0 p.1))
      (later early more (accepted limits settings tree) (accepted-gives limits settings tree))
      (λ p. f (text w p.0 p.1))

  -- What a writing call or a preview refuses is one of 1 to 9.
  pub lowering_refuses : lowering_within limits w settings tree room ≡ refused n → is_of (early ++ (TextTooLong ∷ BufferTooShort ∷ [])) n ≡ true
  unfolding fitted sized
  lowering_refuses z =
      refuses
      (early ++ (TextTooLong ∷ BufferTooShort ∷ []))
      (lowering-gives
      (TextTooLong ∷ BufferTooShort ∷ [])
      (λ x. pick_gives (early ++ (TextTooLong ∷ BufferTooShort ∷ [])) (ltb limits.text (length x)) (refused TextTooLong) _ refl (pick_gives (early ++ (TextTooLong ∷ BufferTooShort ∷ [])) (ltb room (length x)) (refused BufferTooShort) (got x) refl refl)))
      z

  -- From the caller's limit of a text on it is one of 1 to 8.
  pub ample_refuses : limits.text ≤ room → lowering_within limits w settings tree room ≡ refused n → is_of (early ++ (TextTooLong ∷ [])) n ≡ true
  unfolding fitted
  ample_refuses h z = refuses (early ++ (TextTooLong ∷ [])) (lowering-gives (TextTooLong ∷ []) (λ x. go x (ltb limits.text (length x)) refl)) z
    where
      go : (x : List ℕ) (b : Bool) → ltb limits.text (length x) ≡ b → gives (early ++ (TextTooLong ∷ [])) (fitted limits.text room x) ≡ true
      go x true q =
          ap (gives (early ++ (TextTooLong ∷ []))) (too_long refused (got x) limits.text room (length x) (ltb-true limits.text (length x) q))
      go x false q =
          let l : length x ≤ limits.text = ltb-false limits.text (length x) q in
          ap (gives (early ++ (TextTooLong ∷ []))) (has_room refused (got x) limits.text room (length x) l (omega arith))
