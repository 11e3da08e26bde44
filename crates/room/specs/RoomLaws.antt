-- Laws of specs/Room.antt: when a text may stand; from the limit on more room changes nothing; what is made of the answer may be made of its parts.
use Rattle.std.specs.Prelude.{ℕ, ◌≤◌, ◌<◌, ◌≡◌, Bool, true, false, ltb}
use Rattle.std.proofs.Math.Path.{refl}
use Rattle.std.proofs.Common.{sym, ◌∙◌, arith}
use borrow.Author.Tests.{lt-ltb, le-ltb, ltb-true, ltb-false}
use Rattle.prelude.specs.Choice.{pick}
use Rattle.refusal.specs.declared.Refusal.{Refusal}
use Rattle.refusal.specs.declared.Refusal.TheVariants.{TextTooLong, BufferTooShort}
use Rattle.room.specs.Room.{sized}

module _ {A : Type 0} (refuse : Refusal → A) (stand : A) (limit room n : ℕ) where
  pub too_long : limit < n → sized refuse stand limit room n ≡ refuse TextTooLong
  unfolding sized
  too_long h = simp (lt-ltb limit n h) refl

  pub no_room : n ≤ limit → room < n → sized refuse stand limit room n ≡ refuse BufferTooShort
  unfolding sized
  no_room s h = simp (le-ltb limit n s, lt-ltb room n h) refl

  pub has_room : n ≤ limit → n ≤ room → sized refuse stand limit room n ≡ stand
  unfolding sized
  has_room s h = simp (le-ltb limit n s, le-ltb room n h) refl

pub ample : {A : Type 0} (refuse : Refusal → A) (stand : A) (limit a b n : ℕ) → limit ≤ a → limit ≤ b → sized refuse stand limit a n ≡ sized refuse stand limit b n
ample {A} refuse stand limit a b n h k = go (ltb limit n) refl
  where
    go : (c : Bool) → ltb limit n ≡ c → sized refuse stand limit a n ≡ sized refuse stand limit b n
    go true q = let l : limit < n = ltb-true limit n q in too_long refuse stand limit a n l ∙ sym (too_long refuse stand limit b n l)
    go false q =
        let l : n ≤ limit = ltb-false limit n q in
        has_room refuse stand limit a n l (omega arith) ∙ sym (has_room refuse stand limit b n l (omega arith))

pub made_of : {A B : Type 0} (f : A → B) (refuse : Refusal → A) (stand : A) (limit room n : ℕ)
    → f (sized refuse stand limit room n) ≡ sized (λ (e : Refusal). f (refuse e)) (f stand) limit room n
unfolding sized
made_of {A} {B} f refuse stand limit room n = go (ltb limit n) (ltb room n)
  where
    go : (a b : Bool) → f (pick a (refuse TextTooLong) (pick b (refuse BufferTooShort) stand)) ≡ pick a (f (refuse TextTooLong)) (pick b (f (refuse BufferTooShort)) (f stand))
    go true b = refl
    go false true = refl
    go false false = refl
