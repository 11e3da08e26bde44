-- Laws of specs/Lowered.antt: what is heard of the answer is what was decided; a text that is given fits, and is that of an accepted tree; of such a
-- text the room alone decides.
use Rattle.std.specs.Prelude.{◌≡◌, refl, List, ℕ, ◌≤◌, Bool, true, false, ltb, Result}
use Rattle.std.proofs.Math.Path.{ap}
use Rattle.std.proofs.Common.{◌∙◌, arith, ltb-false}
use Rattle.std.proofs.Math.ListN.{length}
use Rattle.prelude.specs.Choice.{pick}
use Rattle.refusal.specs.declared.Refusal.{Refusal}
use Rattle.refusal.specs.declared.Refusal.TheVariants.{TextTooLong, BufferTooShort}
use Rattle.literal.specs.declared.Writing.{Writing}
use Rattle.tree.specs.declared.Limits.{Limits}
use Rattle.tree.specs.Tree.{Tree, Settings}
use Rattle.tree.specs.Parse.{Read, refused, got, also}
use Rattle.tree.specs.ParseLaws.{also_got, not_got}
use Rattle.tree.specs.Accepted.{accepted}
use Rattle.room.specs.Room.{sized}
use Rattle.text.specs.Text.{text}
use Rattle.tree.specs.Written.{said}
use Rattle.text.specs.Lowered.{answer, fitted, heard, lowering_within}

heard-answer : (x : Read (List ℕ)) → heard (answer x) ≡ said x
unfolding answer
heard-answer (refused n) = refl
heard-answer (got x) = refl

pub heard-said : {r : Result ℕ Refusal} (x : Read (List ℕ)) → r ≡ answer x → heard r ≡ said x
heard-said x e = ap heard e ∙ heard-answer x

-- x is within the limit and the room, and is the y that was given
pub record Fits (limit room : ℕ) (x y : List ℕ) : Type 0 where
  pub is : x ≡ y
  pub short : length x ≤ limit
  pub enough : length x ≤ room

pub fitted_got : (limit room : ℕ) (x y : List ℕ) → fitted limit room x ≡ got y → Fits limit room x y
unfolding fitted sized
fitted_got limit room x y e = go (ltb limit (length x)) (ltb room (length x)) refl refl e
  where
    go : (a b : Bool) → ltb limit (length x) ≡ a → ltb room (length x) ≡ b → pick a (refused TextTooLong) (pick b (refused BufferTooShort) (got x)) ≡ got y → Fits limit room x y
    go true b p q z = not_got TextTooLong y z
    go false true p q z = not_got BufferTooShort y z
    go false false p q z = record { is = cc; short = ltb-false limit (length x) p; enough = ltb-false room (length x) q }

module _ (limits : Limits) (w : Writing) (settings tree : List ℕ) where
  -- x is the text of settings and a tree that are accepted within the limits, and is within them
  pub record Given (x : List ℕ) : Type 0 where
    pub holds : Settings × Tree
    pub read : accepted limits settings tree ≡ got holds
    pub is : text w holds.0 holds.1 ≡ x
    pub short : length x ≤ limits.text

  pub given : (room : ℕ) (x : List ℕ) → lowering_within limits w settings tree room ≡ got x → Given x
  unfolding lowering_within
  given room x e =
      let h = also_got (accepted limits settings tree) (λ p. fitted limits.text room (text w p.0 p.1)) x e in
      let p = h.0 in
      let f = fitted_got limits.text room (text w p.0 p.1) x h.2 in
      record { holds = p; read = h.1; is = f.is; short = omega (arith, ap length f.is, f.short) }

  pub at_room : (x : List ℕ) (room : ℕ) → Given x → lowering_within limits w settings tree room ≡ fitted limits.text room x
  unfolding lowering_within also
  at_room x room g =
      ap (λ (r : Read (Settings × Tree)). also r (λ p. fitted limits.text room (text w p.0 p.1))) g.read
      ∙ ap (fitted limits.text room) g.is
