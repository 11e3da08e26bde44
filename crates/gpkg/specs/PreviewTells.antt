-- What a preview tells of writing: document 02, slip 6. The contracts cite `lowering_within`, `lowering` being it at the
-- planner's limits, so one proof over limits and writing serves every call.
use Rattle.std.specs.Prelude.{ℕ, ◌≤◌, ◌<◌, ◌≡◌, List, ◌++◌, length, drop, Result, Ok, Err}
use Rattle.std.proofs.Math.Path.{refl}
use Rattle.std.proofs.Common.{sym, ap, ◌∙◌, arith}
use Rattle.refusal.specs.declared.Refusal.{Refusal}
use Rattle.refusal.specs.declared.Refusal.TheVariants.{BufferTooShort}
use Rattle.literal.specs.declared.Writing.{Writing}
use Rattle.tree.specs.declared.Limits.{Limits}
use Rattle.tree.specs.Tree.{Tree, Settings}
use Rattle.tree.specs.Parse.{Read, refused, got, also}
use Rattle.tree.specs.Accepted.{accepted}
use Rattle.room.specs.RoomLaws.{no_room, has_room, ample}
use Rattle.text.specs.Text.{text}
use Rattle.tree.specs.Written.{leaves}
use Rattle.text.specs.Lowered.{answer, fitted, lowering_within}
use Rattle.text.specs.LoweredLaws.{Given, given, at_room, fitted_got}

-- "the length or the refusal that writing into such a buffer would give": p is what a preview answers, r what writing answers, into `lent`, which it
-- leaves as `left`. A length is that of the text of accepted settings and tree, which then stands before the other bytes as lent; with a refusal all
-- are as lent.
pub record Tells (limits : Limits) (w : Writing) (settings tree : List ℕ) (p r : Result ℕ Refusal) (lent left : List ℕ) : Type 0 where
  pub alike : p ≡ r
  pub length-told : (n : ℕ) → p ≡ Ok n → (x : List ℕ) × (Given limits w settings tree x × ((length x ≡ n) × ((n ≤ length lent) × (left ≡ x ++ drop n lent))))
  pub refusal_told : (e : Refusal) → p ≡ Err e → left ≡ lent

-- Slip 6, for every input: the preview at the size of whatever is lent, by its contract, and the writing call, by its own.
pub preview_tells : (limits : Limits) (w : Writing) (settings tree lent left : List ℕ) (size : ℕ) (p r : Result ℕ Refusal)
    → size ≡ length lent
    → p ≡ answer (lowering_within limits w settings tree size)
    → r ≡ answer (lowering_within limits w settings tree (length lent))
    → left ≡ leaves lent (lowering_within limits w settings tree (length lent))
    → Tells limits w settings tree p r lent left
unfolding answer leaves
preview_tells limits w settings tree lent left size p r s a b c =
    let d : p ≡ answer (lowering_within limits w settings tree (length lent)) = a ∙ ap (λ (k : ℕ). answer (lowering_within limits w settings tree k)) s in
    record {
      alike = d ∙ sym b;
      length-told = λ n e. of_length (lowering_within limits w settings tree (length lent)) n refl (sym e ∙ d) c;
      refusal_told = λ n e. of_refusal (lowering_within limits w settings tree (length lent)) n (sym e ∙ d) c;
    }
  where
    of_length : (l : Read (List ℕ)) (n : ℕ) → lowering_within limits w settings tree (length lent) ≡ l → Ok n ≡ answer l → left ≡ leaves lent l
        → (x : List ℕ) × (Given limits w settings tree x × ((length x ≡ n) × ((n ≤ length lent) × (left ≡ x ++ drop n lent))))
    of_length (refused e) n y q z = absurd (let v : ◌≡◌ {A = ℕ} 0 1 = cc in let u : ⊥ = omega arith in u)
    of_length (got x) n y q z =
        let v : length x ≡ n = cc in
        let g = given limits w settings tree (length lent) x y in
        let f = fitted_got limits.text (length lent) x x (sym (at_room limits w settings tree x (length lent) g) ∙ y) in
        (x, (g, (v, (omega (arith, f.enough), z ∙ ap (λ (k : ℕ). x ++ drop k lent) v))))

    of_refusal : (l : Read (List ℕ)) (n : Refusal) → Err n ≡ answer l → left ≡ leaves lent l → left ≡ lent
    of_refusal (refused e) n q z = z
    of_refusal (got x) n q z = absurd (let v : ◌≡◌ {A = ℕ} 0 1 = cc in let u : ⊥ = omega arith in u)

-- To reserve space. A text that some size has room for is the text at every size that has room for it, and 9 at every other; from the limit of a text
-- on all sizes answer alike.
module _ (limits : Limits) (w : Writing) (settings tree : List ℕ) where
  pub reserved : (size room : ℕ) (x : List ℕ) → lowering_within limits w settings tree size ≡ got x → length x ≤ room → lowering_within limits w settings tree room ≡ got x
  unfolding fitted
  reserved size room x e h = let g = given limits w settings tree size x e in at_room limits w settings tree x room g ∙ has_room refused (got x) limits.text room (length x) g.short h

  pub too_little : (size room : ℕ) (x : List ℕ) → lowering_within limits w settings tree size ≡ got x → room < length x → lowering_within limits w settings tree room ≡ refused BufferTooShort
  unfolding fitted
  too_little size room x e h = let g = given limits w settings tree size x e in at_room limits w settings tree x room g ∙ no_room refused (got x) limits.text room (length x) g.short h

  pub room_enough : (a b : ℕ) → limits.text ≤ a → limits.text ≤ b → lowering_within limits w settings tree a ≡ lowering_within limits w settings tree b
  unfolding lowering_within also fitted
  room_enough a b h k = go (accepted limits settings tree)
    where
      go : (r : Read (Settings × Tree)) → also r (λ p. fitted limits.text a (text w p.0 p.1)) ≡ also r (λ p. fitted limits.text b (text w p.0 p.1))
      go (refused n) = refl
      go (got p) = ample refused (got (text w p.0 p.1)) limits.text a b (length (text w p.0 p.1)) h k
