-- Cases that are answered one after another.
use Rattle.std.proofs.Common.{ℕ, zero, suc, ◌≡◌, refl, List, [], ◌∷◌, Result, Ok, Err, OnOk, arith}
use Rattle.std.specs.List.{All}
use Rattle.input.specs.Part.{AreRead}
use Rattle.input.specs.Answered.{texts, AnswersCases}
use Rattle.input.specs.declared.Part.{Part}

front : {X : Type 0} (P : X → Type 0) (x : X) (xs : List X) → P x → All P xs → All P (x ∷ xs)
front P x xs p all zero d h = p
front P x xs p all (suc k) d h = all k d (omega (arith, h))

-- what holds in any case holds where it ends well
pub anyway : {T E P : Type 0} (r : Result T E) → P → OnOk r P
anyway (Ok t) p = p
anyway (Err e) p = tt

module _ {F : Type 0} (call : F → List ℕ → List ℕ → F → Type 0) where
  -- none so far
  pub none_yet : (f : F) → AnswersCases call f f
  none_yet f = ([], λ k d h. absurd (omega (arith, h)), refl)

  -- one more, before the others
  pub one_answered : (f g : F) (ps : List Part) (x y : List ℕ) → AreRead ps → texts ps ≡ x ∷ y ∷ [] → call f x y g → (last : F) → AnswersCases call g last → AnswersCases call f last
  one_answered f g ps x y read e made last more = (ps ∷ more.0, front AreRead ps more.0 read more.1, (g, (x, y, e, made), more.2))
