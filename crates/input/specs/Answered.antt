-- What the programs do with their cases: each is handed over, the bytes of its first part first.
use Rattle.std.specs.Prelude.{ℕ, ◌≡◌, List, [], ◌∷◌, map}
use Rattle.std.specs.List.{All, FoldsTo}
use Rattle.input.specs.Part.{held, AreRead}
use Rattle.input.specs.declared.Part.{Part}

-- the bytes of the parts, in their order
abbrev pub texts : List Part → List (List ℕ)
texts ps = map held ps

module _ {F : Type 0} (call : F → List ℕ → List ℕ → F → Type 0) where
  -- a case is answered by a call at the bytes of its two parts
  abbrev pub AnswersCase : F → List Part → F → Type 0
  AnswersCase f ps g = (x : List ℕ) × (y : List ℕ) × (texts ps ≡ x ∷ y ∷ []) × call f x y g

  -- cases that were read are answered, one after another
  abbrev pub AnswersCases : F → F → Type 0
  AnswersCases f g = (cases : List (List Part)) × All AreRead cases × FoldsTo AnswersCase f cases g
