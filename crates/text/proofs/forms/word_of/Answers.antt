-- The number is its operator's; what is written is the operator's spelling, and nothing where it has none.
use mathlib.Core.Path.{◌≡◌, refl, ap, ◌∙◌}
use mathlib.Core.List.{List, []}
use Prim.Native.Nat.{ℕ}
use Rattle.std.specs.Prelude.{Option, Some, None, option_map}
use Rattle.std.specs.Option.{unwrap_or}
use Rattle.op.specs.declared.Op.{Op}
use Rattle.op.specs.OpLaws.{number_of}
use Rattle.spelling.specs.Spelling.{spelling, spelling_of, numbered, spelled_as, word}
use Rattle.text.proofs.forms.word_of.Goals as goal

spoken : {A : Type 0} (f : A → List ℕ) (r : Option A) (d : A) (o : Op) → option_map f r ≡ spelling o → f d ≡ [] → f (unwrap_or r d) ≡ word o
unfolding spelled_as
spoken f None d o e z = z ∙ ap spelled_as e
spoken f (Some x) d o e z = ap spelled_as e

pub returns : goal.returns
returns c = λ o e. ap (λ s. s.now) c.unwrap_or.ensures ∙ spoken _ _ _ o (c.of_number.ensures ∙ ap spelling_of e ∙ ap numbered (number_of o)) refl
