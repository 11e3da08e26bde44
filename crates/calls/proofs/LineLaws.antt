-- The pieces of a line, written one after the other, or put together first.
use Rattle.std.proofs.Common.{ℕ, ◌≡◌, ◌∙◌, List, [], ◌∷◌, ◌++◌, Option, Result, Ok, Err, OnOk, ap, sym, subst, append-nil, append_assoc}
use Rattle.std.specs.List.{FoldsTo, concat}
use Rattle.std.specs.Fmt.{WritesInCalls}
use Rattle.std.specs.Fmt.InlineText.{inline_text, IsIntact, AppendsIfIntact}
use Rattle.std.specs.declared.fmt.InlineText.{InlineText}
use Rattle.std.proofs.KnownBytes.{Appends-trans}
use Rattle.std.specs.Io.KnownBytes.{Appends}

pub two_pieces : {T E : Type 0} (r : Result T E) (a b c : Option (List ℕ)) (x y : List ℕ) → Appends a b x → OnOk r (Appends b c y) → OnOk r (Appends a c (x ++ y))
two_pieces (Ok n) a b c x y p q = Appends-trans a b c x y p q
two_pieces (Err e) a b c x y p q = tt

-- pieces of a text that is built in place
module _ {n : ℕ} where
  built : (s : InlineText n) (parts : List (List ℕ)) (t : InlineText n) → FoldsTo AppendsIfIntact s parts t → AppendsIfIntact s (concat parts) t
  built s [] t e intact = subst (λ v. IsIntact v × (inline_text v ≡ inline_text s ++ [])) e (intact, sym (append-nil (inline_text s)))
  built s (part ∷ parts) t (v, h, k) intact =
      let first = h intact in
      let rest = built v parts t k first.0 in
      (rest.0, rest.1 ∙ ap (λ l. l ++ concat parts) first.1 ∙ append_assoc (inline_text s) part (concat parts))

  pub text_built : (s : InlineText n) (bs : List ℕ) (t : InlineText n) → WritesInCalls AppendsIfIntact s bs t → AppendsIfIntact s bs t
  text_built s bs t w = subst (λ l. AppendsIfIntact s l t) w.whole (built s w.parts t w.calls)
