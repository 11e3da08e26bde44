-- The ends have no words, and neither has a blank part.
use Rattle.std.proofs.Common.{◌≡◌, sym, ap, []}
use mathlib.Core.Logic.{◌⊎◌, inl, inr}
use Rattle.sql.specs.declared.Part.{Part}
use Rattle.sql.specs.declared.Part.TheVariants.{E0, E1, E2, E3, Blank}
use Rattle.sql.specs.Template.{words_of, part_of}

pub no_words : {p : Part} → (p ≡ E0) ⊎ ((p ≡ E1) ⊎ ((p ≡ E2) ⊎ ((p ≡ E3) ⊎ (p ≡ Blank)))) → [] ≡ words_of p
unfolding words_of part_of
no_words (inl e) = sym (ap words_of e)
no_words (inr (inl e)) = sym (ap words_of e)
no_words (inr (inr (inl e))) = sym (ap words_of e)
no_words (inr (inr (inr (inl e)))) = sym (ap words_of e)
no_words (inr (inr (inr (inr e)))) = sym (ap words_of e)
