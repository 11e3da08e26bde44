-- `word::is_word` meets its contract: over two lists of one length, the test of each pair is the test of the lists.
use Rattle.std.proofs.Common.{ℕ, ◌≡◌, ◌+◌, eqb, List, [], ◌∷◌, map, length, ◌&&◌, ap, refl, rules, tests, ◌∙◌, arith}
use Rattle.std.specs.List.{zip, list_all}
use Rattle.std.proofs.lemmas.Iterator.{YieldsList-from_slice, YieldsList-from_zip}
use Rattle.std.proofs.lemmas.Iterator.Search.{all_from_yields_List}
use Rattle.prelude.specs.Choice.{same}
use Rattle.word.specs.Case.{upper, uppers}
use Rattle.word.proofs.is_word.Goals as goal

pairs : (a w : List ℕ) → length a ≡ length w → list_all (λ p. eqb (upper p.0) p.1) (zip a w) ≡ same (uppers a) w
pairs [] [] e = refl
pairs [] (y ∷ w) e = absurd (omega arith)
pairs (x ∷ a) [] e = absurd (omega arith)
pairs (x ∷ a) (y ∷ w) e = ap (λ t. eqb (upper x) y && t) (pairs a w (omega arith))

pub returns-then-a-w : goal.returns-then-a-w
returns-then-a-w c =
    all_from_yields_List (λ p. eqb (upper p.0) p.1) c.all.new.self _ _ c.all.ensures.ran (YieldsList-from_zip (YieldsList-from_slice c.args.a.now cc) (YieldsList-from_slice c.args.w.now cc)) (λ x b q k. search (rules, tests))
    ∙ pairs _ _ c.if-a-w.true
