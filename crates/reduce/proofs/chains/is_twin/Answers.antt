-- `reduce::chains::is_twin` meets its contract, by the operator, the kind below it and the operator there.
use mathlib.Core.Path.{refl, sym, ◌∙◌}
use borrow.Author.Tests.{ne_eqb}
use Rattle.reduce.proofs.ChainLaws.{number_at, twin_none, twin_either, twin_alone, twin-same}
use Rattle.reduce.proofs.chains.is_twin.Goals as goal

pub returns-then-not-folds : goal.returns-then-not-folds
returns-then-not-folds c = λ o t e. twin_none c.args.s.now _ o t e refl _ (number_at c.requires c.op_at.ensures) c.folds.ensures c.if-not-folds.true

pub returns-else-word_at-eq-MONADIC : goal.returns-else-word_at-eq-MONADIC
returns-else-word_at-eq-MONADIC c = λ o t e. ne_eqb _ _ c.if-word_at-eq-MONADIC.false ∙ twin_alone c.args.s.now _ o t e refl _ c.word_at.ensures.0 c.if-word_at-eq-MONADIC.false

pub returns-then-word_at-eq-MONADIC : goal.returns-then-word_at-eq-MONADIC
returns-then-word_at-eq-MONADIC c =
    λ o t e.
    let p = c.word_at-then-word_at-eq-MONADIC-2.ensures.0 in
    let k = twin_either c.args.s.now _ o t e p _ (number_at c.requires c.op_at.ensures ∙ sym p) c.folds.ensures c.if-not-folds.false in
    twin-same c.args.s.now _ o t e p _ _ k.0 k.1 c.word_at.ensures.0 c.if-word_at-eq-MONADIC.true c.word_at-then-word_at-eq-MONADIC.ensures.0
