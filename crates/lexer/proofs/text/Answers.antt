-- `lexer::text` meets its contract: what `quoted_size` says of the text after the mark.
use Prim.Native.Nat.{◌+◌}
use Rattle.std.proofs.Common.{◌≡◌, ◌∙◌}
use native.Mathlib.Omega.{arith}
use borrow.Author.Tests.{eq-eqb, ne_eqb}
use Rattle.lexer.proofs.TokenLaws.{size_of, text_told}
use Rattle.lexer.proofs.Tests.{taken, passed}
use Rattle.lexer.proofs.text.Goals as goal
use Rattle.lexer.proofs.text.Goals.{then-size-eq0, else-size-eq0}

pub overflow_add-result : goal.overflow_add-result
overflow_add-result c = let z = size_of c.args.s.now (c.args.start + 1) c.quoted_size-size.ensures in omega (arith, c.requires.0.inside, z.1)

pub returns : goal.returns
returns c =
    text_told _ _ _ c.requires.0 c.requires.1 (size_of c.args.s.now (c.args.start + 1) c.quoted_size-size.ensures).0
    (elim c.if-size-eq0.branch [
      | then-size-eq0 w ↦ w.kind-is ∙ taken _ _ _ (eq-eqb _ _ w.if-size-eq0.true)
      | else-size-eq0 w ↦ w.kind-is ∙ passed _ _ _ (ne_eqb _ _ w.if-size-eq0.false)
    ])
