-- `lexer::quote_kind` meets its contract: each test that fails makes it Bad.
use mathlib.Core.Path.{sym, ◌∙◌, refl}
use native.Mathlib.Omega.{arith}
use Rattle.lexer.proofs.TokenLaws.{mark_open, mark_none, mark_name, mark_end}
use Rattle.lexer.proofs.quote_kind.Goals as goal
use Rattle.lexer.proofs.quote_kind.Goals.{else-end-s-via-then-end-s+then-s-end-eq34+else-is_name, else-end-s-via-then-end-s+else-s-end-eq34, else-end-s-via-else-end-s}

pub returns-then-is_name : goal.returns-then-is_name
returns-then-is_name c = let i = c.args in (sym (mark_name i.s.now i.start i.end c.requires.0 c.if-s-end-eq34.true (sym c.is_name.ensures ∙ c.if-is_name.true)), λ f. c.if-end-s.true)

pub returns : goal.returns
returns c =
    let i = c.args in (
      sym
          (elim c.else-end-s.branch [
            | else-end-s-via-then-end-s+then-s-end-eq34+else-is_name w ↦
                mark_none i.s.now i.start i.end c.requires.0 w.if-s-end-eq34.true (sym w.is_name.ensures ∙ w.if-is_name.false)
            | else-end-s-via-then-end-s+else-s-end-eq34 w ↦ mark_open i.s.now i.start i.end c.requires.0 w.if-s-end-eq34.false
            | else-end-s-via-else-end-s w ↦ mark_end i.s.now i.start i.end c.requires.0 w.if-end-s.false
          ]),
      λ f. absurd (f refl),
    )
