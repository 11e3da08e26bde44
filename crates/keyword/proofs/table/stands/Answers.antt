-- `keyword::table::stands` meets its contract: another first letter is another word, and else the words are compared.
use mathlib.Core.Path.{sym, ap, ◌∙◌}
use native.Mathlib.Omega.{arith}
use lib.ListN.{length}
use Rattle.prelude.specs.Choice.{same}
use Rattle.word.specs.Case.{uppers}
use Rattle.keyword.proofs.TableLaws.{part, other_first}
use Rattle.keyword.proofs.table.stands.Goals as goal

pub returns-then-table-at : goal.returns-then-table-at
returns-then-table-at c =
    let a = c.args in
    sym (other_first a.s.now a.table.now a.at c.requires.1 (omega arith) (λ e. c.if-table-at.true (e ∙ sym c.requires.2)))

pub returns : goal.returns
returns c =
    let a = c.args in
    c.is_word.ensures ∙ ap (same (uppers a.s.now)) (part a.at (length a.s.now) a.table.now)
