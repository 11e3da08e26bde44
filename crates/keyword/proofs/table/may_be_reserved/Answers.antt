-- `keyword::table::may_be_reserved` meets its contract: a word whose length or mark its family lacks is no reserved one.
use mathlib.Core.Path.{refl, sym, ap, ◌∙◌}
use lib.ListN.{length}
use Rattle.word.specs.CaseLaws.{upper-length}
use Rattle.keyword.specs.TableWords.{has_bit, mark_of}
use Rattle.keyword.proofs.TableLaws.{ruled_out, mark_any_case}
use Rattle.keyword.proofs.table.may_be_reserved.Goals as goal

pub returns-then-has : goal.returns-then-has
returns-then-has c e =
    ruled_out mark_of _ _ _ c.family_of-family.ensures.1 refl
    (ap (has_bit _) (mark_any_case _ ∙ sym c.mark.ensures.0) ∙ sym c.has-then-has.ensures ∙ e)

pub returns-else-has : goal.returns-else-has
returns-else-has c e =
    ruled_out length _ _ _ c.family_of-family.ensures.0 refl
    (ap (has_bit _) (upper-length c.args.s.now) ∙ sym c.has.ensures ∙ c.if-has.false)
