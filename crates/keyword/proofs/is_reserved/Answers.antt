-- `keyword::is_reserved` meets its contract: a word that is too short, too long, or unlike every word of its first letter is no reserved one.
use mathlib.Core.Path.{refl, sym, ◌∙◌}
use lib.Dec.{ltb}
use borrow.Author.Tests.{lt-ltb}
use Rattle.prelude.specs.Choice.{some}
use Rattle.keyword.specs.Keywords.{keyword_texts, keywords}
use Rattle.keyword.specs.Reserved.{reserved_words}
use Rattle.keyword.proofs.TableLaws.{other_length}
use Rattle.keyword.proofs.is_reserved.Goals.{then-s-lt2-via-then-s-lt2, then-s-lt2-via-else-s-lt2+then-s-gt-LONGEST}
use Rattle.keyword.proofs.is_reserved.Goals as goal

pub returns-then-s-lt2 : goal.returns-then-s-lt2
unfolding some reserved_words keywords keyword_texts
returns-then-s-lt2 c =
    elim c.then-s-lt2.branch [
      | then-s-lt2-via-then-s-lt2 w ↦ sym (other_length (λ n. ltb n 2) refl _ (lt-ltb _ 2 w.if-s-lt2.true))
      | then-s-lt2-via-else-s-lt2+then-s-gt-LONGEST w ↦ sym (other_length (λ n. ltb 17 n) refl _ (lt-ltb 17 _ w.if-s-gt-LONGEST.true))
    ]

pub returns-else-may_be_reserved : goal.returns-else-may_be_reserved
returns-else-may_be_reserved c = c.if-may_be_reserved.false ∙ sym (c.may_be_reserved.ensures c.if-may_be_reserved.false)
