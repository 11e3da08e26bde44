-- `keyword::table::reserved_words` meets its contract: one test, computed over the whole table.
use mathlib.Core.Path.{refl}
use borrow.Author.Tests.{leb-true}
use Rattle.prelude.specs.Choice.{some}
use Rattle.keyword.specs.Keywords.{keyword_texts, keywords}
use Rattle.keyword.specs.Reserved.{reserved_words}
use Rattle.keyword.specs.TableWords.{place_in, count_in}
use Rattle.keyword.proofs.TableLaws.{lists}
use Rattle.keyword.proofs.table.reserved_words.Goals as goal

pub returns : goal.returns
unfolding some reserved_words keywords keyword_texts place_in count_in
returns c = lists _ (leb-true 54 _ refl) refl
