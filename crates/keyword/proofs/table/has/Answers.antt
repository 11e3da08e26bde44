-- `keyword::table::has` meets its contract: the bit is read as the definition reads it.
use mathlib.Core.Path.{refl}
use Rattle.keyword.specs.TableWords.{has_bit}
use Rattle.keyword.proofs.table.has.Goals as goal

pub returns : goal.returns
unfolding has_bit
returns c = refl
