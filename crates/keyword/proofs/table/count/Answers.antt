-- `keyword::table::count` meets its contract: the byte is that of the definition.
use native.Mathlib.Omega.{arith}
use Rattle.keyword.specs.TableWords.{count_in}
use Rattle.keyword.proofs.table.count.Goals as goal

pub returns : goal.returns
unfolding count_in
returns c = omega arith
