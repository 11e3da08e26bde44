-- `keyword::table::place` meets its contract: the two bytes are those of the definition.
use native.Mathlib.Omega.{arith}
use Rattle.keyword.specs.TableWords.{place_in}
use Rattle.keyword.proofs.table.place.Goals as goal

pub returns : goal.returns
unfolding place_in
returns c = omega arith
