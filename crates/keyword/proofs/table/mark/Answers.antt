-- `keyword::table::mark` meets its contract: length and letters are those of the definition.
use mathlib.Core.Path.{refl}
use native.Mathlib.Omega.{arith}
use Rattle.keyword.specs.TableWords.{mark_of}
use Rattle.keyword.proofs.table.mark.Goals as goal

pub returns : goal.returns
unfolding mark_of
returns c = (rw (c.from.ensures, c.from-2.ensures) refl, omega arith)
