-- The bytes of the array are those of the text, digit by digit.
use Rattle.literal.specs.Literal.{low, clock}
use Rattle.instant.proofs.Clock.text.Goals as goal

pub returns : goal.returns
unfolding clock low
returns c = cc
