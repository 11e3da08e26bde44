-- The bytes of the array are those of the text, digit by digit.
use Rattle.literal.specs.Literal.{low, date}
use Rattle.instant.proofs.Date.text.Goals as goal

pub returns : goal.returns
unfolding date low
returns c = cc
