-- The three texts that are put one after the other are the text in quotes.
use Rattle.literal.specs.Literal.{quoted}
use Rattle.literal.proofs.put_quoted.Goals as goal

pub returns : goal.returns
unfolding quoted
returns c = c.put_all.ensures
