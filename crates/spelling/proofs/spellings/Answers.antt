-- `spelling::spellings` meets its contract: one test, computed over the whole table.
use Rattle.spelling.specs.SpellingTable.{place_in, standing}
use Rattle.spelling.specs.SpellingLaws.{spells}
use Rattle.spelling.proofs.spellings.Goals as goal

pub returns : goal.returns
unfolding place_in standing
returns c = spells _ tt
