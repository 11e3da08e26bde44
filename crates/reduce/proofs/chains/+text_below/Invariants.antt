-- `reduce::chains::text_below` meets its contract, one record at a time; the measure is the length of the record.
use lib.ListN.{length}
use Rattle.reduce.proofs.chains.+text_below.Given as goal

abbrev pub decreases-text_below : goal.decreases-text_below
decreases-text_below l = length l.s.now
