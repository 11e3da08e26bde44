-- The spelling is one write.
use Rattle.emit.specs.EmitLaws.{lays, lays_of}
use Rattle.text.proofs.forms.put_word.Goals as goal

pub returns : goal.returns
returns c = λ o e. lays_of (c.word_of.ensures o e) (lays c.put.ensures)
