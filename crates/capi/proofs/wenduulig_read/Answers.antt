-- `capi::wenduulig_read` meets its contract: the number of what `truth::read` answers.
-- the number of the answer that the code found, of which is heard what the definition says
use mathlib.Core.Path.{◌≡◌, sym, ap, ◌∙◌}
use Rattle.truth.specs.Reading.{Reading, says_true, says_false, says_unknown, Heard, heard}
use Rattle.capi.specs.Numbers.{reading_number}
use Rattle.capi.proofs.Laws.{back32}
use Rattle.capi.proofs.wenduulig_read.Goals as goal

numbered : {found case : Reading} {said : Heard} → heard found ≡ said → found ≡ case → reading_number (heard case) ≡ reading_number said
numbered e f = ap (λ (r : Reading). reading_number (heard r)) (sym f) ∙ ap reading_number e

pub returns-in-Ok-Some-true : goal.returns-in-Ok-Some-true
returns-in-Ok-Some-true c = numbered {case = says_true} c.read.ensures.hears (cc)

pub returns-in-Ok-Some-false : goal.returns-in-Ok-Some-false
returns-in-Ok-Some-false c = numbered {case = says_false} c.read.ensures.hears (cc)

pub returns-in-Ok-None : goal.returns-in-Ok-None
returns-in-Ok-None c = numbered {case = says_unknown} c.read.ensures.hears (cc)

pub returns-in-Err : goal.returns-in-Err
returns-in-Err c =
    back32 c.negative.ensures.0 c.negative.ensures.1 ∙ numbered c.read.ensures.hears c.in-Err.is
