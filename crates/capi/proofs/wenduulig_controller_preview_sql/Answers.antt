-- `capi::wenduulig_controller_preview_sql` meets its contract: the number of what `controller::preview` answers.
use native.Mathlib.Omega.{arith}
use Rattle.capi.proofs.Laws.{short_answer, said-back}
use Rattle.capi.proofs.wenduulig_controller_preview_sql.Goals as goal

pub number-requires : goal.number-requires
number-requires c = short_answer _ _ _ _ _ (omega arith) c.preview.ensures.says

pub returns : goal.returns
returns c =
    said-back c.preview.result c.number.ensures c.preview.ensures.hears (short_answer _ _ _ _ _ (omega arith) c.preview.ensures.says)
