-- `capi::wenduulig_controller_to_sql` meets its contract: the number of what `controller::to_sql` answers, and the buffer as that leaves it.
use native.Mathlib.Omega.{arith}
use Rattle.capi.proofs.Laws.{short_answer, said-back}
use Rattle.capi.proofs.wenduulig_controller_to_sql.Goals as goal

pub number-requires : goal.number-requires
number-requires c = short_answer _ _ _ _ _ (omega arith) c.to_sql.ensures.says

pub returns : goal.returns
returns c =
    record { says = said-back c.to_sql.result c.number.ensures c.to_sql.ensures.hears (short_answer _ _ _ _ _ (omega arith) c.to_sql.ensures.says); bytes = c.to_sql.ensures.bytes }
