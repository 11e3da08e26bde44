-- `capi::wenduulig_controller_to_geopackage_sql` meets its contract: the number of what `controller::to_geopackage_sql` answers, and the buffer as that leaves it.
use native.Mathlib.Omega.{arith}
use Rattle.capi.proofs.Laws.{short_answer, said-back}
use Rattle.capi.proofs.wenduulig_controller_to_geopackage_sql.Goals as goal

pub number-requires : goal.number-requires
number-requires c = short_answer _ _ _ _ _ (omega arith) c.to_geopackage_sql.ensures.says

pub returns : goal.returns
returns c =
    record { says = said-back c.to_geopackage_sql.result c.number.ensures c.to_geopackage_sql.ensures.hears (short_answer _ _ _ _ _ (omega arith) c.to_geopackage_sql.ensures.says); bytes = c.to_geopackage_sql.ensures.bytes }
