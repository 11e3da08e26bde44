-- `controller_capi::wenduulig_controller_preview_geopackage_sql` meets its contract: what `capi::wenduulig_controller_preview_geopackage_sql` answers.
use mathlib.Core.Path.{◌∙◌}
use mir.Syntax.{w64}
use mir.Val.{SFits}
use mir.Facts.{to_z-of_z}
use Rattle.controller_capi.proofs.wenduulig_controller_preview_geopackage_sql.Goals as goal

pub returns : goal.returns
returns c =
    let fits : SFits w64 c.wenduulig_controller_preview_geopackage_sql.result = record { sfits = c.wenduulig_controller_preview_geopackage_sql.type_inv } in
    to_z-of_z fits ∙ c.wenduulig_controller_preview_geopackage_sql.ensures
