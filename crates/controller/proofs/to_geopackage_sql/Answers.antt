-- `controller::to_geopackage_sql` meets its contract: what `text::lower` answers and leaves at the controller's limits.
use Rattle.controller.proofs.to_geopackage_sql.Goals as goal

pub returns : goal.returns
returns c = c.lower.ensures
