-- `gpkg::to_geopackage_sql` meets its contract: what `text::lower` answers and leaves at the planner's limits.
use Rattle.gpkg.proofs.to_geopackage_sql.Goals as goal

pub returns : goal.returns
returns c = c.lower.ensures
