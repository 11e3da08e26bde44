-- `gpkg::to_sql` meets its contract: what `text::lower` answers and leaves at the planner's limits.
use Rattle.gpkg.proofs.to_sql.Goals as goal

pub returns : goal.returns
returns c = c.lower.ensures
