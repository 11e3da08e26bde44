-- A caller's limits as far as the planner's reach (src/lib.rt).
use Rattle.std.specs.Prelude.{min}
use Rattle.tree.specs.declared.Limits.{Limits}
use Rattle.tree.specs.Limits.{planner}

-- a limit above the planner's counts as the planner's
abbrev pub up_to_planner : Limits → Limits
up_to_planner a = record { tree = min a.tree planner.tree; depth = min a.depth planner.depth; text = min a.text planner.text }
