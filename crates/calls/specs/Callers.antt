-- Whose limits a call goes by: the planner's (document 01) or those of the camera's controller (document 02, slip 7).
use Rattle.tree.specs.declared.Limits.{Limits}
use Rattle.tree.specs.Limits.{planner}
use Rattle.controller.specs.Controller.{controller}
use Rattle.calls.specs.declared.Caller.{Caller}
use Rattle.calls.specs.declared.Caller.TheVariants.{Planner, Controller}

abbrev pub limits_of : Caller → Limits
limits_of Planner = planner
limits_of Controller = controller
