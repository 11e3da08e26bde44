-- `reduce::rules::meet_instants` meets its contract, by whether the operator is one of the five.
use mathlib.Core.Path.{sym, ap, ◌∙◌}
use Rattle.reduce.specs.declared.Meet.TheVariants.{MeetBool}
use Rattle.reduce.proofs.RuleLaws.{instants_meet, instants_clash}
use Rattle.reduce.proofs.rules.meet_instants.Goals as goal

pub returns-then-instant_or_interval : goal.returns-then-instant_or_interval
returns-then-instant_or_interval c = ap MeetBool c.happens.ensures ∙ instants_meet c.args.op c.args.x c.args.y (sym c.instant_or_interval.ensures ∙ c.if-instant_or_interval.true)

pub returns-else-instant_or_interval : goal.returns-else-instant_or_interval
returns-else-instant_or_interval c = instants_clash c.args.op c.args.x c.args.y (sym c.instant_or_interval.ensures ∙ c.if-instant_or_interval.false)
