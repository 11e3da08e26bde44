-- `tree::check` meets its contract: 1, and behind right settings what the tree says.
-- what is heard of the answer is what was decided
use mathlib.Core.Path.{sym, ap, ◌∙◌}
use Rattle.tree.specs.Accepted.{heard}
use Rattle.tree.specs.AcceptedLaws.{heard-verdict}
use Rattle.tree.proofs.WalkLaws as walk
use Rattle.tree.proofs.check.Goals as goal

pub returns-then-is_settings : goal.returns-then-is_settings
returns-then-is_settings c =
    let e = c.check_tree.ensures.says ∙ sym (walk.accepted_by_tree c.args.limits c.args.settings.now c.args.tree.now (sym c.is_settings.ensures ∙ c.if-is_settings.true)) in
    record { says = e; hears = ap heard e ∙ heard-verdict _ }

pub returns-else-is_settings : goal.returns-else-is_settings
returns-else-is_settings c =
    let e = sym (walk.accepted-settings c.args.limits c.args.settings.now c.args.tree.now (sym c.is_settings.ensures ∙ c.if-is_settings.false)) in
    record { says = e; hears = ap heard e ∙ heard-verdict _ }
