-- `tree::check_tree` meets its contract: 2, then what the walk found, and 7 only where it found nothing else.
-- what is heard of the answer is what was decided
use Rattle.std.specs.Prelude.{Ok, Err}
use mathlib.Core.Path.{sym, ap, ◌∙◌}
use mathlib.Core.Bool.{Bool}
use Rattle.prelude.specs.Choice.{pick}
use Rattle.refusal.specs.declared.Refusal.TheVariants.{BadOperand}
use Rattle.tree.specs.Accepted.{heard}
use Rattle.tree.specs.AcceptedLaws.{heard-verdict}
use Rattle.tree.proofs.WalkLaws as walk
use Rattle.tree.proofs.check_tree.Goals as goal

pub returns-then-limits-tree : goal.returns-then-limits-tree
returns-then-limits-tree c =
    let e = sym (walk.accepted_long c.args.limits c.args.tree.now c.if-limits-tree.true) in
    record { says = e; hears = ap heard e ∙ heard-verdict _ }

pub returns-in_err-shape : goal.returns-in_err-shape
returns-in_err-shape c =
    let e = walk.handed _ c.from_residual.ensures.1 (sym (walk.accepted_walk c.args.limits c.args.tree.now _ c.if-limits-tree.false c.in_err-shape.ensures)) in
    record { says = e; hears = ap heard e ∙ heard-verdict _ }

pub returns-then-plain_shape : goal.returns-then-plain_shape
returns-then-plain_shape c =
    let e = sym (walk.accepted_walk c.args.limits c.args.tree.now _ c.if-limits-tree.false c.in_ok-shape.ensures ∙ ap (λ (b : Bool). pick b (Ok tt) (Err BadOperand)) (sym c.plain_shape.ensures ∙ c.if-plain_shape.true)) in
    record { says = e; hears = ap heard e ∙ heard-verdict _ }

pub returns-else-plain_shape : goal.returns-else-plain_shape
returns-else-plain_shape c =
    let e = sym (walk.accepted_walk c.args.limits c.args.tree.now _ c.if-limits-tree.false c.in_ok-shape.ensures ∙ ap (λ (b : Bool). pick b (Ok tt) (Err BadOperand)) (sym c.plain_shape.ensures ∙ c.if-plain_shape.false)) in
    record { says = e; hears = ap heard e ∙ heard-verdict _ }
