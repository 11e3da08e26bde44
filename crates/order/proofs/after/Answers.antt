-- `order::after` meets its contract: `starts_with` finds the two apostrophes that `next_at` steps over.
use Rattle.std.proofs.Common.{refl, sym, ◌∙◌}
use Rattle.order.specs.ValueWords.{next_at}
use Rattle.order.specs.ValueLaws.{next-pair}
use Rattle.order.proofs.after.Goals as goal
use Rattle.order.proofs.after.Goals.{else-written-via-then-written+else-starts_with, else-written-via-else-written}

pub returns-then-starts_with : goal.returns-then-starts_with
returns-then-starts_with c = sym (next-pair _ c.args.s.now c.args.i _ c.if-written.true (sym c.if-starts_with.true ∙ c.starts_with.ensures.value))

pub returns-else-written : goal.returns-else-written
unfolding next_at
returns-else-written c =
    elim c.else-written.branch [
      | else-written-via-then-written+else-starts_with w ↦
          sym (next-pair _ c.args.s.now c.args.i _ w.if-written.true (sym w.if-starts_with.false ∙ w.starts_with.ensures.value))
      | else-written-via-else-written w ↦ rw w.if-written.false refl
    ]
