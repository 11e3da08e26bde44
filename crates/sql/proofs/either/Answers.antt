-- The parts that were laid one after the other, spelt.
use Rattle.sql.specs.Template.{items}
use Rattle.sql.proofs.Laws.{either_spelt}
use Rattle.sql.proofs.either.Goals as goal

pub returns-clause-text : goal.returns-clause-text
returns-clause-text c =
    rw (c.push-2.ensures.items, c.append-2.ensures.items, c.as_slice-2.ensures.value, c.push.ensures.items, c.append.ensures.items, c.as_slice.ensures.value, c.sql-both.ensures.items)
    (either_spelt (items c.args.t) (items c.args.u))
