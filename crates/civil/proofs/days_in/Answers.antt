-- `civil::days_in` meets its contract: a month other than February by the law of the calendar's table.
use Rattle.civil.proofs.MonthsLaws.{reckoned-is-days}
use borrow.Author.Tests.{ne_eqb}
use Rattle.civil.proofs.days_in.Goals as goal

pub returns-then-m-ne2 : goal.returns-then-m-ne2
returns-then-m-ne2 c = reckoned-is-days _ _ c.requires.0 c.requires.1 (ne_eqb _ _ c.if-m-ne2.true)
