-- Each part has its words; an end has none, and nothing is laid.
use Rattle.std.proofs.Common.{sym}
use Rattle.emit.specs.Emit.{count_limit}
use Rattle.emit.specs.EmitLaws.{puts_of, placed_none}
use Rattle.part.proofs.Laws.{no_words}
use Rattle.part.proofs.put_part.Goals as goal

pub returns-in-E0 : goal.returns-in-E0
returns-in-E0 c = puts_of (no_words c.in-E0.is) (record { laid = sym (placed_none count_limit _ _); end = c.ended.ensures })
