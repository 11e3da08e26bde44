-- What is held so far: what the template held, and the parts before this place.
use Rattle.std.proofs.Common.{◌≡◌, ◌+◌, ◌++◌, take}
use Rattle.sql.specs.Template.{items}
use Rattle.sql.proofs.append.Given as goal

abbrev pub invariant-loop-part : goal.invariant-loop-part
invariant-loop-part l = (items l.t ≡ items l.initial.t ++ take l.part-index l.parts) × (l.t.len ≡ l.initial.t.len + l.part-index)
