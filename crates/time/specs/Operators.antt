-- Tables by operator, in which document 01 ("Truth") gives converses and signs and OGC 21-065r2 its predicates.
use Rattle.std.specs.Prelude.{List, [], ◌∷◌}
use Rattle.prelude.specs.Choice.{pick}
use Rattle.op.specs.declared.Op.{Op}
use Rattle.op.specs.Op.{one_of}

-- an operator's entry in a table, or, if it has none, the value given for all others
abbrev pub entry : {A : Type 0} → List (Op × A) → A → Op → A
entry [] a o = a
entry (row ∷ rows) a o = pick (one_of o (row.0 ∷ [])) row.1 (entry rows a o)
