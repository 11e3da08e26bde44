-- Operands and the four ends e0, e1, e2, e3 in that order: document 01, "Atoms and the four ends" (`unfold_expressions` of src/ds/sql.rs).
use Rattle.std.specs.Prelude.{ℕ, List, [], ◌∷◌, Bool, true, false, get_or, ltb}
use Rattle.prelude.specs.Choice.{pick}
use Rattle.operand.specs.declared.End as end
use Rattle.operand.specs.declared.End.TheVariants.{Column, Instant, Other, Open, Null}
use Rattle.operand.specs.declared.Operand as operand
use Rattle.operand.specs.declared.Operand.TheVariants.{Single, Interval}

abbrev pub is_column : end.End → Bool
is_column (Column a e) = true
is_column (Instant a e) = false
is_column (Other a e) = false
is_column Open = false
is_column Null = false

abbrev pub is_interval : operand.Operand → Bool
is_interval (Single e) = false
is_interval (Interval e f) = true

-- which of four ends are columns
abbrev pub columns : List end.End → ℕ → Bool
columns ends j = pick (ltb j 4) (is_column (get_or ends j (Column 0 0))) false

-- an instant fills e0 or e2, and Null its partner
abbrev pub start_of : operand.Operand → end.End
start_of (Single e) = e
start_of (Interval e f) = e

abbrev pub stop_of : operand.Operand → end.End
stop_of (Single e) = Null
stop_of (Interval e f) = f

unfoldable pub unfold_expressions : operand.Operand → operand.Operand → List end.End
unfold_expressions a b = start_of a ∷ stop_of a ∷ start_of b ∷ stop_of b ∷ []
