-- An accepted filter with its text, and a row: the terms in which the theorems of demands 2 and 3 are stated (document 01, "Truth"; by the
-- writing and the caller: document 02, slips 4 and 7).
use Rattle.std.specs.Prelude.{ℕ, ◌≤◌, ◌≡◌, List, length}
use Rattle.tree.specs.declared.Limits.{Limits}
use Rattle.tree.specs.Limits.{NoGreater, planner}
use Rattle.tree.specs.Tree.{Tree, Settings, Bytes}
use Rattle.tree.specs.Parse.{got}
use Rattle.tree.specs.Accepted.{accepted}
use Rattle.literal.specs.declared.Writing.{Writing}
use Rattle.text.specs.Lowered.{lowering_within}
use Rattle.row.specs.Row.{Column, row_of, columns}
use Rattle.truth.specs.Reading.{row_limit}

-- A filter is accepted if lowering answers a text: some settings, and records that hold the tree t, are lowered to the text x by the
-- call of the writing w, Rust being the first call and GeoPackage the second, for the planner or for any caller whose limits are no greater.
pub record Lowers (w : Writing) (t : Tree) (x : List ℕ) : Type 0 where
  pub limits : Limits
  pub within : NoGreater limits planner
  pub settings : List ℕ
  pub tree : List ℕ
  pub room : ℕ
  pub bytes : Bytes tree
  pub holds : Settings
  pub read : accepted limits settings tree ≡ got (holds, t)
  pub lowered : lowering_within limits w settings tree room ≡ got x

-- A row that passes 10 and 11 has these columns.
pub record IsRow (row : List ℕ) (cs : List Column) : Type 0 where
  pub short : length row ≤ row_limit
  pub reads : row_of row ≡ columns cs
