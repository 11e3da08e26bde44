-- The limits of a tree and of its text: document 01, "Records" and "What a caller hears"; by the caller: document 02, slip 7. A name's limit stands
-- in crate charset, the years in crate civil, the precision in crate settings.
use Rattle.std.specs.Prelude.{ℕ, ◌≤◌}
use Rattle.tree.specs.declared.Limits.{Limits}

-- What a caller allows is three numbers (`Limits` of src/lib.rt): the bytes of a tree, its levels, the root being 1, and the bytes of the SQL text.
-- The planner's are those of document 01.
abbrev pub planner : Limits
planner = record { tree = 32768; depth = 32; text = 65535 }

-- none of the limits a is above that of b
pub record NoGreater (a b : Limits) : Type 0 where
  pub tree : a.tree ≤ b.tree
  pub depth : a.depth ≤ b.depth
  pub text : a.text ≤ b.text

-- the planner's, by name: no caller's is greater
abbrev pub tree_limit : ℕ
tree_limit = planner.tree

abbrev pub depth_limit : ℕ
depth_limit = planner.depth

abbrev pub length_limit : ℕ
length_limit = planner.text

-- a mantissa lies from −(10^15 − 1) to 10^15 − 1
abbrev pub mantissa_limit : ℕ
mantissa_limit = 999999999999999

abbrev pub scale_limit : ℕ
scale_limit = 9

abbrev pub flags_limit : ℕ
flags_limit = 3

-- bytes of a Str or Spatial text in its record
abbrev pub text_limit : ℕ
text_limit = 4096
