-- The limits of the camera's controller: document 02, slip 7.
use Rattle.tree.specs.declared.Limits.{Limits}

-- "trees of 2,000 bytes, depth 8 and texts of 4,000 bytes"
abbrev pub controller : Limits
controller = record { tree = 2000; depth = 8; text = 4000 }
