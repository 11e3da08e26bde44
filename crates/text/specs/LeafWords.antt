-- The text of a node without operands, from its record, and the collations of a Str (src/leaves.rt).
use Rattle.std.specs.Prelude.{ℕ, List, [], get_or, drop, eqb}
use Rattle.record.specs.Record.{le16, le32}
use Rattle.prelude.specs.Choice.{pick}
use Rattle.literal.specs.declared.Writing.{Writing}
use Rattle.tree.specs.Tree.{Settings}
use Rattle.tree.specs.Parse.{mantissa}
use Rattle.literal.specs.Literal.{alone, null_text, bool_text, unbounded_text, num_text, str_text, date_text, timestamp_text, spatial_text, collate}

-- the text of a node without operands, from its record
unfoldable pub leaf_text : Writing → Settings → List ℕ → List ℕ
leaf_text w g s =
    pick (eqb (le16 s 4) 0) null_text
    (pick (eqb (le16 s 4) 1) (unbounded_text w alone)
    (pick (eqb (le16 s 4) 2) (bool_text (eqb (get_or s 6 0) 1))
    (pick (eqb (le16 s 4) 3) (num_text (mantissa s 6) (get_or s 14 0))
    (pick (eqb (le16 s 4) 4) (str_text g.ci g.ai g.cai (get_or s 6 0) (drop 7 s))
    (pick (eqb (le16 s 4) 5) (date_text (le16 s 6) (get_or s 8 0) (get_or s 9 0))
    (pick (eqb (le16 s 4) 6) (timestamp_text w (le16 s 6) (get_or s 8 0) (get_or s 9 0) (get_or s 10 0) (get_or s 11 0) (get_or s 12 0))
    (pick (eqb (le16 s 4) 7) (spatial_text (le32 s 6) (drop 10 s)) (drop 6 s))))))))

-- a collation by a Str's flags: its name, and how it is asked for
abbrev pub name_of : Settings → ℕ → List ℕ
name_of g flags = pick (eqb flags 1) g.ci (pick (eqb flags 2) g.ai g.cai)

abbrev pub collation : Settings → ℕ → List ℕ
collation g flags = pick (eqb flags 0) [] (collate (name_of g flags))
