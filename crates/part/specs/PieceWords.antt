-- The pieces of a temporal condition's text, and what is written of one without its record (src/lib.rt).
use Rattle.std.specs.Prelude.{ℕ, ◌%◌, List, Bool, ltb, eqb, get_or}
use Rattle.prelude.specs.Choice.{pick}
use Rattle.literal.specs.declared.Writing.{Writing}
use Rattle.literal.specs.Literal.{stop_slot, null_text, unbounded_text}
use Rattle.operand.specs.declared.End as end
use Rattle.operand.specs.declared.End.TheVariants.{Column, Instant, Other, Open, Null}
use Rattle.sql.specs.declared.Part.{Part}
use Rattle.sql.specs.Template.{place, words_of}
use Rattle.part.specs.declared.Flat as flat
use Rattle.part.specs.declared.Flat.TheVariants.{Words, Opened, Nothing}
use Rattle.part.specs.declared.Piece as piece
use Rattle.part.specs.declared.Piece.TheVariants as pieces

-- whether of the four ends, 0 to 3, this one is an operand's second
abbrev pub is_second : ℕ → Bool
is_second j = eqb (j % 2) 1

-- what an end stands for, by its number; an open second end is an Interval's, since an instant's partner is Null
abbrev pub end_piece : ℕ → end.End → piece.Piece
end_piece j (Column a e) = pieces.Name a e
end_piece j (Instant a e) = pieces.Node a e
end_piece j (Other a e) = pieces.Node a e
end_piece j Open = pieces.Plain (Opened (is_second j))
end_piece j Null = pieces.Plain Nothing

-- what a part of a template stands for, by the four ends
unfoldable pub piece_of : Part → List end.End → piece.Piece
piece_of p ends = pick (ltb (place p) 4) (end_piece (place p) (get_or ends (place p) (Column 0 0))) (pieces.Plain (Words p))

-- the text of a piece that needs no record; a first end is spelled as one that stands alone
unfoldable pub flat_text : Writing → flat.Flat → List ℕ
flat_text w (Words p) = words_of p
flat_text w (Opened second) = unbounded_text w (stop_slot second)
flat_text w Nothing = null_text
