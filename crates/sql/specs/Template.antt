-- The text of a temporal condition whose ends are still to be written, with digits where they go, and the parts that the code makes such a text of (src/ds/sql.rs, src/ds/gpkg.rs).
use Rattle.std.specs.Prelude.{ℕ, ◌+◌, ◌-◌, List, [], ◌∷◌, ◌++◌, Bool, ltb, take}
use Rattle.prelude.specs.Bytes.{bytes}
use Rattle.prelude.specs.Choice.{pick, between}
use Rattle.sql.specs.Condition.{Cond, print}
use Rattle.sql.specs.declared.Part.{Part}
use Rattle.sql.specs.declared.Template as template
use Rattle.sql.specs.declared.Part.TheVariants.{E0, E1, E2, E3, Open, Close, CloseBoth, Greater, Less, Equal, Unequal, Quote, IsNotNull, IsNotNullQuote, NotNull, Or, And, Not, Blank}

-- an end as a digit
abbrev pub digit_of : ℕ → List ℕ
digit_of j = (48 + j) ∷ []

-- the template of a condition
abbrev pub template_of : Cond → List ℕ
template_of c = print digit_of c

-- a part's place in the enum: an end's number, 0 to 3, and 4 or more for words
abbrev pub place : Part → ℕ
place E0 = 0
place E1 = 1
place E2 = 2
place E3 = 3
place Open = 4
place Close = 5
place CloseBoth = 6
place Greater = 7
place Less = 8
place Equal = 9
place Unequal = 10
place Quote = 11
place IsNotNull = 12
place IsNotNullQuote = 13
place NotNull = 14
place Or = 15
place And = 16
place Not = 17
place Blank = 18

-- what a part is in a template: an end is a digit, all others are words
unfoldable pub part_of : Part → List ℕ
part_of E0 = bytes "0"
part_of E1 = bytes "1"
part_of E2 = bytes "2"
part_of E3 = bytes "3"
part_of Open = bytes "("
part_of Close = bytes ")"
part_of CloseBoth = bytes "))"
part_of Greater = bytes " > "
part_of Less = bytes " < "
part_of Equal = bytes " = "
part_of Unequal = bytes " != "
part_of Quote = bytes "\""
part_of IsNotNull = bytes "\" IS NOT NULL AND ("
part_of IsNotNullQuote = bytes "\" IS NOT NULL AND \""
part_of NotNull = bytes "\" NOT NULL AND ("
part_of Or = bytes ") OR ("
part_of And = bytes ") AND ("
part_of Not = bytes "NOT(("
part_of Blank = []

-- the words of a part that is no end
unfoldable pub words_of : Part → List ℕ
words_of p = pick (ltb (place p) 4) [] (part_of p)

-- parts as text
unfoldable pub spelt : List Part → List ℕ
spelt [] = []
spelt (p ∷ ps) = part_of p ++ spelt ps

-- the parts that a template of the code has, and what it holds
abbrev pub items : template.Template → List Part
items t = take t.len t.parts

abbrev pub held : template.Template → List ℕ
held t = spelt (items t)

-- a template filled: each digit gives way to the text of its number
unfoldable pub fill : (ℕ → List ℕ) → List ℕ → List ℕ
fill slot [] = []
fill slot (b ∷ s) = pick (between 48 b 57) (slot (b - 48)) (b ∷ []) ++ fill slot s

-- `check_ids` on texts: an end's, and whether it is a column
unfoldable pub guarded_text : List ℕ → List ℕ → List ℕ
guarded_text i base = bytes "\"" ++ (i ++ (bytes "\" IS NOT NULL AND (" ++ (base ++ bytes ")")))

unfoldable pub guarded_both_text : List ℕ → List ℕ → List ℕ → List ℕ
guarded_both_text i j base =
    bytes "\"" ++ (i ++ (bytes "\" IS NOT NULL AND \"" ++ (j ++ (bytes "\" NOT NULL AND (" ++ (base ++ bytes ")")))))

unfoldable pub check_id_text : Bool → List ℕ → List ℕ → List ℕ
check_id_text column i base = pick column (guarded_text i base) base

unfoldable pub check_ids_text : Bool → Bool → List ℕ → List ℕ → List ℕ → List ℕ
check_ids_text c d i j base =
    pick c (pick d (guarded_both_text i j base) (guarded_text i base)) (check_id_text d j base)

-- two texts in brackets, joined
unfoldable pub both_text : List ℕ → List ℕ → List ℕ
both_text t u = bytes "(" ++ (t ++ (bytes ") AND (" ++ (u ++ bytes ")")))

unfoldable pub neither_text : List ℕ → List ℕ → List ℕ
neither_text t u = bytes "NOT((" ++ (t ++ (bytes ") OR (" ++ (u ++ bytes "))")))

unfoldable pub either_text : List ℕ → List ℕ → List ℕ
either_text t u = bytes "(" ++ (t ++ (bytes ") OR (" ++ (u ++ bytes ")")))
