-- The words that are no names, in any letter case: document 01, "Records", and document 02, slip 1.
use Rattle.std.specs.Prelude.{ℕ, List, [], ◌∷◌, ◌++◌, Bool}
use Rattle.prelude.specs.Choice.{some, same}
use Rattle.prelude.specs.Bytes.{bytes}
use Rattle.word.specs.Case.{uppers}
use Rattle.keyword.specs.Keywords.{keywords}

-- document 01's words: AND BETWEEN COLLATE DIV FALSE IN IS ISNULL LIKE NOT NOTNULL NULL OR TRUE
unfoldable pub reserved_words : List (List ℕ)
reserved_words =
    bytes "AND"
    ∷ bytes "BETWEEN"
    ∷ bytes "COLLATE"
    ∷ bytes "DIV"
    ∷ bytes "FALSE"
    ∷ bytes "IN"
    ∷ bytes "IS"
    ∷ bytes "ISNULL"
    ∷ bytes "LIKE"
    ∷ bytes "NOT"
    ∷ bytes "NOTNULL"
    ∷ bytes "NULL"
    ∷ bytes "OR"
    ∷ bytes "TRUE"
    ∷ []

-- in any letter case one of them, or one of SQLite's keywords
unfoldable pub reserved : List ℕ → Bool
reserved s = some (same (uppers s)) (reserved_words ++ keywords)
