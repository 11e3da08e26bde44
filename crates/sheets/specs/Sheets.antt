-- Document 01's sixteen sheets A to P as one table, a second table for the call that writes timestamps as GeoPackage stores them (document 02,
-- slip 4), and a third for open ends in either call (slip 5): precision 7, collations NC, NA, NCA. Each line is checked by `right`, and `Hold.antt`
-- has the one proof. The settings, the trees of A, B and O and the second table's first Timestamp stand as bytes, so that a mistake that `encode`
-- and `parse` share cannot pass.
use Rattle.std.specs.Prelude.{ℕ, List, [], ◌∷◌, ◌++◌, Bool, true, false, eqb, pos, Some, None, Ok, Err}
use Rattle.prelude.specs.Bytes.{bytes}
use Rattle.prelude.specs.Choice.{both, same}
use Rattle.refusal.specs.Number.{number_of}
use Rattle.op.specs.declared.Op.TheVariants.{Eq, CaseI, AccentI, SWithin, TAfter, TDisjoint, TDuring, TEquals, TIntersects, TMeets, IsLike, IsBetween, IsInList}
use Rattle.tree.specs.Tree.{Tree, null, unbounded, num, str, date, timestamp, spatial, id, monadic, dyadic, function, array, interval, none, ◌then◌, encode}
use Rattle.tree.specs.Parse.{Read, refused, got}
use Rattle.literal.specs.declared.Writing.{Writing}
use Rattle.text.specs.Lowered.{lowering}
use Rattle.truth.specs.Reading.{Reading, says_true, says_false, says_unknown, reading_of}

-- a sheet: a tree's bytes and the text, a tree's bytes and the refusal's number, or a text and a row and what is read
pub data Sheet : Type 0 where
  lowers : List ℕ → List ℕ → Sheet
  refuses : List ℕ → ℕ → Sheet
  reads : List ℕ → List ℕ → Reading → Sheet

-- one record of kind 100: 7, then NC, NA, NCA, each after its length
abbrev pub settings : List ℕ
settings = 13 ∷ 0 ∷ 0 ∷ 0 ∷ 100 ∷ 0 ∷ 7 ∷ 2 ∷ (bytes "NC" ++ (2 ∷ (bytes "NA" ++ (3 ∷ bytes "NCA"))))

-- the bytes of the buffer: enough for every text here, but for the one that is refused with 9
abbrev pub room : ℕ
room = 100

abbrev pub is_text : Read (List ℕ) → List ℕ → Bool
is_text (refused n) x = false
is_text (got y) x = same y x

abbrev pub is_refusal : Read (List ℕ) → ℕ → Bool
is_refusal (refused n) r = eqb (number_of n) r
is_refusal (got y) r = false

-- an answer of reading as a number, to be compared
abbrev pub code : Reading → ℕ
code (Ok (Some true)) = 101
code (Ok (Some false)) = 102
code (Ok None) = 103
code (Err n) = number_of n

-- a sheet is right in the call of this writing
abbrev pub right : Writing → Sheet → Bool
right w (lowers s x) = is_text (lowering w settings s room) x
right w (refuses s r) = is_refusal (lowering w settings s room) r
right w (reads x row r) = eqb (code (reading_of x row)) (code r)

abbrev pub all : Writing → List Sheet → Bool
all w [] = true
all w (s ∷ rest) = both (right w s) (all w rest)

-- columns
abbrev a : Tree
a = id (bytes "a")

abbrev b : Tree
b = id (bytes "b")

abbrev c : Tree
c = id (bytes "c")

abbrev d : Tree
d = id (bytes "d")

abbrev g : Tree
g = id (bytes "g")

abbrev h : Tree
h = id (bytes "h")

-- J's text, which N reads
abbrev text_j : List ℕ
text_j = bytes "(\"c\" IS NOT NULL AND (a < b)) OR (\"b\" IS NOT NULL AND (a > c))"

-- N's row: a 2024-01-02, b NULL, c 2024-01-01
abbrev row_n : List ℕ
row_n =
    15 ∷ 0 ∷ 0 ∷ 0 ∷ 200 ∷ 0 ∷ 1 ∷ (bytes "a" ++ (1 ∷ (bytes "2024-01-02"
    ++ (5 ∷ 0 ∷ 0 ∷ 0 ∷ 200 ∷ 0 ∷ 1 ∷ (bytes "b" ++ (0
    ∷ 15 ∷ 0 ∷ 0 ∷ 0 ∷ 200 ∷ 0 ∷ 1 ∷ (bytes "c" ++ (1 ∷ bytes "2024-01-01"))))))))

abbrev pub sheets : List Sheet
sheets =
    -- A: Null, its six bytes
    lowers (2 ∷ 0 ∷ 0 ∷ 0 ∷ 0 ∷ 0 ∷ []) (bytes "NULL")
    -- B: m = −5, s = 1
    ∷ lowers (11 ∷ 0 ∷ 0 ∷ 0 ∷ 3 ∷ 0 ∷ 251 ∷ 255 ∷ 255 ∷ 255 ∷ 255 ∷ 255 ∷ 255 ∷ 255 ∷ 1 ∷ []) (bytes "-0.5")
    -- C: m = 1500, s = 2
    ∷ lowers (encode (num (pos 1500) 2)) (bytes "15")
    -- D to F
    ∷ lowers (encode (dyadic Eq a null)) (bytes "a = (NULL)")
    ∷ lowers (encode (dyadic IsInList a (array (num (pos 1) 0 then (num (pos 2) 0 then none))))) (bytes "a IN (1, 2)")
    ∷ lowers (encode (dyadic IsInList a (array (b then (num (pos 2) 0 then none))))) (bytes "a IN ((b, 2))")
    -- G, H
    ∷ lowers (encode (dyadic IsLike a (str 0 (bytes "x")))) (bytes "a LIKE ('x')")
    ∷ lowers (encode (monadic CaseI (monadic AccentI a))) (bytes "a COLLATE NCA")
    -- I to K
    ∷ lowers (encode (dyadic TAfter (interval a b) (interval c d))) (bytes "\"b\" IS NOT NULL AND \"c\" NOT NULL AND (a > d)")
    ∷ lowers (encode (dyadic TDisjoint a (interval b c))) text_j
    ∷ lowers (encode (dyadic TIntersects (date 2024 2 29) (interval unbounded c)))
    (bytes "NOT(('2024-02-29' < '-2021-01-01') OR ('2024-02-29' > c))")
    -- L, M
    ∷ lowers (encode (dyadic SWithin g (spatial 4326 (bytes "POINT (1 2)"))))
    (bytes "ST_Within(ST_ReducePrecision(g, 1E-7), ST_GeomFromText('POINT (1 2)', 4326))")
    ∷ lowers (encode (dyadic SWithin g h)) (bytes "ST_Within(g, h)")
    -- N: unknown
    ∷ reads text_j row_n says_unknown
    -- O: an Interval as root, of a and b: 7
    ∷ refuses (16 ∷ 0 ∷ 0 ∷ 0 ∷ 13 ∷ 0 ∷ 3 ∷ 0 ∷ 0 ∷ 0 ∷ 8 ∷ 0 ∷ (bytes "a" ++ (3 ∷ 0 ∷ 0 ∷ 0 ∷ 8 ∷ 0 ∷ bytes "b"))) 7
    -- P: the empty tree: 3
    ∷ refuses [] 3
    ∷ []

-- 12:30:45 on 29 February 2024, and how the second call writes it
abbrev instant : Tree
instant = timestamp 2024 2 29 12 30 45

abbrev instant_text : List ℕ
instant_text = bytes "'2024-02-29T12:30:45.000Z'"

-- a row whose value of a lies half a second later
abbrev row_later : List ℕ
row_later = 29 ∷ 0 ∷ 0 ∷ 0 ∷ 200 ∷ 0 ∷ 1 ∷ (bytes "a" ++ (1 ∷ bytes "2024-02-29T12:30:45.500Z"))

abbrev pub geopackage_sheets : List Sheet
geopackage_sheets =
    -- a Timestamp by its bytes, a Date, an Unbounded
    lowers (9 ∷ 0 ∷ 0 ∷ 0 ∷ 6 ∷ 0 ∷ 232 ∷ 7 ∷ 2 ∷ 29 ∷ 12 ∷ 30 ∷ 45 ∷ []) instant_text
    ∷ lowers (encode (date 2024 2 29)) (bytes "'2024-02-29'")
    ∷ lowers (encode unbounded) (bytes "'-2021-01-01'")
    -- a Str that looks like a timestamp keeps its own bytes
    ∷ lowers (encode (dyadic Eq a (str 0 (bytes "2024-02-29T12:30:45")))) (bytes "a = '2024-02-29T12:30:45'")
    -- timestamps in several places: compared, in a list, as bounds, as an argument, as instant and as either end of an Interval
    ∷ lowers (encode (dyadic Eq a instant)) (bytes "a = " ++ instant_text)
    ∷ lowers (encode (dyadic IsInList a (array (instant then (date 2024 2 29 then none))))) (bytes "a IN (" ++ (instant_text ++ bytes ", '2024-02-29')"))
    ∷ lowers (encode (dyadic IsBetween a (array (instant then (instant then none))))) (bytes "a BETWEEN " ++ (instant_text ++ (bytes " AND " ++ instant_text)))
    ∷ lowers (encode (function (bytes "f") (instant then none))) (bytes "f(" ++ (instant_text ++ bytes ")"))
    ∷ lowers (encode (dyadic TAfter a instant)) (bytes "a > " ++ instant_text)
    ∷ lowers (encode (dyadic TIntersects instant (interval unbounded c))) (bytes "NOT((" ++ (instant_text ++ (bytes " < '-2021-01-01') OR (" ++ (instant_text ++ bytes " > c))"))))
    ∷ lowers (encode (dyadic TMeets (interval a instant) (interval instant d)))
    (bytes "\"a\" IS NOT NULL AND \"d\" NOT NULL AND (" ++ (instant_text ++ (bytes " = " ++ (instant_text ++ bytes ")"))))
    -- the reader takes such texts
    ∷ reads (bytes "a > " ++ instant_text) row_later says_true
    ∷ reads (bytes "a = " ++ instant_text) row_later says_false
    -- 115 bytes, where the buffer has 100: 9
    ∷ refuses (encode (dyadic TDisjoint instant (interval c instant))) 9
    -- other refusals are the first call's, here 7 and 3
    ∷ refuses (encode (interval a instant)) 7
    ∷ refuses [] 3
    ∷ []

-- a row whose values of a and b are instants, a the earlier one
abbrev row_stay : List ℕ
row_stay =
    29 ∷ 0 ∷ 0 ∷ 0 ∷ 200 ∷ 0 ∷ 1 ∷ (bytes "a" ++ (1 ∷ (bytes "2024-02-29T12:00:00.000Z"
    ++ (29 ∷ 0 ∷ 0 ∷ 0 ∷ 200 ∷ 0 ∷ 1 ∷ (bytes "b" ++ (1 ∷ bytes "2024-02-29T12:30:45.500Z"))))))

-- does [a, ..] intersect b? the text, by how an open end is written
abbrev stays : List ℕ → List ℕ
stays end = bytes "NOT((" ++ (end ++ bytes " < b) OR (a > b))")

-- by how a call writes an Interval's open second end, and what it reads of a stay that has not ended
abbrev pub open_end_sheets : List ℕ → Reading → List Sheet
open_end_sheets end staying =
    -- [a, ..]
    lowers (encode (dyadic TIntersects (interval a unbounded) b)) (stays end)
    ∷ lowers (encode (dyadic TAfter b (interval a unbounded))) (bytes "\"a\" IS NOT NULL AND (b > " ++ (end ++ bytes ")"))
    ∷ lowers (encode (dyadic TDuring (interval b c) (interval a unbounded))) (bytes "(b > a) AND (c < " ++ (end ++ bytes ")"))
    -- [.., ..]
    ∷ lowers (encode (dyadic TEquals (interval a unbounded) (interval unbounded unbounded)))
    (bytes "(a = '-2021-01-01') AND (" ++ (end ++ (bytes " = " ++ (end ++ bytes ")"))))
    ∷ lowers (encode (dyadic TMeets (interval unbounded unbounded) (interval unbounded unbounded))) (end ++ bytes " = '-2021-01-01'")
    -- an Unbounded that is no Interval's second end
    ∷ lowers (encode (dyadic TDuring (interval b c) (interval unbounded d))) (bytes "(b > '-2021-01-01') AND (c < d)")
    ∷ lowers (encode (dyadic TAfter a unbounded)) (bytes "a > '-2021-01-01'")
    ∷ lowers (encode (dyadic TAfter b (interval a (function (bytes "f") (unbounded then none))))) (bytes "\"a\" IS NOT NULL AND (b > f('-2021-01-01'))")
    ∷ lowers (encode (function (bytes "f") (unbounded then (array (unbounded then none) then none)))) (bytes "f('-2021-01-01', ('-2021-01-01'))")
    ∷ reads (stays end) row_stay staying
    ∷ []
