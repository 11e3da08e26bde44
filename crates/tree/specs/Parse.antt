-- What bytes mean as a tree, with refusals 3 to 6 in reading order: document 01, "Records" and "What a caller hears".
use Rattle.std.specs.Prelude.{ℕ, zero, suc, ◌+◌, ◌-◌, List, [], ◌∷◌, Bool, ℤ, nat_abs, length, get_or, take, drop, ltb, leb, eqb, Option, None, Some}
use Rattle.prelude.specs.Choice.{pick, both, either, negated, between}
use Rattle.refusal.specs.declared.Refusal.{Refusal}
use Rattle.refusal.specs.declared.Refusal.TheVariants.{BadFrame, TooDeep, BadKindOrOperator, BadField}
use Rattle.record.specs.declared.Frame.{Frame}
use Rattle.record.specs.Record.{le16, le32, le64, signed, frame}
use Rattle.charset.specs.Charset.{name, spatial_text}
use Rattle.charset.specs.Named.{name_at, past, named_at}
use Rattle.string.specs.Utf8.{valid}
use Rattle.civil.specs.Civil.{valid_date, valid_time}
use Rattle.op.specs.declared.Op.{Op}
use Rattle.op.specs.declared.Op.TheVariants.{Minus, Neg, CaseI, AccentI, IsNull, IsNotNull}
use Rattle.op.specs.Op.{op_of, one_of}
use Rattle.tree.specs.Limits.{mantissa_limit, scale_limit, flags_limit, text_limit}
use Rattle.tree.specs.Tests.{first, second}
use Rattle.tree.specs.Tree.{Tree, Trees, null, unbounded, bool, num, str, date, timestamp, spatial, id, monadic, dyadic, function, array, interval, none, ◌then◌}
use Rattle.tree.specs.Kinds.{NULL, UNBOUNDED, BOOL, NUM, STR, DATE, TIMESTAMP, SPATIAL, ID, MONADIC, DYADIC, FUNCTION, ARRAY, INTERVAL}

-- what reading gives: a refusal, or a value
pub data Read (A : Type 0) : Type 0 where
  refused : Refusal → Read A
  got : A → Read A

-- f of the value, unless it is refused
unfoldable pub also : {A B : Type 0} → Read A → (A → Read B) → Read B
also (refused n) f = refused n
also (got a) f = f a

-- what a record's kind and body mean
abbrev pub Body : Type 0
Body = ℕ → List ℕ → Read Tree

-- Records.

-- the record at the front of s, whose frame is given, and the records that `more` reads from what follows it
unfoldable pub cons : Body → List ℕ → Option Frame → (List ℕ → Read Trees) → Read Trees
cons body s None more = refused BadFrame
cons body s (Some f) more =
    also (body f.kind (take (f.end - 6) (drop 6 s))) (λ t. also (more (drop f.end s)) (λ ts. got (t then ts)))

-- no byte may be left
unfoldable pub end : List ℕ → Read Trees
end [] = got none
end (x ∷ s) = refused BadFrame

-- n records and no more
unfoldable pub exactly : Body → ℕ → List ℕ → Read Trees
exactly body zero s = end s
exactly body (suc n) s = cons body s (frame s) (λ rest. exactly body n rest)

-- records to the end; the number is at least that of the bytes
unfoldable pub many : Body → ℕ → List ℕ → Read Trees
many body zero s = end s
many body (suc n) [] = got none
many body (suc n) (x ∷ s) = cons body (x ∷ s) (frame (x ∷ s)) (λ rest. many body n rest)

-- a body of records alone
abbrev pub items : Body → List ℕ → Read Trees
items body s = many body (length s) s

-- Fields.

-- the mantissa of a Num whose eight bytes begin at i
abbrev pub mantissa : List ℕ → ℕ → ℤ
mantissa s i = signed (le64 s i)

-- a date in the four bytes at 0
abbrev pub date_at : List ℕ → Bool
date_at s = valid_date (le16 s 0) (get_or s 2 0) (get_or s 3 0)

-- Bodies without records: which are right.

unfoldable pub empty_body : List ℕ → Bool
empty_body s = eqb (length s) 0

unfoldable pub bool_body : List ℕ → Bool
bool_body s = both (eqb (length s) 1) (leb (get_or s 0 0) 1)

unfoldable pub num_body : List ℕ → Bool
num_body s = both (eqb (length s) 9) (both (leb (nat_abs (mantissa s 0)) mantissa_limit) (leb (get_or s 8 0) scale_limit))

unfoldable pub str_body : List ℕ → Bool
str_body s = both (between 1 (length s) (1 + text_limit)) (both (leb (get_or s 0 0) flags_limit) (valid (drop 1 s)))

unfoldable pub date_body : List ℕ → Bool
date_body s = both (eqb (length s) 4) (date_at s)

unfoldable pub timestamp_body : List ℕ → Bool
timestamp_body s = both (eqb (length s) 7) (both (date_at s) (valid_time (get_or s 4 0) (get_or s 5 0) (get_or s 6 0)))

unfoldable pub spatial_body : List ℕ → Bool
spatial_body s = both (between 5 (length s) (4 + text_limit)) (spatial_text (drop 4 s))

-- Kinds. `below` is what the records of a body mean.

-- a body without records: the tree if the body is right
abbrev pub leaf : (List ℕ → Bool) → (List ℕ → Tree) → List ℕ → Read Tree
leaf right make s = pick (right s) (got (make s)) (refused BadField)

unfoldable pub takes_one : Op → Bool
takes_one o = one_of o (Minus ∷ Neg ∷ CaseI ∷ AccentI ∷ IsNull ∷ IsNotNull ∷ [])

-- all others, and Minus
unfoldable pub takes_two : Op → Bool
takes_two o = either (negated (takes_one o)) (one_of o (Minus ∷ []))

-- what f makes of an operator that is allowed
unfoldable pub allowed : {A : Type 0} → (Op → Bool) → (Op → Read A) → Option Op → Read A
allowed test f None = refused BadKindOrOperator
allowed test f (Some o) = pick (test o) (f o) (refused BadKindOrOperator)

-- an operator, two bytes, and then n records
unfoldable pub operated : (Op → Bool) → (Op → Trees → Tree) → ℕ → Body → List ℕ → Read Tree
operated test make n below s =
    pick (ltb (length s) 2) (refused BadField)
    (allowed test (λ o. also (exactly below n (drop 2 s)) (λ ts. got (make o ts))) (op_of (le16 s 0)))

abbrev pub read_monadic : Body → List ℕ → Read Tree
read_monadic = operated takes_one (λ o ts. monadic o (first ts)) 1

abbrev pub read_dyadic : Body → List ℕ → Read Tree
read_dyadic = operated takes_two (λ o ts. dyadic o (first ts) (second ts)) 2

unfoldable pub read_function : Body → List ℕ → Read Tree
read_function below s =
    pick (named_at s 0) (also (items below (drop (past s 0) s)) (λ ts. got (function (name_at s 0) ts)))
    (refused BadField)

abbrev pub read_array : Body → List ℕ → Read Tree
read_array below s = also (items below s) (λ ts. got (array ts))

abbrev pub read_interval : Body → List ℕ → Read Tree
read_interval below s = also (exactly below 2 s) (λ ts. got (interval (first ts) (second ts)))

-- a kind's number, and what its body means
abbrev pub Row : Type 0
Row = record { kind : ℕ; read : List ℕ → Read Tree }

abbrev pub row : ℕ → (List ℕ → Read Tree) → Row
row k f = record { kind = k; read = f }

unfoldable pub choose : ℕ → List ℕ → List Row → Read Tree
choose k s [] = refused BadKindOrOperator
choose k s (r ∷ rs) = pick (eqb k r.kind) (r.read s) (choose k s rs)

-- the table of kinds
unfoldable pub kinds : Body → List Row
kinds below =
    row NULL (leaf empty_body (λ s. null))
    ∷ row UNBOUNDED (leaf empty_body (λ s. unbounded))
    ∷ row BOOL (leaf bool_body (λ s. bool (eqb (get_or s 0 0) 1)))
    ∷ row NUM (leaf num_body (λ s. num (mantissa s 0) (get_or s 8 0)))
    ∷ row STR (leaf str_body (λ s. str (get_or s 0 0) (drop 1 s)))
    ∷ row DATE (leaf date_body (λ s. date (le16 s 0) (get_or s 2 0) (get_or s 3 0)))
    ∷ row TIMESTAMP (leaf timestamp_body (λ s. timestamp (le16 s 0) (get_or s 2 0) (get_or s 3 0) (get_or s 4 0) (get_or s 5 0) (get_or s 6 0)))
    ∷ row SPATIAL (leaf spatial_body (λ s. spatial (le32 s 0) (drop 4 s)))
    ∷ row ID (leaf name (λ s. id s))
    ∷ row MONADIC (read_monadic below)
    ∷ row DYADIC (read_dyadic below)
    ∷ row FUNCTION (read_function below)
    ∷ row ARRAY (read_array below)
    ∷ row INTERVAL (read_interval below)
    ∷ []

abbrev pub read_kind : Body → Body
read_kind below k s = choose k s (kinds below)

-- what a record means that may be `levels` deep
unfoldable pub node : ℕ → ℕ → List ℕ → Read Tree
node zero k s = refused TooDeep
node (suc levels) k s = read_kind (λ j b. node levels j b) k s

-- a tree is exactly one record, of at most so many levels
unfoldable pub parse : ℕ → List ℕ → Read Tree
parse levels s = also (exactly (node levels) 1 s) (λ ts. got (first ts))
