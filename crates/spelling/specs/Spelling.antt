-- The spelling table of Op::to_sql: document 01, "Op". CaseI, AccentI and the temporal operators have no spelling.
use Rattle.std.specs.Prelude.{ℕ, List, [], Option, Some, None}
use Rattle.prelude.specs.Bytes.{bytes}
use Rattle.op.specs.declared.Op.{Op}
use Rattle.op.specs.Op.{op_of}
use Rattle.op.specs.declared.Op.TheVariants.{Plus, Minus, Mult, Div, IntDiv, Mod, Exp, Neg, Eq, Neq, Lt, Gt, Lte, Gte, And, Or, CaseI, AccentI, SIntersects, SEquals, SDisjoint, STouches, SWithin, SOverlaps, SCrosses, SContains, TAfter, TBefore, TContains, TDisjoint, TDuring, TEquals, TFinishedBy, TFinishes, TIntersects, TMeets, TMetBy, TOverlappedBy, TOverlaps, TStartedBy, TStarts, AEquals, AContains, AContainedBy, AOverlaps, IsLike, IsNotLike, IsBetween, IsNotBetween, IsInList, IsNotInList, IsNull, IsNotNull}

-- having no spelling is an answer of its own, and no empty text
abbrev pub spelling : Op → Option (List ℕ)
spelling Plus = Some (bytes "+")
spelling Minus = Some (bytes "-")
spelling Mult = Some (bytes "*")
spelling Div = Some (bytes "/")
spelling IntDiv = Some (bytes "div")
spelling Mod = Some (bytes "%")
spelling Exp = Some (bytes "^")
spelling Neg = Some (bytes "NOT")
spelling Eq = Some (bytes "=")
spelling Neq = Some (bytes "<>")
spelling Lt = Some (bytes "<")
spelling Gt = Some (bytes ">")
spelling Lte = Some (bytes "<=")
spelling Gte = Some (bytes ">=")
spelling And = Some (bytes "AND")
spelling Or = Some (bytes "OR")
spelling CaseI = None
spelling AccentI = None
spelling SIntersects = Some (bytes "ST_Intersects")
spelling SEquals = Some (bytes "ST_Equals")
spelling SDisjoint = Some (bytes "ST_Disjoint")
spelling STouches = Some (bytes "ST_Touches")
spelling SWithin = Some (bytes "ST_Within")
spelling SOverlaps = Some (bytes "ST_Overlaps")
spelling SCrosses = Some (bytes "ST_Crosses")
spelling SContains = Some (bytes "ST_Contains")
spelling TAfter = None
spelling TBefore = None
spelling TContains = None
spelling TDisjoint = None
spelling TDuring = None
spelling TEquals = None
spelling TFinishedBy = None
spelling TFinishes = None
spelling TIntersects = None
spelling TMeets = None
spelling TMetBy = None
spelling TOverlappedBy = None
spelling TOverlaps = None
spelling TStartedBy = None
spelling TStarts = None
spelling AEquals = Some (bytes "=")
spelling AContains = Some (bytes "@>")
spelling AContainedBy = Some (bytes "<@")
spelling AOverlaps = Some (bytes "&&")
spelling IsLike = Some (bytes "LIKE")
spelling IsNotLike = Some (bytes "NOT LIKE")
spelling IsBetween = Some (bytes "BETWEEN")
spelling IsNotBetween = Some (bytes "NOT BETWEEN")
spelling IsInList = Some (bytes "IN")
spelling IsNotInList = Some (bytes "NOT IN")
spelling IsNull = Some (bytes "IS NULL")
spelling IsNotNull = Some (bytes "IS NOT NULL")

-- the spelling by an operator's number; a number that is no operator's has none
abbrev pub numbered : Option Op → Option (List ℕ)
numbered None = None
numbered (Some o) = spelling o

abbrev pub spelling_of : ℕ → Option (List ℕ)
spelling_of n = numbered (op_of n)

-- what is written of an operator: its spelling, or nothing where it has none
unfoldable pub spelled_as : Option (List ℕ) → List ℕ
spelled_as None = []
spelled_as (Some s) = s

abbrev pub word : Op → List ℕ
word o = spelled_as (spelling o)
