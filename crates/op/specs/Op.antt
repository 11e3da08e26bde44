-- The operators of src/op.rs, their numbers in the order of its enum, and its eight class tests: document 01, "Op".
use Rattle.std.specs.Prelude.{ℕ, zero, suc, List, [], ◌∷◌, Bool, eqb, Option, None, Some}
use Rattle.prelude.specs.Choice.{some}
use Rattle.op.specs.declared.Op.{Op}
use Rattle.op.specs.declared.Op.TheVariants.{Plus, Minus, Mult, Div, IntDiv, Mod, Exp, Neg, Eq, Neq, Lt, Gt, Lte, Gte, And, Or, CaseI, AccentI, SIntersects, SEquals, SDisjoint, STouches, SWithin, SOverlaps, SCrosses, SContains, TAfter, TBefore, TContains, TDisjoint, TDuring, TEquals, TFinishedBy, TFinishes, TIntersects, TMeets, TMetBy, TOverlappedBy, TOverlaps, TStartedBy, TStarts, AEquals, AContains, AContainedBy, AOverlaps, IsLike, IsNotLike, IsBetween, IsNotBetween, IsInList, IsNotInList, IsNull, IsNotNull}

-- 0 (Plus) to 52 (IsNotNull)
abbrev pub op_number : Op → ℕ
op_number Plus = 0
op_number Minus = 1
op_number Mult = 2
op_number Div = 3
op_number IntDiv = 4
op_number Mod = 5
op_number Exp = 6
op_number Neg = 7
op_number Eq = 8
op_number Neq = 9
op_number Lt = 10
op_number Gt = 11
op_number Lte = 12
op_number Gte = 13
op_number And = 14
op_number Or = 15
op_number CaseI = 16
op_number AccentI = 17
op_number SIntersects = 18
op_number SEquals = 19
op_number SDisjoint = 20
op_number STouches = 21
op_number SWithin = 22
op_number SOverlaps = 23
op_number SCrosses = 24
op_number SContains = 25
op_number TAfter = 26
op_number TBefore = 27
op_number TContains = 28
op_number TDisjoint = 29
op_number TDuring = 30
op_number TEquals = 31
op_number TFinishedBy = 32
op_number TFinishes = 33
op_number TIntersects = 34
op_number TMeets = 35
op_number TMetBy = 36
op_number TOverlappedBy = 37
op_number TOverlaps = 38
op_number TStartedBy = 39
op_number TStarts = 40
op_number AEquals = 41
op_number AContains = 42
op_number AContainedBy = 43
op_number AOverlaps = 44
op_number IsLike = 45
op_number IsNotLike = 46
op_number IsBetween = 47
op_number IsNotBetween = 48
op_number IsInList = 49
op_number IsNotInList = 50
op_number IsNull = 51
op_number IsNotNull = 52

-- the 53 operators in order
abbrev pub operators : List Op
operators =
    Plus
    ∷ Minus
    ∷ Mult
    ∷ Div
    ∷ IntDiv
    ∷ Mod
    ∷ Exp
    ∷ Neg
    ∷ Eq
    ∷ Neq
    ∷ Lt
    ∷ Gt
    ∷ Lte
    ∷ Gte
    ∷ And
    ∷ Or
    ∷ CaseI
    ∷ AccentI
    ∷ SIntersects
    ∷ SEquals
    ∷ SDisjoint
    ∷ STouches
    ∷ SWithin
    ∷ SOverlaps
    ∷ SCrosses
    ∷ SContains
    ∷ TAfter
    ∷ TBefore
    ∷ TContains
    ∷ TDisjoint
    ∷ TDuring
    ∷ TEquals
    ∷ TFinishedBy
    ∷ TFinishes
    ∷ TIntersects
    ∷ TMeets
    ∷ TMetBy
    ∷ TOverlappedBy
    ∷ TOverlaps
    ∷ TStartedBy
    ∷ TStarts
    ∷ AEquals
    ∷ AContains
    ∷ AContainedBy
    ∷ AOverlaps
    ∷ IsLike
    ∷ IsNotLike
    ∷ IsBetween
    ∷ IsNotBetween
    ∷ IsInList
    ∷ IsNotInList
    ∷ IsNull
    ∷ IsNotNull
    ∷ []

-- what stands at a place of a list of operators; past its end no operator
unfoldable pub op_at : List Op → ℕ → Option Op
op_at [] n = None
op_at (o ∷ os) zero = Some o
op_at (o ∷ os) (suc n) = op_at os n

-- a number above 52 is no operator
abbrev pub op_of : ℕ → Option Op
op_of n = op_at operators n

abbrev pub one_of : Op → List Op → Bool
one_of o os = some (λ p. eqb (op_number o) (op_number p)) os

unfoldable pub is_arithmetic : Op → Bool
is_arithmetic o = one_of o (Plus ∷ Minus ∷ Mult ∷ Div ∷ Mod ∷ IntDiv ∷ Exp ∷ [])

unfoldable pub is_array : Op → Bool
is_array o = one_of o (AContainedBy ∷ AContains ∷ AEquals ∷ AOverlaps ∷ [])

unfoldable pub is_comparison : Op → Bool
is_comparison o = one_of o (Eq ∷ Neq ∷ Lt ∷ Lte ∷ Gt ∷ Gte ∷ IsNull ∷ IsNotNull ∷ [])

unfoldable pub is_xtd_comparison : Op → Bool
is_xtd_comparison o = one_of o (IsLike ∷ IsNotLike ∷ IsBetween ∷ IsNotBetween ∷ IsInList ∷ IsNotInList ∷ [])

unfoldable pub is_spatial : Op → Bool
is_spatial o = one_of o (SIntersects ∷ SContains ∷ SCrosses ∷ SDisjoint ∷ SEquals ∷ SOverlaps ∷ STouches ∷ SWithin ∷ [])

unfoldable pub is_temporal : Op → Bool
is_temporal o = one_of o (TAfter ∷ TBefore ∷ TContains ∷ TDisjoint ∷ TDuring ∷ TEquals ∷ TFinishedBy ∷ TFinishes ∷ TIntersects ∷ TMeets ∷ TMetBy ∷ TOverlappedBy ∷ TOverlaps ∷ TStartedBy ∷ TStarts ∷ [])

unfoldable pub is_instant_or_interval : Op → Bool
is_instant_or_interval o = one_of o (TAfter ∷ TBefore ∷ TDisjoint ∷ TEquals ∷ TIntersects ∷ [])

unfoldable pub is_nullable : Op → Bool
is_nullable o = one_of o (IsNull ∷ IsNotNull ∷ [])
