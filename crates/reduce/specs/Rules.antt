-- What a node with operands becomes, these being reduced: the rules of `E::reduce` (src/expr.rs) that document 02, slip 8, names, in their order
-- there.
use Rattle.std.specs.Prelude.{ℕ, [], ◌∷◌, Bool, true, false, eqb, ltb}
use Rattle.prelude.specs.Choice.{pick, both, either, negated}
use Rattle.op.specs.declared.Op.{Op}
use Rattle.op.specs.declared.Op.TheVariants.{Minus, Neg, And, Or, CaseI, AccentI, TAfter, TBefore, TDisjoint, IsNull, IsNotNull}
use Rattle.op.specs.Op.{one_of, is_instant_or_interval}
use Rattle.reduce.specs.declared.Turn.{Turn}
use Rattle.reduce.specs.declared.Turn.TheVariants.{Keep, ToNull, ToBool, Stay, Negate, NoCase, NoAccent}
use Rattle.reduce.specs.declared.Meet.{Meet}
use Rattle.reduce.specs.declared.Meet.TheVariants.{Keeps, MeetNull, MeetBool, Clash}
use Rattle.reduce.specs.declared.Sort.{Sort}
use Rattle.reduce.specs.declared.Sort.TheVariants as sort
use Rattle.reduce.specs.Sort.{same_sort, is_logic, is_constant, place_of}

-- Monadic, its operand being of the sort a.
unfoldable pub turn : Op → Sort → Turn
turn o a =
    pick (one_of o (Minus ∷ [])) (pick (same_sort a sort.Null) ToNull (pick (same_sort a sort.Num) Negate Keep))
    (pick (one_of o (Neg ∷ [])) (pick (same_sort a sort.Null) ToNull (pick (is_logic a) (ToBool (same_sort a (sort.Bool false))) Keep))
    (pick (one_of o (IsNull ∷ [])) (pick (same_sort a sort.Null) (ToBool true) Keep)
    (pick (one_of o (IsNotNull ∷ [])) (pick (same_sort a sort.Null) (ToBool false) Keep)
    (pick (one_of o (CaseI ∷ [])) (pick (same_sort a sort.Str) NoCase (pick (same_sort a sort.CaseI) Stay Keep))
    (pick (one_of o (AccentI ∷ [])) (pick (same_sort a sort.Str) NoAccent (pick (same_sort a sort.AccentI) Stay Keep)) Keep)))))

-- And: false if one is false, true if both are true, else Null; if both are Bool or Null
unfoldable pub meet_and : Sort → Sort → Meet
meet_and a b =
    pick (both (is_logic a) (is_logic b))
    (pick (either (same_sort a (sort.Bool false)) (same_sort b (sort.Bool false))) (MeetBool false)
    (pick (both (same_sort a (sort.Bool true)) (same_sort b (sort.Bool true))) (MeetBool true) MeetNull))
    Keeps

unfoldable pub meet_or : Sort → Sort → Meet
meet_or a b =
    pick (both (is_logic a) (is_logic b))
    (pick (either (same_sort a (sort.Bool true)) (same_sort b (sort.Bool true))) (MeetBool true)
    (pick (both (same_sort a (sort.Bool false)) (same_sort b (sort.Bool false))) (MeetBool false) MeetNull))
    Keeps

-- the five of `instant_or_interval` between instants, by their places in time
unfoldable pub happens : Op → ℕ → ℕ → Bool
happens o x y =
    pick (one_of o (TAfter ∷ [])) (ltb y x)
    (pick (one_of o (TBefore ∷ [])) (ltb x y)
    (pick (one_of o (TDisjoint ∷ [])) (negated (eqb x y)) (eqb x y)))

-- any other operator: of sorts a and b
unfoldable pub meet_other : Op → Sort → Sort → Meet
meet_other o a b =
    pick (either (same_sort a sort.Null) (same_sort b sort.Null)) MeetNull
    (pick (both (is_constant a) (is_constant b))
    (pick (both (is_instant_or_interval o) (both (same_sort a (sort.Instant 0)) (same_sort b (sort.Instant 0)))) (MeetBool (happens o (place_of a) (place_of b))) Clash)
    Keeps)

unfoldable pub meet : Op → Sort → Sort → Meet
meet o a b =
    pick (one_of o (And ∷ [])) (meet_and a b)
    (pick (one_of o (Or ∷ [])) (meet_or a b) (meet_other o a b))
