-- Laws of specs/Op.antt: a number and its operator go both ways, and a test computed over all 53 holds of each.
use Rattle.std.specs.Prelude.{ℕ, zero, suc, ◌<◌, ◌≡◌, refl, List, [], ◌∷◌, map, Bool, true, false, not, T, ltb, eqb, length, get_or, Some, ◌⊎◌}
use Rattle.std.proofs.Common.{sym, ◌∙◌, ap, subst, ltb→lt, eqb→eq, arith, inl, inr, eq-eqb, ne_eqb}
use Rattle.prelude.specs.Choice.{both, pick, some}
use Rattle.prelude.specs.Table.{both_left, both_right, at}
use Rattle.op.specs.declared.Op.{Op}
use Rattle.op.specs.declared.Op.TheVariants.{Plus, Minus, Mult, Div, IntDiv, Mod, Exp, Neg, Eq, Neq, Lt, Gt, Lte, Gte, And, Or, CaseI, AccentI, SIntersects, SEquals, SDisjoint, STouches, SWithin, SOverlaps, SCrosses, SContains, TAfter, TBefore, TContains, TDisjoint, TDuring, TEquals, TFinishedBy, TFinishes, TIntersects, TMeets, TMetBy, TOverlappedBy, TOverlaps, TStartedBy, TStarts, AEquals, AContains, AContainedBy, AOverlaps, IsLike, IsNotLike, IsBetween, IsNotBetween, IsInList, IsNotInList, IsNull, IsNotNull}
use Rattle.op.specs.Op.{op_number, operators, op_at, op_of, one_of}

pub number_of : (o : Op) → op_of (op_number o) ≡ Some o
unfolding op_at
number_of Plus = refl
number_of Minus = refl
number_of Mult = refl
number_of Div = refl
number_of IntDiv = refl
number_of Mod = refl
number_of Exp = refl
number_of Neg = refl
number_of Eq = refl
number_of Neq = refl
number_of Lt = refl
number_of Gt = refl
number_of Lte = refl
number_of Gte = refl
number_of And = refl
number_of Or = refl
number_of CaseI = refl
number_of AccentI = refl
number_of SIntersects = refl
number_of SEquals = refl
number_of SDisjoint = refl
number_of STouches = refl
number_of SWithin = refl
number_of SOverlaps = refl
number_of SCrosses = refl
number_of SContains = refl
number_of TAfter = refl
number_of TBefore = refl
number_of TContains = refl
number_of TDisjoint = refl
number_of TDuring = refl
number_of TEquals = refl
number_of TFinishedBy = refl
number_of TFinishes = refl
number_of TIntersects = refl
number_of TMeets = refl
number_of TMetBy = refl
number_of TOverlappedBy = refl
number_of TOverlaps = refl
number_of TStartedBy = refl
number_of TStarts = refl
number_of AEquals = refl
number_of AContains = refl
number_of AContainedBy = refl
number_of AOverlaps = refl
number_of IsLike = refl
number_of IsNotLike = refl
number_of IsBetween = refl
number_of IsNotBetween = refl
number_of IsInList = refl
number_of IsNotInList = refl
number_of IsNull = refl
number_of IsNotNull = refl

-- a test of every operator of a list
abbrev pub every_op : (Op → Bool) → List Op → Bool
every_op f [] = true
every_op f (o ∷ os) = both (f o) (every_op f os)

in_list : (f : Op → Bool) (os : List Op) (n : ℕ) (o : Op) → op_at os n ≡ Some o → T (every_op f os) → T (f o)
unfolding op_at
in_list f [] n o e t = let z : ◌≡◌ {A = ℕ} 0 1 = cc in absurd (omega arith)
in_list f (p ∷ os) zero o e t =
    let q : p ≡ o = cc in
    subst (λ (x : Op). T (f x)) q (both_left (f p) (every_op f os) t)
in_list f (p ∷ os) (suc n) o e t = in_list f os n o e (both_right (f p) (every_op f os) t)

-- a test that is computed over the whole enum holds of each operator
pub each : (f : Op → Bool) → T (every_op f operators) → (o : Op) → T (f o)
each f t o = in_list f operators (op_number o) o (number_of o) t

abbrev pub alike : Bool → Bool → Bool
alike true b = b
alike false b = not b

alike_equal : (a b : Bool) → T (alike a b) → a ≡ b
alike_equal true true t = refl
alike_equal true false t = absurd t
alike_equal false true t = absurd t
alike_equal false false t = refl

-- two tests that agree over the whole enum
abbrev pub agreeing : (Op → Bool) → (Op → Bool) → Bool
agreeing f g = every_op (λ o. alike (f o) (g o)) operators

pub agree : (f g : Op → Bool) → T (agreeing f g) → (o : Op) → f o ≡ g o
agree f g t o = alike_equal (f o) (g o) (each (λ p. alike (f p) (g p)) t o)

pub number-below : (o : Op) → op_number o < 53
number-below o = ltb→lt (op_number o) 53 (each (λ p. ltb (op_number p) 53) tt o)

abbrev numbers : List ℕ
numbers = map op_number operators

numbered : (os : List Op) (n : ℕ) (o : Op) → op_at os n ≡ Some o → (n < length (map op_number os)) × (get_or (map op_number os) n 0 ≡ op_number o)
unfolding op_at
numbered [] n o e = let z : ◌≡◌ {A = ℕ} 0 1 = cc in absurd (omega arith)
numbered (p ∷ os) zero o e = let q : p ≡ o = cc in (omega arith, ap op_number q)
numbered (p ∷ os) (suc n) o e = let h = numbered os n o e in (omega arith, h.1)

-- an operator that a number names has that number
pub of_number : (n : ℕ) (o : Op) → op_of n ≡ Some o → n ≡ op_number o
of_number n o e =
    let h = numbered operators n o e in
    sym (eqb→eq (get_or numbers n 0) n (at (λ k x. eqb x k) numbers tt n h.0)) ∙ h.1

-- An operator of a list, as the arms of a `match` know it.

-- it is one of them
abbrev pub OneOf : Op → List Op → Type 0
OneOf o [] = ⊥
OneOf o (p ∷ []) = o ≡ p
OneOf o (p ∷ (q ∷ os)) = (o ≡ p) ⊎ OneOf o (q ∷ os)

-- it is none of them
abbrev pub NoneOf : Op → List Op → Type 0
NoneOf o [] = Unit {0}
NoneOf o (p ∷ os) = (o ≡ p → ⊥) × NoneOf o os

number_same : (o p : Op) → op_number o ≡ op_number p → o ≡ p
number_same o p e = let z : Some o ≡ Some p = sym (number_of o) ∙ ap op_of e ∙ number_of p in cc

own : (o p : Op) (os : List Op) → o ≡ p → one_of o (p ∷ os) ≡ true
unfolding some
own o p os e = simp (eq-eqb (op_number o) (op_number p) (ap op_number e))

later : (o p : Op) (os : List Op) → one_of o os ≡ true → one_of o (p ∷ os) ≡ true
unfolding some
later o p os e = go (eqb (op_number o) (op_number p))
  where
    go : (b : Bool) → pick b true (one_of o os) ≡ true
    go true = refl
    go false = e

pub one_of_lem : (o : Op) (os : List Op) → OneOf o os → true ≡ one_of o os
one_of_lem o [] h = absurd h
one_of_lem o (p ∷ []) h = sym (own o p [] h)
one_of_lem o (p ∷ (q ∷ os)) (inl e) = sym (own o p (q ∷ os) e)
one_of_lem o (p ∷ (q ∷ os)) (inr h) = sym (later o p (q ∷ os) (sym (one_of_lem o (q ∷ os) h)))

pub none_of_lem : (o : Op) (os : List Op) → NoneOf o os → false ≡ one_of o os
unfolding some
none_of_lem o [] h = refl
none_of_lem o (p ∷ os) h = simp (ne_eqb (op_number o) (op_number p) (λ e. h.0 (number_same o p e))) (none_of_lem o os h.1)
