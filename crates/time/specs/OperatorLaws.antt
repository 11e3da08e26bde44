-- A law of each operator of a list holds of every operator that the list's test finds: an operator's number names it, so the list is walked
-- and the operator met there is the one that was asked for. The temporal operators are such a list.
use Rattle.std.specs.Prelude.{◌≡◌, refl, List, [], ◌∷◌, Bool, true, false, eqb}
use Rattle.std.proofs.Common.{sym, subst, eqb-true}
use Rattle.std.proofs.lemmas.Bool.{false≢true}
use Rattle.prelude.specs.Choice.{pick, some}
use Rattle.op.specs.declared.Op.{Op}
use Rattle.op.specs.declared.Op.TheVariants.{TAfter, TBefore, TContains, TDisjoint, TDuring, TEquals, TFinishedBy, TFinishes, TIntersects, TMeets, TMetBy, TOverlappedBy, TOverlaps, TStartedBy, TStarts}
use Rattle.op.specs.Op.{op_number, one_of, is_temporal}
use Rattle.op.specs.OpLaws.{number_of}

infixr 40 ◌also◌
-- a law of each operator of a list
pub data AllOf (P : Op → Type 0) : List Op → Type 0 where
  done : AllOf P []
  ◌also◌ : {o : Op} {os : List Op} → P o → AllOf P os → AllOf P (o ∷ os)

-- an operator is known by its number
pub same_op : (o p : Op) → op_number o ≡ op_number p → o ≡ p
same_op o p e = cc (number_of o, number_of p)

pub among : (P : Op → Type 0) {os : List Op} → AllOf P os → (o : Op) → one_of o os ≡ true → P o
unfolding some
among P done o e = absurd (false≢true e)
among P (◌also◌ {o = p} {os = os} h r) o e = go (eqb (op_number o) (op_number p)) refl e (λ q. among P r o q)
  where
    go : (b : Bool) → eqb (op_number o) (op_number p) ≡ b → pick b true (one_of o os) ≡ true → (one_of o os ≡ true → P o) → P o
    go true q d k = subst P (sym (same_op o p (eqb-true (op_number o) (op_number p) q))) h
    go false q d k = k d

-- the fifteen temporal operators
abbrev pub fifteen : List Op
fifteen =
    TAfter ∷ TBefore ∷ TContains ∷ TDisjoint ∷ TDuring ∷ TEquals ∷ TFinishedBy ∷ TFinishes ∷ TIntersects ∷ TMeets ∷ TMetBy ∷ TOverlappedBy
    ∷ TOverlaps ∷ TStartedBy ∷ TStarts ∷ []

pub of_temporal : (P : Op → Type 0) → AllOf P fifteen → (o : Op) → is_temporal o ≡ true → P o
unfolding is_temporal
of_temporal P h o e = among P h o e
