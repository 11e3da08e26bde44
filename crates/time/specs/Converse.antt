-- Converses, the replacement of temporal predicates by them, and Allen's thirteen: document 01, "Truth", and demand 3.
use Rattle.std.specs.Prelude.{◌≡◌, List, [], ◌∷◌, true}
use Rattle.prelude.specs.Choice.{either}
use Rattle.op.specs.declared.Op.{Op}
use Rattle.op.specs.declared.Op.TheVariants.{TAfter, TBefore, TContains, TDuring, TEquals, TFinishedBy, TFinishes, TMeets, TMetBy, TOverlappedBy, TOverlaps, TStartedBy, TStarts}
use Rattle.op.specs.Op.{is_temporal}
use Rattle.tree.specs.Tree.{Tree, monadic, dyadic}
use Rattle.time.specs.Operators.{entry}
use Rattle.time.specs.Filter.{is_neg, is_and, is_or}

-- TAfter/TBefore, TContains/TDuring, TFinishedBy/TFinishes, TMeets/TMetBy, TOverlaps/TOverlappedBy, TStartedBy/TStarts;
-- TEquals, TDisjoint, TIntersects are their own
unfoldable pub converse : Op → Op
converse o =
    entry
    ((TAfter, TBefore) ∷ (TBefore, TAfter) ∷ (TContains, TDuring) ∷ (TDuring, TContains) ∷ (TFinishedBy, TFinishes) ∷ (TFinishes, TFinishedBy)
    ∷ (TMeets, TMetBy) ∷ (TMetBy, TMeets) ∷ (TOverlaps, TOverlappedBy) ∷ (TOverlappedBy, TOverlaps) ∷ (TStartedBy, TStarts) ∷ (TStarts, TStartedBy) ∷ [])
    o o

-- One, some or all of a filter's temporal predicates replaced by their converses with the operands exchanged, each operand kept whole:
-- at each predicate there is the choice to keep it or to turn it.
pub data Turned : Tree → Tree → Type 0 where
  keep : (t : Tree) → Turned t t
  turn : (o : Op) (t u : Tree) → is_temporal o ≡ true → Turned (dyadic o t u) (dyadic (converse o) u t)
  in_both : {t t' u u' : Tree} (o : Op) → either (is_and o) (is_or o) ≡ true → Turned t t' → Turned u u' → Turned (dyadic o t u) (dyadic o t' u')
  in_neg : {t t' : Tree} (o : Op) → is_neg o ≡ true → Turned t t' → Turned (monadic o t) (monadic o t')

-- Allen's thirteen leave out TDisjoint and TIntersects
unfoldable pub thirteen : List Op
thirteen =
    TAfter ∷ TBefore ∷ TContains ∷ TDuring ∷ TEquals ∷ TFinishedBy ∷ TFinishes ∷ TMeets ∷ TMetBy ∷ TOverlappedBy
    ∷ TOverlaps ∷ TStartedBy ∷ TStarts ∷ []
