-- What a time filter is: document 01, "Truth".
use Rattle.std.specs.Prelude.{[], ◌∷◌, Bool, eqb, get_or}
use Rattle.prelude.specs.Choice.{pick, both, either, between}
use Rattle.op.specs.declared.Op.{Op}
use Rattle.op.specs.declared.Op.TheVariants.{Neg, And, Or}
use Rattle.op.specs.Op.{op_number, one_of, is_temporal, is_nullable}
use Rattle.tree.specs.Kinds.{NULL, UNBOUNDED, BOOL, STR, DATE, TIMESTAMP, ID}
use Rattle.tree.specs.Tree.{Tree, kind_of}
use Rattle.tree.specs.Tests.{fields_of, by_operator, kind_in, is_id, is_interval, start_of, stop_of}

-- Ids, dates, timestamps and flag-0 strings
unfoldable pub comparable : Tree → Bool
comparable t = either (kind_in (ID ∷ DATE ∷ TIMESTAMP ∷ []) t) (both (eqb (kind_of t) STR) (eqb (get_or (fields_of t) 0 0) 0))

-- Id, Date, Timestamp, Unbounded, Null
unfoldable pub is_end : Tree → Bool
is_end t = kind_in (ID ∷ DATE ∷ TIMESTAMP ∷ UNBOUNDED ∷ NULL ∷ []) t

-- one of these, or an Interval of these
unfoldable pub is_operand : Tree → Bool
is_operand t = pick (is_interval t) (both (is_end (start_of t)) (is_end (stop_of t))) (is_end t)

abbrev pub is_neg : Op → Bool
is_neg o = one_of o (Neg ∷ [])

abbrev pub is_and : Op → Bool
is_and o = one_of o (And ∷ [])

abbrev pub is_or : Op → Bool
is_or o = one_of o (Or ∷ [])

-- operators 8 to 13: = <> < > <= >=
abbrev pub compares : Op → Bool
compares o = between 8 (op_number o) 13

-- A time filter is Null, Bool, And, Or, Neg of these, IsNull or IsNotNull of an Id, operators 8 to 13 between comparable trees,
-- and temporal operators over operands.
unfoldable pub time_filter : Tree → Bool
time_filter =
    by_operator (kind_in (NULL ∷ BOOL ∷ []))
    (λ o t f. pick (is_neg o) f (both (is_nullable o) (is_id t)))
    (λ o t u f g.
    pick (either (is_and o) (is_or o)) (both f g)
    (pick (compares o) (both (comparable t) (comparable u)) (both (is_temporal o) (both (is_operand t) (is_operand u)))))
