-- The truth of a time filter on a row, over the tree, without text: document 01, "Truth", and for the two writings document 02, slips 4 and 5. And, Or,
-- Neg by the three-valued tables, a test by its values, a temporal predicate by the comparisons that its `t_…_sql` names, a conjunct being false
-- where a column it guards is NULL.
use Rattle.std.specs.Prelude.{ℕ, List, [], ◌∷◌, Bool, true, false, get_or, eqb}
use Rattle.prelude.specs.Choice.{pick, either, negated}
use Rattle.order.specs.Order.{below}
use Rattle.op.specs.declared.Op.{Op}
use Rattle.op.specs.declared.Op.TheVariants.{IsNull, Eq, Neq, Lt, Gt, Lte, Gte}
use Rattle.op.specs.Op.{op_number, one_of}
use Rattle.tree.specs.Kinds.{UNBOUNDED, BOOL}
use Rattle.tree.specs.Tree.{Tree, null, unbounded, bool, num, str, date, timestamp, spatial, id, monadic, dyadic, function, array, interval, kind_of}
use Rattle.tree.specs.Tests.{column_name, fields_of, everywhere, by_operator, is_id, is_interval, ends_of, columns_of}
use Rattle.literal.specs.declared.Writing.{Writing}
use Rattle.literal.specs.Literal as literal
use Rattle.literal.specs.Literal.{Slot, alone, first_end, second_end, start_slot, stop_slot}
use Rattle.sql.specs.Condition as sql
use Rattle.sql.specs.Translators.{translate}
use Rattle.row.specs.Row.{val, Column, Found, absent, has, look}
use Rattle.row.specs.Row as row
use Rattle.truth.specs.declared.Truth.{Truth}
use Rattle.truth.specs.declared.Truth.TheVariants.{Unknown}
use Rattle.lexer.specs.declared.Kind.{Kind}
use Rattle.lexer.specs.declared.Kind.TheVariants.{Lt as LT, Gt as GT, Le, Ge as GE, Eq as EQ, Ne as NE}
use Rattle.truth.specs.Grammar.{Atom, column, text, none, value, not3, and3, or3, truth_of, compared, nullity}
use Rattle.time.specs.Operators.{entry}
use Rattle.time.specs.Filter.{is_neg, is_and, is_or, compares}

-- what stands for a tree in a comparison: a column, a Str's own string, the string that lowering writes for an instant, quotation marks left off,
-- or NULL
unfoldable pub tree_atom : Writing → Tree → Atom
tree_atom w null = none
tree_atom w unbounded = text (literal.open_end w alone)
tree_atom w (bool b) = none
tree_atom w (num m s) = none
tree_atom w (str f s) = text s
tree_atom w (date y m d) = text (literal.date y m d)
tree_atom w (timestamp y m d h i s) = text (literal.timestamp w y m d h i s)
tree_atom w (spatial n s) = none
tree_atom w (id s) = column s
tree_atom w (monadic o t) = none
tree_atom w (dyadic o t u) = none
tree_atom w (function n ts) = none
tree_atom w (array ts) = none
tree_atom w (interval t u) = none

-- what stands for an end by the writing and its slot: the string that these spell for an open end, and for any other end what stands for the tree
unfoldable pub end_atom : Writing → Slot → Tree → Atom
end_atom w slot t = pick (eqb (kind_of t) UNBOUNDED) (text (literal.open_end w slot)) (tree_atom w t)

-- the value on a row of what is compared, or tested for NULL
unfoldable pub value_on : Writing → List Column → Tree → Found
value_on w cs t = value cs (tree_atom w t)

-- An end's value on a row is its column's value there, or the string that lowering writes for a date, timestamp or open end, quotation marks
-- left off. Null has the value NULL.
unfoldable pub end_on : Writing → List Column → Slot → Tree → Found
end_on w cs slot t = value cs (end_atom w slot t)

-- a name is, byte for byte, one of the row's
abbrev pub found : Found → Bool
found absent = false
found (has v) = true

-- a test of what a column is on the row; a node that is no Id passes
abbrev pub at_column : (Found → Bool) → List Column → Tree → Bool
at_column test cs n = either (negated (is_id n)) (test (look (column_name n) cs))

-- a row holds the columns of a tree if the name of every Id in it is one of the row's
unfoldable pub holds : List Column → Tree → Bool
holds cs = everywhere (at_column found cs)

abbrev pub sign_of : sql.Sign → Kind
sign_of sql.lt = LT
sign_of sql.gt = GT
sign_of sql.eq = EQ
sign_of sql.ne = NE

-- a condition over four ends, whose values are given
unfoldable pub cond_truth : (ℕ → Found) → sql.Cond → Truth
cond_truth v (sql.test i s j) = compared (sign_of s) (v i) (v j)
cond_truth v (sql.is_not_null i) = not3 (nullity (v i))
cond_truth v (sql.not_null i) = not3 (nullity (v i))
cond_truth v (sql.and c d) = and3 (cond_truth v c) (cond_truth v d)
cond_truth v (sql.or c d) = or3 (cond_truth v c) (cond_truth v d)
cond_truth v (sql.not c) = not3 (cond_truth v c)
cond_truth v (sql.brackets c) = cond_truth v c

-- the slots of the four ends of two operands, and their values
abbrev pub slot_at : Tree → Tree → ℕ → Slot
slot_at t u j =
    get_or (start_slot (is_interval t) ∷ stop_slot (is_interval t) ∷ start_slot (is_interval u) ∷ stop_slot (is_interval u) ∷ []) j alone

abbrev pub end_values : Writing → List Column → Tree → Tree → ℕ → Found
end_values w cs t u j = end_on w cs (slot_at t u j) (get_or (ends_of t u) j null)

unfoldable pub temporal_truth : Writing → List Column → Op → Tree → Tree → Truth
temporal_truth w cs o t u =
    cond_truth (end_values w cs t u) (translate (op_number o) (is_interval t) (is_interval u) (columns_of t u))

-- the sign of an operator of 8 to 13
unfoldable pub comparison : Op → Kind
comparison = entry ((Eq, EQ) ∷ (Neq, NE) ∷ (Lt, LT) ∷ (Gt, GT) ∷ (Lte, Le) ∷ (Gte, GE) ∷ []) EQ

-- a filter without an operator: Bool is what it says, Null is unknown
abbrev pub constant : Tree → Truth
constant t = pick (eqb (kind_of t) BOOL) (truth_of (eqb (get_or (fields_of t) 0 0) 1)) Unknown

-- by the operator of a node and the truths of its operands: NOT, or IS NULL and IS NOT NULL of a column
abbrev pub monadic_truth : Writing → List Column → Op → Tree → Truth → Truth
monadic_truth w cs o t a =
    pick (is_neg o) (not3 a)
    (pick (one_of o (IsNull ∷ [])) (nullity (value_on w cs t)) (not3 (nullity (value_on w cs t))))

-- AND, OR, a comparison, or a temporal predicate
abbrev pub dyadic_truth : Writing → List Column → Op → Tree → Tree → Truth → Truth → Truth
dyadic_truth w cs o t u a b =
    pick (is_and o) (and3 a b)
    (pick (is_or o) (or3 a b)
    (pick (compares o) (compared (comparison o) (value_on w cs t) (value_on w cs u)) (temporal_truth w cs o t u)))

unfoldable pub truth_on : Writing → List Column → Tree → Truth
truth_on w cs = by_operator constant (monadic_truth w cs) (dyadic_truth w cs)

-- an end is non-null if it is neither Null nor a column that is NULL there
unfoldable pub is_value : Found → Bool
is_value absent = false
is_value (has row.null) = false
is_value (has (val x)) = true

-- none of the columns of a tree is NULL on the row, which holds them
unfoldable pub columns_non_null : List Column → Tree → Bool
columns_non_null cs = everywhere (at_column is_value cs)

-- both ends are non-null, and the start lies below the end by the order of byte strings
unfoldable pub lies_below : Found → Found → Bool
lies_below absent y = false
lies_below (has row.null) y = false
lies_below (has (val x)) absent = false
lies_below (has (val x)) (has row.null) = false
lies_below (has (val x)) (has (val y)) = below x y

-- an interval with both ends non-null and its start below its end
abbrev pub proper : Writing → List Column → Tree → Tree → Bool
proper w cs start stop = lies_below (end_on w cs first_end start) (end_on w cs second_end stop)
