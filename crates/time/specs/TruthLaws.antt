-- Laws of the three-valued tables, of comparing two values from either side, of a guard in front of a condition, and of an end's slot.
-- The tables are gone through by their cases; two orders that face each other are one of three pairs.
use Rattle.std.specs.Prelude.{ℕ, ◌≡◌, refl, List, Bool, true, false, eqb}
use Rattle.std.proofs.Common.{sym, ap, ◌∙◌, ⊎_elim}
use Rattle.prelude.specs.Choice.{pick, both, either, negated, some}
use Rattle.std.specs.declared.cmp.Ordering.{Ordering}
use Rattle.std.specs.declared.cmp.Ordering.TheVariants.{Less, Equal, Greater}
use Rattle.order.specs.Order.{order}
use Rattle.order.specs.OrderLaws.{order_refl, order_same, order_above, order_below, order_cases}
use Rattle.tree.specs.Kinds.{UNBOUNDED, ID}
use Rattle.tree.specs.Tree.{Tree, null, unbounded, bool, num, str, date, timestamp, spatial, id, monadic, dyadic, function, array, interval, kind_of}
use Rattle.tree.specs.Tests.{column_name, is_id}
use Rattle.tree.specs.TestsLaws.{OfKind, of_id, id_is}
use Rattle.literal.specs.declared.Writing.{Writing}
use Rattle.literal.specs.Literal.{Slot, open_end}
use Rattle.row.specs.Row.{val, Column, Found, absent, has, look}
use Rattle.row.specs.Row as row
use Rattle.truth.specs.declared.Truth.{Truth}
use Rattle.truth.specs.declared.Truth.TheVariants.{True, False, Unknown, Missing}
use Rattle.lexer.specs.declared.Kind.{Kind}
use Rattle.lexer.specs.declared.Kind.TheVariants.{Lt as LT, Gt as GT, Eq as EQ, Ne as NE}
use Rattle.truth.specs.Grammar.{text, value, not3, and3, or3, truth_of, compared, nullity, holds}
use Rattle.sql.specs.Condition as sql
use Rattle.time.specs.FilterTruth.{tree_atom, end_atom, value_on, end_on, found, at_column, cond_truth, is_value}

-- The tables.

pub and3_comm : (a b : Truth) → and3 a b ≡ and3 b a
and3_comm True True = refl
and3_comm True False = refl
and3_comm True Unknown = refl
and3_comm True Missing = refl
and3_comm False True = refl
and3_comm False False = refl
and3_comm False Unknown = refl
and3_comm False Missing = refl
and3_comm Unknown True = refl
and3_comm Unknown False = refl
and3_comm Unknown Unknown = refl
and3_comm Unknown Missing = refl
and3_comm Missing True = refl
and3_comm Missing False = refl
and3_comm Missing Unknown = refl
and3_comm Missing Missing = refl

pub or3_comm : (a b : Truth) → or3 a b ≡ or3 b a
or3_comm True True = refl
or3_comm True False = refl
or3_comm True Unknown = refl
or3_comm True Missing = refl
or3_comm False True = refl
or3_comm False False = refl
or3_comm False Unknown = refl
or3_comm False Missing = refl
or3_comm Unknown True = refl
or3_comm Unknown False = refl
or3_comm Unknown Unknown = refl
or3_comm Unknown Missing = refl
or3_comm Missing True = refl
or3_comm Missing False = refl
or3_comm Missing Unknown = refl
or3_comm Missing Missing = refl

pub and3_assoc : (a b c : Truth) → and3 (and3 a b) c ≡ and3 a (and3 b c)
and3_assoc True b c = refl
and3_assoc False True c = refl
and3_assoc False False True = refl
and3_assoc False False False = refl
and3_assoc False False Unknown = refl
and3_assoc False False Missing = refl
and3_assoc False Unknown True = refl
and3_assoc False Unknown False = refl
and3_assoc False Unknown Unknown = refl
and3_assoc False Unknown Missing = refl
and3_assoc False Missing c = refl
and3_assoc Unknown True c = refl
and3_assoc Unknown False True = refl
and3_assoc Unknown False False = refl
and3_assoc Unknown False Unknown = refl
and3_assoc Unknown False Missing = refl
and3_assoc Unknown Unknown True = refl
and3_assoc Unknown Unknown False = refl
and3_assoc Unknown Unknown Unknown = refl
and3_assoc Unknown Unknown Missing = refl
and3_assoc Unknown Missing c = refl
and3_assoc Missing b c = refl

pub not3_twice : (a : Truth) → not3 (not3 a) ≡ a
not3_twice True = refl
not3_twice False = refl
not3_twice Unknown = refl
not3_twice Missing = refl

-- on what is known the tables are those of two values
pub and3-known : (p q : Bool) → and3 (truth_of p) (truth_of q) ≡ truth_of (both p q)
and3-known true q = refl
and3-known false true = refl
and3-known false false = refl

pub or3-known : (p q : Bool) → or3 (truth_of p) (truth_of q) ≡ truth_of (either p q)
or3-known false q = refl
or3-known true true = refl
or3-known true false = refl

pub not3-known : (p : Bool) → not3 (truth_of p) ≡ truth_of (negated p)
not3-known true = refl
not3-known false = refl

-- Comparing from either side.

-- the orders of two strings, one way and the other
pub orders : (P : Ordering → Ordering → Type 0) → P Less Greater → P Equal Equal → P Greater Less → (x y : List ℕ) → P (order x y) (order y x)
orders P below same above x y =
    ⊎_elim (λ (e : order x y ≡ Less). rw (e, order_above x y e) below)
    (⊎_elim (λ (e : order x y ≡ Equal). let q : x ≡ y = order_same x y e in rw (q, order_refl y) same)
    (λ (e : order x y ≡ Greater). rw (e, order_below x y e) above))
    (order_cases x y)

-- a sign and the sign that says the same from the other side
abbrev pub Facing : Kind → Kind → Type 0
Facing p q = (holds p Less ≡ holds q Greater) × (holds p Equal ≡ holds q Equal) × (holds p Greater ≡ holds q Less)

pub facing : (p q : Kind) → Facing p q → (x y : Found) → compared p x y ≡ compared q y x
facing p q h absent absent = refl
facing p q h absent (has y) = refl
facing p q h (has x) absent = refl
facing p q h (has row.null) (has row.null) = refl
facing p q h (has row.null) (has (val y)) = refl
facing p q h (has (val x)) (has row.null) = refl
facing p q h (has (val x)) (has (val y)) =
    ap truth_of (orders (λ m n. holds p m ≡ holds q n) h.0 h.1 h.2 x y)

pub lt_gt : (x y : Found) → compared LT x y ≡ compared GT y x
unfolding holds some
lt_gt = facing LT GT (refl, refl, refl)

pub gt_lt : (x y : Found) → compared GT x y ≡ compared LT y x
unfolding holds some
gt_lt = facing GT LT (refl, refl, refl)

pub eq_eq : (x y : Found) → compared EQ x y ≡ compared EQ y x
unfolding holds some
eq_eq = facing EQ EQ (refl, refl, refl)

pub ne_ne : (x y : Found) → compared NE x y ≡ compared NE y x
unfolding holds some
ne_ne = facing NE NE (refl, refl, refl)

-- Guards.

-- a column x in front of a condition whose truth is b
abbrev pub guard : Bool → Found → Truth → Truth
guard c x b = pick c (and3 (not3 (nullity x)) b) b

pub guards_swap : (c d : Bool) (x y : Found) (b : Truth) → guard c x (guard d y b) ≡ guard d y (guard c x b)
guards_swap true true x y b =
    sym (and3_assoc (not3 (nullity x)) (not3 (nullity y)) b)
    ∙ ap (λ a. and3 a b) (and3_comm (not3 (nullity x)) (not3 (nullity y)))
    ∙ and3_assoc (not3 (nullity y)) (not3 (nullity x)) b
guards_swap true false x y b = refl
guards_swap false d x y b = refl

-- a column that has a value guards nothing
pub guard_passes : (c : Bool) (x : Found) (b : Truth) → is_value x ≡ true → guard c x b ≡ b
unfolding is_value
guard_passes true absent b e = let z : false ≡ true = e in cc
guard_passes true (has row.null) b e = let z : false ≡ true = e in cc
guard_passes true (has (val x)) b e = refl
guard_passes false x b e = refl

pub check_id_lem : (v : ℕ → Found) (c : ℕ → Bool) (i : ℕ) (base : sql.Cond)
    → cond_truth v (sql.check_id c i base) ≡ guard (c i) (v i) (cond_truth v base)
unfolding cond_truth sql.check_id
check_id_lem v c i base = go (c i)
  where
    go : (b : Bool) → cond_truth v (pick b (sql.and (sql.is_not_null i) (sql.brackets base)) base) ≡ guard b (v i) (cond_truth v base)
    go true = refl
    go false = refl

pub check_ids_lem : (v : ℕ → Found) (c : ℕ → Bool) (i j : ℕ) (base : sql.Cond)
    → cond_truth v (sql.check_ids c i j base) ≡ guard (c i) (v i) (guard (c j) (v j) (cond_truth v base))
unfolding cond_truth sql.check_ids
check_ids_lem v c i j base = go (c i) (c j)
  where
    go : (b d : Bool)
        → cond_truth v (pick b
        (pick d (sql.and (sql.and (sql.is_not_null i) (sql.not_null j)) (sql.brackets base)) (sql.and (sql.is_not_null i) (sql.brackets base)))
        (pick d (sql.and (sql.is_not_null j) (sql.brackets base)) base))
        ≡ guard b (v i) (guard d (v j) (cond_truth v base))
    go true true = and3_assoc (not3 (nullity (v i))) (not3 (nullity (v j))) (cond_truth v base)
    go true false = refl
    go false true = refl
    go false false = refl

-- Columns.

-- the value of a column is the row's
pub column_value : (writing : Writing) (cs : List Column) (t : Tree) → is_id t ≡ true → value_on writing cs t ≡ look (column_name t) cs
unfolding value_on tree_atom value
column_value writing cs t e = go t (id_is t e)
  where
    go : (t : Tree) → OfKind ID t → value_on writing cs t ≡ look (column_name t) cs
    go t (of_id s) = refl

-- all else has its value without a row
pub value_found : (writing : Writing) (cs : List Column) (t : Tree) → at_column found cs t ≡ found (value_on writing cs t)
unfolding value_on tree_atom value is_id
value_found writing cs null = refl
value_found writing cs unbounded = refl
value_found writing cs (bool b) = refl
value_found writing cs (num m s) = refl
value_found writing cs (str f s) = refl
value_found writing cs (date y m d) = refl
value_found writing cs (timestamp y m d h i s) = refl
value_found writing cs (spatial n s) = refl
value_found writing cs (id s) = refl
value_found writing cs (monadic o t) = refl
value_found writing cs (dyadic o t u) = refl
value_found writing cs (function n ts) = refl
value_found writing cs (array ts) = refl
value_found writing cs (interval t u) = refl

-- Ends by their slots.

-- what holds of the string that a slot spells and of the tree's value holds of the end's value
pub end_on_lem : (P : Found → Bool) (writing : Writing) (cs : List Column) (slot : Slot) (t : Tree) → P (has (val (open_end writing slot))) ≡ true → P (value_on writing cs t) ≡ true
    → P (end_on writing cs slot t) ≡ true
unfolding end_on end_atom value_on value
end_on_lem P writing cs slot t e f = go (eqb (kind_of t) UNBOUNDED)
  where
    go : (b : Bool) → P (value cs (pick b (text (open_end writing slot)) (tree_atom writing t))) ≡ true
    go true = e
    go false = f
