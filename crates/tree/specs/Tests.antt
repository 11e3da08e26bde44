-- The parts of a tree, one fold over all of its nodes, and the tests and ends that are stated by them: document 01, "Records" and "Atoms and
-- the four ends"; `impl E` of src/expr.rs and `unfold_expressions` of src/ds/sql.rs.
use Rattle.std.specs.Prelude.{ℕ, suc, List, [], ◌∷◌, Bool, true, false, get_or, eqb}
use Rattle.prelude.specs.Choice.{pick, both, either}
use Rattle.op.specs.declared.Op.{Op}
use Rattle.op.specs.Op.{op_number}
use Rattle.tree.specs.Kinds.{BOOL, NUM, STR, DATE, TIMESTAMP, SPATIAL, ID, ARRAY, INTERVAL}
use Rattle.tree.specs.Tree.{Tree, Trees, null, unbounded, bool, num, str, date, timestamp, spatial, id, monadic, dyadic, function, array, interval, none, ◌then◌, kind_of}

-- Parts.

-- the operands, items or ends of a node, in order
abbrev pub children : Tree → Trees
children null = none
children unbounded = none
children (bool b) = none
children (num m s) = none
children (str f s) = none
children (date y m d) = none
children (timestamp y m d h i s) = none
children (spatial n s) = none
children (id s) = none
children (monadic o t) = t then none
children (dyadic o t u) = t then (u then none)
children (function n ts) = ts
children (array ts) = ts
children (interval t u) = t then (u then none)

-- the numbers that a node holds, in the order of its record: a Bool's byte, a Num's scale, a Str's flags, the fields of a Date or Timestamp, an SRID
abbrev pub fields_of : Tree → List ℕ
fields_of null = []
fields_of unbounded = []
fields_of (bool b) = pick b 1 0 ∷ []
fields_of (num m s) = s ∷ []
fields_of (str f s) = f ∷ []
fields_of (date y m d) = y ∷ m ∷ d ∷ []
fields_of (timestamp y m d h i s) = y ∷ m ∷ d ∷ h ∷ i ∷ s ∷ []
fields_of (spatial n s) = n ∷ []
fields_of (id s) = []
fields_of (monadic o t) = []
fields_of (dyadic o t u) = []
fields_of (function n ts) = []
fields_of (array ts) = []
fields_of (interval t u) = []

-- the name of an Id
abbrev pub column_name : Tree → List ℕ
column_name null = []
column_name unbounded = []
column_name (bool b) = []
column_name (num m s) = []
column_name (str f s) = []
column_name (date y m d) = []
column_name (timestamp y m d h i s) = []
column_name (spatial n s) = []
column_name (id s) = s
column_name (monadic o t) = []
column_name (dyadic o t u) = []
column_name (function n ts) = []
column_name (array ts) = []
column_name (interval t u) = []

unfoldable pub first : Trees → Tree
first none = null
first (t then ts) = t

unfoldable pub second : Trees → Tree
second none = null
second (t then ts) = first ts

unfoldable pub count : Trees → ℕ
count none = 0
count (t then ts) = suc (count ts)

-- Folds.

-- p holds of every node of a tree, and of every node of some trees
unfoldable mutual
  pub everywhere : (Tree → Bool) → Tree → Bool
  everywhere p null = p null
  everywhere p unbounded = p unbounded
  everywhere p (bool b) = p (bool b)
  everywhere p (num m s) = p (num m s)
  everywhere p (str f s) = p (str f s)
  everywhere p (date y m d) = p (date y m d)
  everywhere p (timestamp y m d h i s) = p (timestamp y m d h i s)
  everywhere p (spatial n s) = p (spatial n s)
  everywhere p (id s) = p (id s)
  everywhere p (monadic o t) = both (p (monadic o t)) (everywhere p t)
  everywhere p (dyadic o t u) = both (p (dyadic o t u)) (both (everywhere p t) (everywhere p u))
  everywhere p (function n ts) = both (p (function n ts)) (everywhere_in p ts)
  everywhere p (array ts) = both (p (array ts)) (everywhere_in p ts)
  everywhere p (interval t u) = both (p (interval t u)) (both (everywhere p t) (everywhere p u))

  pub everywhere_in : (Tree → Bool) → Trees → Bool
  everywhere_in p none = true
  everywhere_in p (t then ts) = both (everywhere p t) (everywhere_in p ts)

-- what a tree comes to by its operators: `one` and `two` say it of a node by its operator, its operands and what these come to, `other` of
-- a node that has no operator
unfoldable pub by_operator : {A : Type 0} → (Tree → A) → (Op → Tree → A → A) → (Op → Tree → Tree → A → A → A) → Tree → A
by_operator other one two null = other null
by_operator other one two unbounded = other unbounded
by_operator other one two (bool b) = other (bool b)
by_operator other one two (num m s) = other (num m s)
by_operator other one two (str f s) = other (str f s)
by_operator other one two (date y m d) = other (date y m d)
by_operator other one two (timestamp y m d h i s) = other (timestamp y m d h i s)
by_operator other one two (spatial n s) = other (spatial n s)
by_operator other one two (id s) = other (id s)
by_operator other one two (monadic o t) = one o t (by_operator other one two t)
by_operator other one two (dyadic o t u) = two o t u (by_operator other one two t) (by_operator other one two u)
by_operator other one two (function n ts) = other (function n ts)
by_operator other one two (array ts) = other (array ts)
by_operator other one two (interval t u) = other (interval t u)

-- Tests.

-- a number is one of some
abbrev pub is_one_of : List ℕ → ℕ → Bool
is_one_of [] k = false
is_one_of (j ∷ js) k = either (eqb k j) (is_one_of js k)

-- a tree's kind is one of these
abbrev pub kind_in : List ℕ → Tree → Bool
kind_in ks t = is_one_of ks (kind_of t)

unfoldable pub is_id : Tree → Bool
is_id t = eqb (kind_of t) ID

unfoldable pub is_items : Tree → Bool
is_items t = eqb (kind_of t) ARRAY

unfoldable pub is_interval : Tree → Bool
is_interval t = eqb (kind_of t) INTERVAL

-- an Array of exactly two
unfoldable pub is_pair : Tree → Bool
is_pair t = both (is_items t) (eqb (count (children t)) 2)

-- a monadic node of the operator o
unfoldable pub is_monadic : Op → Tree → Bool
is_monadic o = by_operator (λ t. false) (λ p t r. eqb (op_number p) (op_number o)) (λ p t u r s. false)

-- a literal, or an array of nothing but literals: false for Null and Unbounded, true for an empty array
unfoldable pub is_literal : Tree → Bool
is_literal = everywhere (kind_in (BOOL ∷ NUM ∷ STR ∷ DATE ∷ TIMESTAMP ∷ SPATIAL ∷ ARRAY ∷ []))

unfoldable pub all_literal : Trees → Bool
all_literal = everywhere_in (kind_in (BOOL ∷ NUM ∷ STR ∷ DATE ∷ TIMESTAMP ∷ SPATIAL ∷ ARRAY ∷ []))

unfoldable pub is_literal_or_id : Tree → Bool
is_literal_or_id t = either (is_literal t) (is_id t)

-- Ends.

-- an interval's own; an instant is its start, and Null its partner
unfoldable pub start_of : Tree → Tree
start_of t = pick (is_interval t) (first (children t)) t

unfoldable pub stop_of : Tree → Tree
stop_of t = pick (is_interval t) (second (children t)) null

-- the four ends in order
unfoldable pub ends_of : Tree → Tree → List Tree
ends_of t u = start_of t ∷ stop_of t ∷ start_of u ∷ stop_of u ∷ []

-- which of them are columns
abbrev pub columns_of : Tree → Tree → ℕ → Bool
columns_of t u j = is_id (get_or (ends_of t u) j null)
