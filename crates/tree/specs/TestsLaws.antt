-- Laws of specs/Tests.antt: what holds everywhere holds of the node and of its ends, a rule for what a tree comes to by its operators, kinds
-- among kinds, and what a tree of a kind is.
use Rattle.std.specs.Prelude.{ℕ, ℤ, ◌≡◌, refl, List, [], ◌∷◌, Bool, eqb}
use Rattle.std.proofs.Common.{subst, eqb-true}
use Rattle.std.proofs.Math.Bool.{true, false}
use Rattle.std.proofs.lemmas.Bool.{false≢true}
use Rattle.prelude.specs.Choice.{pick, both, either}
use Rattle.prelude.specs.ChoiceLaws.{both_true}
use Rattle.op.specs.declared.Op.{Op}
use Rattle.tree.specs.Kinds.{ID, INTERVAL}
use Rattle.tree.specs.Tree.{Tree, Trees, null, unbounded, bool, num, str, date, timestamp, spatial, id, monadic, dyadic, function, array, interval, none, ◌then◌, kind_of}
use Rattle.tree.specs.Tests.{children, first, second, everywhere, everywhere_in, by_operator, is_one_of, is_id, is_interval, start_of, stop_of}

-- both tests pass
pub both_of : (a b : Bool) → a ≡ true → b ≡ true → both a b ≡ true
both_of true b e f = f
both_of false b e f = e

-- What holds everywhere.

module _ (p : Tree → Bool) where
  -- it holds of the node, and everywhere in its children
  pub everywhere_is : (t : Tree) → everywhere p t ≡ true → (p t ≡ true) × (everywhere_in p (children t) ≡ true)
  unfolding everywhere everywhere_in
  everywhere_is null e = (e, refl)
  everywhere_is unbounded e = (e, refl)
  everywhere_is (bool b) e = (e, refl)
  everywhere_is (num m s) e = (e, refl)
  everywhere_is (str f s) e = (e, refl)
  everywhere_is (date y m d) e = (e, refl)
  everywhere_is (timestamp y m d h i s) e = (e, refl)
  everywhere_is (spatial n s) e = (e, refl)
  everywhere_is (id s) e = (e, refl)
  everywhere_is (monadic o t) e =
      let h = both_true (p (monadic o t)) (everywhere p t) e in (h.0, both_of (everywhere p t) true h.1 refl)
  everywhere_is (dyadic o t u) e =
      let h = both_true (p (dyadic o t u)) (both (everywhere p t) (everywhere p u)) e in
      let k = both_true (everywhere p t) (everywhere p u) h.1 in
      (h.0, both_of (everywhere p t) (both (everywhere p u) true) k.0 (both_of (everywhere p u) true k.1 refl))
  everywhere_is (function n ts) e = both_true (p (function n ts)) (everywhere_in p ts) e
  everywhere_is (array ts) e = both_true (p (array ts)) (everywhere_in p ts) e
  everywhere_is (interval t u) e =
      let h = both_true (p (interval t u)) (both (everywhere p t) (everywhere p u)) e in
      let k = both_true (everywhere p t) (everywhere p u) h.1 in
      (h.0, both_of (everywhere p t) (both (everywhere p u) true) k.0 (both_of (everywhere p u) true k.1 refl))

  pub everywhere_here : (t : Tree) → everywhere p t ≡ true → p t ≡ true
  everywhere_here t e = (everywhere_is t e).0

  -- and, where it holds of Null, of the start and of the stop
  module _ (n : p null ≡ true) where
    everywhere_first : (ts : Trees) → everywhere_in p ts ≡ true → everywhere p (first ts) ≡ true
    unfolding everywhere everywhere_in first
    everywhere_first none e = n
    everywhere_first (t then ts) e = (both_true (everywhere p t) (everywhere_in p ts) e).0

    everywhere_second : (ts : Trees) → everywhere_in p ts ≡ true → everywhere p (second ts) ≡ true
    unfolding everywhere everywhere_in second
    everywhere_second none e = n
    everywhere_second (t then ts) e = everywhere_first ts (both_true (everywhere p t) (everywhere_in p ts) e).1

    pub everywhere_start : (t : Tree) → everywhere p t ≡ true → everywhere p (start_of t) ≡ true
    unfolding start_of
    everywhere_start t e = go (is_interval t)
      where
        go : (b : Bool) → everywhere p (pick b (first (children t)) t) ≡ true
        go true = everywhere_first (children t) (everywhere_is t e).1
        go false = e

    pub everywhere_stop : (t : Tree) → everywhere p t ≡ true → everywhere p (stop_of t) ≡ true
    unfolding stop_of everywhere
    everywhere_stop t e = go (is_interval t)
      where
        go : (b : Bool) → everywhere p (pick b (second (children t)) null) ≡ true
        go true = everywhere_second (children t) (everywhere_is t e).1
        go false = n

-- What a tree comes to by its operators, in two ways that a relation joins.
module _ {A B : Type 0} (other : Tree → A) (one : Op → Tree → A → A) (two : Op → Tree → Tree → A → A → A)
    (other' : Tree → B) (one' : Op → Tree → B → B) (two' : Op → Tree → Tree → B → B → B) (R : Tree → A → B → Type 0)
    (at_other : (t : Tree) → R t (other t) (other' t))
    (at_one : (o : Op) (t : Tree) (a : A) (b : B) → R t a b → R (monadic o t) (one o t a) (one' o t b))
    (at-two : (o : Op) (t u : Tree) (a c : A) (b d : B) → R t a b → R u c d → R (dyadic o t u) (two o t u a c) (two' o t u b d)) where
  pub by-operators : (t : Tree) → R t (by_operator other one two t) (by_operator other' one' two' t)
  unfolding by_operator
  by-operators null = at_other null
  by-operators unbounded = at_other unbounded
  by-operators (bool b) = at_other (bool b)
  by-operators (num m s) = at_other (num m s)
  by-operators (str f s) = at_other (str f s)
  by-operators (date y m d) = at_other (date y m d)
  by-operators (timestamp y m d h i s) = at_other (timestamp y m d h i s)
  by-operators (spatial n s) = at_other (spatial n s)
  by-operators (id s) = at_other (id s)
  by-operators (monadic o t) = at_one o t (by_operator other one two t) (by_operator other' one' two' t) (by-operators t)
  by-operators (dyadic o t u) =
      at-two o t u (by_operator other one two t) (by_operator other one two u) (by_operator other' one' two' t) (by_operator other' one' two' u)
      (by-operators t) (by-operators u)
  by-operators (function n ts) = at_other (function n ts)
  by-operators (array ts) = at_other (array ts)
  by-operators (interval t u) = at_other (interval t u)

-- and one way, of which something holds
pub by_operator_lem : {A : Type 0} (other : Tree → A) (one : Op → Tree → A → A) (two : Op → Tree → Tree → A → A → A) (P : Tree → A → Type 0)
    → ((t : Tree) → P t (other t)) → ((o : Op) (t : Tree) (a : A) → P t a → P (monadic o t) (one o t a))
    → ((o : Op) (t u : Tree) (a b : A) → P t a → P u b → P (dyadic o t u) (two o t u a b)) → (t : Tree) → P t (by_operator other one two t)
by_operator_lem other one two P at_other at_one at-two =
    by-operators other one two (λ t. true) (λ o t b. true) (λ o t u b d. true) (λ t a b. P t a) at_other
    (λ o t a b p. at_one o t a p) (λ o t u a c b d p q. at-two o t u a c p q)

-- Kinds.

-- each of some numbers is one of others
abbrev pub all_among : List ℕ → List ℕ → Bool
all_among [] js = true
all_among (k ∷ ks) js = both (is_one_of js k) (all_among ks js)

pub one_of_all : (ks js : List ℕ) (k : ℕ) → all_among ks js ≡ true → is_one_of ks k ≡ true → is_one_of js k ≡ true
one_of_all [] js k e f = absurd (false≢true f)
one_of_all (j ∷ ks) js k e f =
    let h = both_true (is_one_of js j) (all_among ks js) e in
    go (eqb k j) refl f h.0 (λ q. one_of_all ks js k h.1 q)
  where
    go : (b : Bool) → eqb k j ≡ b → either b (is_one_of ks k) ≡ true → is_one_of js j ≡ true → (is_one_of ks k ≡ true → is_one_of js k ≡ true) → is_one_of js k ≡ true
    go true q r a f = rw (eqb-true k j q) a
    go false q r a f = f r

-- a tree of a kind is made by its constructor
pub data OfKind : ℕ → Tree → Type 0 where
  of_null : OfKind 0 null
  of_unbounded : OfKind 1 unbounded
  of_bool : (b : Bool) → OfKind 2 (bool b)
  of_num : (m : ℤ) (s : ℕ) → OfKind 3 (num m s)
  of_str : (f : ℕ) (s : List ℕ) → OfKind 4 (str f s)
  of_date : (y m d : ℕ) → OfKind 5 (date y m d)
  of_timestamp : (y m d h i s : ℕ) → OfKind 6 (timestamp y m d h i s)
  of_spatial : (n : ℕ) (s : List ℕ) → OfKind 7 (spatial n s)
  of_id : (s : List ℕ) → OfKind 8 (id s)
  of_monadic : (o : Op) (t : Tree) → OfKind 9 (monadic o t)
  of_dyadic : (o : Op) (t u : Tree) → OfKind 10 (dyadic o t u)
  of_function : (n : List ℕ) (ts : Trees) → OfKind 11 (function n ts)
  of_array : (ts : Trees) → OfKind 12 (array ts)
  of_interval : (t u : Tree) → OfKind 13 (interval t u)

pub of_kind : (t : Tree) → OfKind (kind_of t) t
of_kind null = of_null
of_kind unbounded = of_unbounded
of_kind (bool b) = of_bool b
of_kind (num m s) = of_num m s
of_kind (str f s) = of_str f s
of_kind (date y m d) = of_date y m d
of_kind (timestamp y m d h i s) = of_timestamp y m d h i s
of_kind (spatial n s) = of_spatial n s
of_kind (id s) = of_id s
of_kind (monadic o t) = of_monadic o t
of_kind (dyadic o t u) = of_dyadic o t u
of_kind (function n ts) = of_function n ts
of_kind (array ts) = of_array ts
of_kind (interval t u) = of_interval t u

pub kind-is : (k : ℕ) (t : Tree) → kind_of t ≡ k → OfKind k t
kind-is k t e = subst (λ (j : ℕ). OfKind j t) e (of_kind t)

pub id_is : (t : Tree) → is_id t ≡ true → OfKind ID t
unfolding is_id
id_is t e = kind-is ID t (eqb-true (kind_of t) ID e)

pub interval_is : (t : Tree) → is_interval t ≡ true → OfKind INTERVAL t
unfolding is_interval
interval_is t e = kind-is INTERVAL t (eqb-true (kind_of t) INTERVAL e)
