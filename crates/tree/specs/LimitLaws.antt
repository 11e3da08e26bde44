-- What other limits change in the reading of a tree: nothing, but for a 2 or a 4 (document 02, slip 7). Along the recursion of the definitions: each
-- step with fewer levels decides the same, or stops with a 4.
use Prim.Native.Nat.{ℕ, zero, suc, ◌≤◌, min}
use Rattle.std.specs.Prelude.{◌≡◌, Bool, true, false, length, drop, ltb, eqb, Option, None, Some}
use Rattle.std.proofs.Math.Path.{refl, subst}
use Rattle.std.proofs.Common.{sym, ap, ◌∙◌, arith, ltb-true, ltb-false}
use Rattle.std.proofs.lemmas.Bool.{false≢true}
use mathlib.Core.List.{List, [], ◌∷◌}
use Rattle.prelude.specs.Choice.{pick, either}
use Rattle.refusal.specs.declared.Refusal.{Refusal}
use Rattle.refusal.specs.declared.Refusal.TheVariants.{BadSettings, TreeTooLong, BadFrame, TooDeep, BadKindOrOperator, BadField, BadOperand, TextTooLong, BufferTooShort, InputTooLong, BadRow, BadText, MissingColumn, ConstantOperands}
use Rattle.refusal.specs.Number.{number_of}
use Rattle.record.specs.declared.Frame.{Frame}
use Rattle.record.specs.Record.{frame, le16}
use Rattle.charset.specs.Named.{past, named_at}
use Rattle.op.specs.declared.Op.{Op}
use Rattle.op.specs.Op.{op_of}
use Rattle.tree.specs.declared.Limits.{Limits}
use Rattle.tree.specs.Limits.{NoGreater, planner}
use Rattle.tree.specs.LimitWords.{up_to_planner}
use Rattle.tree.specs.Tests.{first, second}
use Rattle.tree.specs.Tree.{Tree, Trees, Settings, monadic, dyadic}
use Rattle.tree.specs.Parse.{Read, refused, got, also, Body, cons, exactly, many, items, takes_one, takes_two, allowed, operated, read_function, choose, kinds, node, parse}
use Rattle.tree.specs.Placed.{placed}
use Rattle.tree.specs.Accepted.{settings, accepted}
use Rattle.tree.specs.AcceptedLaws.{accepted-is, accepted_of}
use Rattle.tree.specs.ParseLaws.{not_got}

-- Limits that are no greater than the planner's are taken as they are.
pub own_limits : (a : Limits) → NoGreater a planner → up_to_planner a ≡ a
own_limits a h =
    let x : min a.tree planner.tree ≡ a.tree = omega (arith, h.tree) in
    let y : min a.depth planner.depth ≡ a.depth = omega (arith, h.depth) in
    let z : min a.text planner.text ≡ a.text = omega (arith, h.text) in
    simp (x, y, z) refl

-- a refusal stands in a list of them
abbrev pub is_of : List Refusal → Refusal → Bool
is_of [] n = false
is_of (r ∷ rs) n = either (eqb (number_of r) (number_of n)) (is_of rs n)

-- x is what y is, or a refusal of the list
pub data Else {A : Type 0} (rs : List Refusal) (x y : Read A) : Type 0 where
  alike : x ≡ y → Else rs x y
  stops : (n : Refusal) → is_of rs n ≡ true → x ≡ refused n → Else rs x y

module _ (rs : List Refusal) where
  also_else : {A B : Type 0} (x y : Read A) (f g : A → Read B) → Else rs x y → ((a : A) → Else rs (f a) (g a)) → Else rs (also x f) (also y g)
  unfolding also
  also_else (refused n) y f g (alike e) h = alike (ap (λ r. also r g) e)
  also_else (got a) y f g (alike e) h = subst (λ r. Else rs (f a) (also r g)) e (h a)
  also_else x y f g (stops n i e) h = stops n i (ap (λ r. also r f) e)

  pick_else : {A : Type 0} (b : Bool) (x y u v : Read A) → Else rs x y → Else rs u v → Else rs (pick b x u) (pick b y v)
  pick_else true x y u v h k = h
  pick_else false x y u v h k = k

  -- Records below which each body decides the same, or stops.
  module _ (body other : Body) (below : (j : ℕ) (s : List ℕ) → Else rs (body j s) (other j s)) where
    cons_else : (s : List ℕ) (f : Option Frame) (more same : List ℕ → Read Trees) → ((t : List ℕ) → Else rs (more t) (same t)) → Else rs (cons body s f more) (cons other s f same)
    unfolding cons
    cons_else s None more same h = alike refl
    cons_else s (Some f) more same h = also_else _ _ _ _ (below f.kind _) (λ t. also_else _ _ _ _ (h (drop f.end s)) (λ ts. alike refl))

    exactly_else : (n : ℕ) (s : List ℕ) → Else rs (exactly body n s) (exactly other n s)
    unfolding exactly
    exactly_else zero s = alike refl
    exactly_else (suc n) s = cons_else s (frame s) _ _ (λ t. exactly_else n t)

    many_else : (n : ℕ) (s : List ℕ) → Else rs (many body n s) (many other n s)
    unfolding many
    many_else zero s = alike refl
    many_else (suc n) [] = alike refl
    many_else (suc n) (x ∷ s) = cons_else (x ∷ s) (frame (x ∷ s)) _ _ (λ t. many_else n t)

    operated_else : (test : Op → Bool) (make : Op → Trees → Tree) (n : ℕ) (s : List ℕ) → Else rs (operated test make n body s) (operated test make n other s)
    unfolding operated allowed
    operated_else test make n s = pick_else (ltb (length s) 2) _ _ _ _ (alike refl) (go (op_of (le16 s 0)))
      where
        go : (o : Option Op) → Else rs (allowed test (λ o. also (exactly body n (drop 2 s)) (λ ts. got (make o ts))) o) (allowed test (λ o. also (exactly other n (drop 2 s)) (λ ts. got (make o ts))) o)
        go None = alike refl
        go (Some o) = pick_else (test o) _ _ _ _ (also_else _ _ _ _ (exactly_else n (drop 2 s)) (λ ts. alike refl)) (alike refl)

    function_else : (s : List ℕ) → Else rs (read_function body s) (read_function other s)
    unfolding read_function
    function_else s = pick_else (named_at s 0) _ _ _ _ (also_else (items body (drop (past s 0) s)) (items other (drop (past s 0) s)) _ _ (many_else _ _) (λ ts. alike refl)) (alike refl)

    -- one line for each line of the table; a body without records is read alike
    kinds_else : (k : ℕ) (s : List ℕ) → Else rs (choose k s (kinds body)) (choose k s (kinds other))
    unfolding choose kinds
    kinds_else k s =
        pick_else (eqb k 0) _ _ _ _ (alike refl)
        (pick_else (eqb k 1) _ _ _ _ (alike refl)
        (pick_else (eqb k 2) _ _ _ _ (alike refl)
        (pick_else (eqb k 3) _ _ _ _ (alike refl)
        (pick_else (eqb k 4) _ _ _ _ (alike refl)
        (pick_else (eqb k 5) _ _ _ _ (alike refl)
        (pick_else (eqb k 6) _ _ _ _ (alike refl)
        (pick_else (eqb k 7) _ _ _ _ (alike refl)
        (pick_else (eqb k 8) _ _ _ _ (alike refl)
        (pick_else (eqb k 9) _ _ _ _ (operated_else takes_one (λ o ts. monadic o (first ts)) 1 s)
        (pick_else (eqb k 10) _ _ _ _ (operated_else takes_two (λ o ts. dyadic o (first ts) (second ts)) 2 s)
        (pick_else (eqb k 11) _ _ _ _ (function_else s)
        (pick_else (eqb k 12) _ _ _ _ (also_else (items body s) (items other s) _ _ (many_else (length s) s) (λ ts. alike refl))
        (pick_else (eqb k 13) _ _ _ _ (also_else (exactly body 2 s) (exactly other 2 s) _ _ (exactly_else 2 s) (λ ts. alike refl))
        (alike refl))))))))))))))

-- the refusal of a tree by its levels
abbrev pub deeper : List Refusal
deeper = TooDeep ∷ []

pub deeper-is : (n : Refusal) → is_of deeper n ≡ true → n ≡ TooDeep
deeper-is BadSettings i = absurd (false≢true i)
deeper-is TreeTooLong i = absurd (false≢true i)
deeper-is BadFrame i = absurd (false≢true i)
deeper-is TooDeep i = refl
deeper-is BadKindOrOperator i = absurd (false≢true i)
deeper-is BadField i = absurd (false≢true i)
deeper-is BadOperand i = absurd (false≢true i)
deeper-is TextTooLong i = absurd (false≢true i)
deeper-is BufferTooShort i = absurd (false≢true i)
deeper-is InputTooLong i = absurd (false≢true i)
deeper-is BadRow i = absurd (false≢true i)
deeper-is BadText i = absurd (false≢true i)
deeper-is MissingColumn i = absurd (false≢true i)
deeper-is ConstantOperands i = absurd (false≢true i)

node_else : (n m k : ℕ) (s : List ℕ) → n ≤ m → Else deeper (node n k s) (node m k s)
unfolding node
node_else zero m k s h = stops TooDeep refl refl
node_else (suc n) zero k s h = absurd (omega arith)
node_else (suc n) (suc m) k s h = kinds_else deeper (λ j b. node n j b) (λ j b. node m j b) (λ j b. node_else n m j b (omega arith)) k s

-- With fewer levels a tree is read alike, or refused with 4.
pub parse_else : (n m : ℕ) (s : List ℕ) → n ≤ m → Else deeper (parse n s) (parse m s)
unfolding parse
parse_else n m s h = also_else deeper (exactly (node n) 1 s) (exactly (node m) 1 s) _ _ (exactly_else deeper (node n) (node m) (λ j b. node_else n m j b h) 1 s) (λ ts. alike refl)

-- What is read with some levels is read alike with more.
parse-more : (n m : ℕ) (s : List ℕ) (t : Tree) → n ≤ m → parse n s ≡ got t → parse m s ≡ got t
parse-more n m s t h e = go (parse_else n m s h)
  where
    go : Else deeper (parse n s) (parse m s) → parse m s ≡ got t
    go (alike q) = sym q ∙ e
    go (stops k i q) = not_got k t (sym q ∙ e)

-- and with any other levels alike, or refused with 4
pub parse_other : (n m : ℕ) (s : List ℕ) (t : Tree) → parse m s ≡ got t → Else deeper (parse n s) (got t)
parse_other n m s t e = go (ltb m n) refl
  where
    fewer : Else deeper (parse n s) (parse m s) → Else deeper (parse n s) (got t)
    fewer (alike q) = alike (q ∙ e)
    fewer (stops k i q) = stops k i q

    go : (b : Bool) → ltb m n ≡ b → Else deeper (parse n s) (got t)
    go true q = let l = ltb-true m n q in alike (parse-more m n s t (omega arith) e)
    go false q = fewer (parse_else n m s (ltb-false m n q))

-- What is accepted within some limits is accepted within any that are no smaller.
pub accepted-more : (a b : Limits) (c s : List ℕ) (p : Settings × Tree) → NoGreater a b → accepted a c s ≡ got p → accepted b c s ≡ got p
accepted-more a b c s p h e =
    let q = accepted-is a c s p.0 p.1 e in
    accepted_of b c s p.0 p.1 q.0 (omega (arith, q.1, h.tree)) (parse-more a.depth b.depth s p.1 h.depth q.2) q.3

-- the refusals of a tree by its size
abbrev pub sizes : List Refusal
sizes = TreeTooLong ∷ TooDeep ∷ []

-- What is accepted within some limits is within any others the same, or refused with 2 or 4.
pub accepted_other : (a b : Limits) (c s : List ℕ) (p : Settings × Tree) → accepted b c s ≡ got p → Else sizes (accepted a c s) (got p)
unfolding accepted also
accepted_other a b c s p e =
    let q = accepted-is b c s p.0 p.1 e in
    go (ltb a.tree (length s)) refl q.0 q.3 (parse_other a.depth b.depth s p.1 q.2)
  where
    among : (n : Refusal) → is_of deeper n ≡ true → is_of sizes n ≡ true
    among n i = go (eqb (number_of TreeTooLong) (number_of n)) i
      where
        go : (x : Bool) → is_of deeper n ≡ true → either x (is_of deeper n) ≡ true
        go true i = refl
        go false i = i

    go : (x : Bool) → ltb a.tree (length s) ≡ x → settings c ≡ got p.0 → placed p.1 ≡ true → Else deeper (parse a.depth s) (got p.1) → Else sizes (accepted a c s) (got p)
    go true l g o r = stops TreeTooLong refl (simp (g, l))
    go false l g o (alike r) = alike (accepted_of a c s p.0 p.1 g (ltb-false a.tree (length s) l) r o)
    go false l g o (stops n i r) = stops n (among n i) (simp (g, l, r))
