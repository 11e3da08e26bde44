-- Which refusals a check of settings and tree can give: of a tree 2 to 7, with its settings 1 to 7 (document 01, "What a caller hears"). Along the
-- recursion of the definitions: each step gives a value or one of these.
use Prim.Native.Nat.{ℕ, zero, suc}
use Rattle.std.specs.Prelude.{◌≡◌, Bool, false, length, get_or, drop, ltb, eqb, Option, None, Some}
use Rattle.std.proofs.Math.Path.{refl}
use Rattle.std.proofs.Common.{sym, ap, ◌∙◌}
use Rattle.std.proofs.Math.Bool.{true}
use Rattle.std.proofs.lemmas.Bool.{false≢true}
use mathlib.Core.List.{List, [], ◌∷◌, ◌++◌}
use Rattle.prelude.specs.Choice.{pick, either}
use Rattle.refusal.specs.declared.Refusal.{Refusal}
use Rattle.refusal.specs.declared.Refusal.TheVariants.{BadSettings, TreeTooLong, BadFrame, TooDeep, BadKindOrOperator, BadField, BadOperand}
use Rattle.refusal.specs.Number.{number_of}
use Rattle.record.specs.declared.Frame.{Frame}
use Rattle.record.specs.Record.{frame, le16, le32}
use Rattle.charset.specs.Charset.{name}
use Rattle.charset.specs.Named.{name_at, past, named_at}
use Rattle.settings.specs.Settings.{is_settings}
use Rattle.op.specs.declared.Op.{Op}
use Rattle.op.specs.Op.{op_of}
use Rattle.tree.specs.declared.Limits.{Limits}
use Rattle.tree.specs.Tests.{first, second}
use Rattle.tree.specs.Tree.{Tree, Trees, null, unbounded, bool, num, str, date, timestamp, spatial, id, monadic, dyadic, function, array, interval}
use Rattle.tree.specs.Parse.{Read, refused, got, also, Body, Row, cons, end, exactly, many, items, mantissa, empty_body, bool_body, num_body, str_body, date_body, timestamp_body, spatial_body, leaf, takes_one, takes_two, allowed, operated, read_function, choose, kinds, node, parse}
use Rattle.tree.specs.Placed.{placed}
use Rattle.tree.specs.Accepted.{settings, accepted_tree, accepted}
use Rattle.tree.specs.AcceptedLaws.{accepted_parts}
use Rattle.tree.specs.LimitLaws.{is_of}

-- refusals 2 to 7, of a tree
abbrev pub of_tree : List Refusal
of_tree = TreeTooLong ∷ BadFrame ∷ TooDeep ∷ BadKindOrOperator ∷ BadField ∷ BadOperand ∷ []

-- refusals 1 to 7, of settings and tree
abbrev pub early : List Refusal
early = BadSettings ∷ of_tree

-- a value, or a refusal of the list
abbrev pub gives : {A : Type 0} → List Refusal → Read A → Bool
gives rs (refused n) = is_of rs n
gives rs (got a) = true

pub also-gives : {A B : Type 0} (rs : List Refusal) (r : Read A) (f : A → Read B) → gives rs r ≡ true → ((a : A) → gives rs (f a) ≡ true) → gives rs (also r f) ≡ true
unfolding also
also-gives rs (refused n) f e g = e
also-gives rs (got a) f e g = g a

pub pick_gives : {A : Type 0} (rs : List Refusal) (b : Bool) (x y : Read A) → gives rs x ≡ true → gives rs y ≡ true → gives rs (pick b x y) ≡ true
pick_gives rs true x y e f = e
pick_gives rs false x y e f = f

-- all lines of a table of kinds
abbrev Each : List ℕ → List Row → Type 0
Each s [] = ◌≡◌ {A = ℕ} 0 0
Each s (r ∷ rs) = (gives of_tree (r.read s) ≡ true) × Each s rs

choose-gives : (k : ℕ) (s : List ℕ) (rs : List Row) → Each s rs → gives of_tree (choose k s rs) ≡ true
unfolding choose
choose-gives k s [] e = refl
choose-gives k s (r ∷ rs) e = pick_gives of_tree (eqb k r.kind) (r.read s) (choose k s rs) e.0 (choose-gives k s rs e.1)

-- Records below which each body gives one of 2 to 7.
module _ (body : Body) (below : (j : ℕ) (s : List ℕ) → gives of_tree (body j s) ≡ true) where
  cons-gives : (s : List ℕ) (f : Option Frame) (more : List ℕ → Read Trees) → ((t : List ℕ) → gives of_tree (more t) ≡ true) → gives of_tree (cons body s f more) ≡ true
  unfolding cons
  cons-gives s None more h = refl
  cons-gives s (Some f) more h = also-gives of_tree _ _ (below f.kind _) (λ t. also-gives of_tree _ _ (h (drop f.end s)) (λ ts. refl))

  end-gives : (s : List ℕ) → gives of_tree (end s) ≡ true
  unfolding end
  end-gives [] = refl
  end-gives (x ∷ s) = refl

  exactly-gives : (n : ℕ) (s : List ℕ) → gives of_tree (exactly body n s) ≡ true
  unfolding exactly
  exactly-gives zero s = end-gives s
  exactly-gives (suc n) s = cons-gives s (frame s) _ (λ t. exactly-gives n t)

  many-gives : (n : ℕ) (s : List ℕ) → gives of_tree (many body n s) ≡ true
  unfolding many
  many-gives zero s = end-gives s
  many-gives (suc n) [] = refl
  many-gives (suc n) (x ∷ s) = cons-gives (x ∷ s) (frame (x ∷ s)) _ (λ t. many-gives n t)

  operated-gives : (test : Op → Bool) (make : Op → Trees → Tree) (n : ℕ) (s : List ℕ) → gives of_tree (operated test make n body s) ≡ true
  unfolding operated allowed
  operated-gives test make n s = pick_gives of_tree (ltb (length s) 2) _ _ refl (go (op_of (le16 s 0)))
    where
      go : (o : Option Op) → gives of_tree (allowed test (λ o. also (exactly body n (drop 2 s)) (λ ts. got (make o ts))) o) ≡ true
      go None = refl
      go (Some o) = pick_gives of_tree (test o) _ _ (also-gives of_tree _ _ (exactly-gives n (drop 2 s)) (λ ts. refl)) refl

  function_gives : (s : List ℕ) → gives of_tree (read_function body s) ≡ true
  unfolding read_function
  function_gives s =
      pick_gives of_tree (named_at s 0) (also (items body (drop (past s 0) s)) (λ ts. got (function (name_at s 0) ts))) (refused BadField)
      (also-gives of_tree (items body (drop (past s 0) s)) _ (many-gives _ _) (λ ts. refl))
      refl

  leaf-gives : (right : List ℕ → Bool) (make : List ℕ → Tree) (s : List ℕ) → gives of_tree (leaf right make s) ≡ true
  leaf-gives right make s = pick_gives of_tree (right s) _ _ refl refl

  -- one line for each line of the table
  kinds-gives : (k : ℕ) (s : List ℕ) → gives of_tree (choose k s (kinds body)) ≡ true
  unfolding kinds
  kinds-gives k s =
      choose-gives k s (kinds body) (
        leaf-gives empty_body (λ s. null) s,
        (
          leaf-gives empty_body (λ s. unbounded) s,
          (
            leaf-gives bool_body (λ s. bool (eqb (get_or s 0 0) 1)) s,
            (
              leaf-gives num_body (λ s. num (mantissa s 0) (get_or s 8 0)) s,
              (
                leaf-gives str_body (λ s. str (get_or s 0 0) (drop 1 s)) s,
                (
                  leaf-gives date_body (λ s. date (le16 s 0) (get_or s 2 0) (get_or s 3 0)) s,
                  (
                    leaf-gives timestamp_body (λ s. timestamp (le16 s 0) (get_or s 2 0) (get_or s 3 0) (get_or s 4 0) (get_or s 5 0) (get_or s 6 0)) s,
                    (
                      leaf-gives spatial_body (λ s. spatial (le32 s 0) (drop 4 s)) s,
                      (
                        leaf-gives name (λ s. id s) s,
                        (
                          operated-gives takes_one (λ o ts. monadic o (first ts)) 1 s,
                          (
                            operated-gives takes_two (λ o ts. dyadic o (first ts) (second ts)) 2 s,
                            (
                              function_gives s,
                              (
                                also-gives of_tree (items body s) (λ ts. got (array ts)) (many-gives (length s) s) (λ ts. refl),
                                (
                                  also-gives of_tree (exactly body 2 s) (λ ts. got (interval (first ts) (second ts))) (exactly-gives 2 s) (λ ts. refl),
                                  refl,
                                ),
                              ),
                            ),
                          ),
                        ),
                      ),
                    ),
                  ),
                ),
              ),
            ),
          ),
        ),
      )

node-gives : (levels k : ℕ) (s : List ℕ) → gives of_tree (node levels k s) ≡ true
unfolding node
node-gives zero k s = refl
node-gives (suc n) k s = kinds-gives (λ j b. node n j b) (λ j b. node-gives n j b) k s

pub tree_gives : (l : Limits) (s : List ℕ) → gives of_tree (accepted_tree l s) ≡ true
unfolding accepted_tree parse
tree_gives l s =
    pick_gives of_tree (ltb l.tree (length s)) _ _ refl
    (also-gives of_tree _ _ (also-gives of_tree _ _ (exactly-gives (node l.depth) (λ j b. node-gives l.depth j b) 1 s) (λ ts. refl)) (λ t.
    pick_gives of_tree (placed t) _ _ refl refl))

-- more refusals, before or after
earlier : {A : Type 0} (m : Refusal) (rs : List Refusal) (r : Read A) → gives rs r ≡ true → gives (m ∷ rs) r ≡ true
earlier m rs (refused n) e = go (eqb (number_of m) (number_of n)) (is_of rs n) e
  where
    go : (b c : Bool) → c ≡ true → either b c ≡ true
    go true c z = refl
    go false c z = z
earlier m rs (got a) e = refl

longer : (rs more : List Refusal) (n : Refusal) → is_of rs n ≡ true → is_of (rs ++ more) n ≡ true
longer [] more n e = absurd (false≢true e)
longer (r ∷ rs) more n e = go (eqb (number_of r) (number_of n)) (λ z. longer rs more n z) e
  where
    go : (b : Bool) → (is_of rs n ≡ true → is_of (rs ++ more) n ≡ true) → either b (is_of rs n) ≡ true → either b (is_of (rs ++ more) n) ≡ true
    go true f z = refl
    go false f z = f z

pub later : {A : Type 0} (rs more : List Refusal) (r : Read A) → gives rs r ≡ true → gives (rs ++ more) r ≡ true
later rs more (refused n) e = longer rs more n e
later rs more (got a) e = refl

pub accepted-gives : (l : Limits) (c s : List ℕ) → gives early (accepted l c s) ≡ true
unfolding settings
accepted-gives l c s =
    ap (gives early) (accepted_parts l c s)
    ∙ also-gives early (settings c) _ (pick_gives early (is_settings c) _ _ refl refl) (λ g.
    also-gives early _ _ (earlier BadSettings of_tree (accepted_tree l s) (tree_gives l s)) (λ t. refl))

pub refuses : {A : Type 0} {r : Read A} {n : Refusal} (rs : List Refusal) → gives rs r ≡ true → r ≡ refused n → is_of rs n ≡ true
refuses {A} {r} {n} rs e z = sym (ap (gives rs) z) ∙ e

-- What is refused of a tree is one of 2 to 7.
pub tree_refuses : (limits : Limits) (tree : List ℕ) (n : Refusal) → accepted_tree limits tree ≡ refused n → is_of of_tree n ≡ true
tree_refuses limits tree n z = refuses of_tree (tree_gives limits tree) z

-- What is refused of settings and a tree is one of 1 to 7.
pub accepted_refuses : (limits : Limits) (settings tree : List ℕ) (n : Refusal) → accepted limits settings tree ≡ refused n → is_of early n ≡ true
accepted_refuses limits settings tree n z = refuses early (accepted-gives limits settings tree) z
