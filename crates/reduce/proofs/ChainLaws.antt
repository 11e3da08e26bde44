-- What stands below a Monadic: the code's looks are those of the definition; and what the definition says of reducing it. A chain of CaseI and AccentI
-- down to a Str is that Str with the flags joined; CaseI of CaseI is reduced as CaseI; below any other no text and no twin comes up.
use Prim.Native.Nat.{ℕ, suc, ◌-◌, ◌≤◌}
use mathlib.Core.Path.{◌≡◌, refl, ap, sym, ◌∙◌, subst}
use mathlib.Core.List.{List, [], ◌∷◌}
use mathlib.Core.Bool.{Bool, true, false, false≢true}
use native.Mathlib.Omega.{arith}
use lib.Dec.{eqb}
use lib.ListN.{length, get_or}
use borrow.Author.Tests.{eq-eqb, ne_eqb, eqb-true, eqb-false}
use Rattle.prelude.specs.Choice.{pick, both, some}
use Rattle.record.specs.Record.{le16, record_of}
use Rattle.std.specs.Prelude.{Some}
use Rattle.op.specs.declared.Op.{Op}
use Rattle.op.specs.declared.Op.TheVariants.{CaseI, AccentI}
use Rattle.op.specs.Op.{op_number, one_of}
use Rattle.tree.specs.TestsLaws.{OfKind, of_str, of_monadic, kind-is}
use Rattle.tree.specs.GoodWords.{Good}
use Rattle.tree.specs.Tree.{Tree, encode, null, unbounded, bool, num, str, date, timestamp, spatial, id, monadic, dyadic, function, array, interval, kind_of}
use Rattle.reduce.specs.declared.Chain.{Chain}
use Rattle.reduce.specs.declared.Chain.TheVariants.{Text, Twin, Other}
use Rattle.reduce.specs.Reduced.{and_case, and_accent}
use Rattle.reduce.specs.ReducedLaws.{least_size}
use Rattle.reduce.specs.WalkWords.{Recorded, Operated, chain_of, joined, twin, way_of}
use Rattle.reduce.proofs.NodeLaws.{part, kind_of_lem, one_op, one_size, one_part, one_good}

text_is : (f : ℕ) (x : List ℕ) → Text (length (encode (str f x))) (get_or (encode (str f x)) 6 0) ≡ chain_of (str f x)
unfolding chain_of encode record_of
text_is f x = refl

no_chain : (t : Tree) → (kind_of t ≡ 4 → ⊥) → (kind_of t ≡ 9 → ⊥) → Other ≡ chain_of t
unfolding chain_of
no_chain null p q = refl
no_chain unbounded p q = refl
no_chain (bool b) p q = refl
no_chain (num m s) p q = refl
no_chain (str f s) p q = absurd (p refl)
no_chain (date y m d) p q = refl
no_chain (timestamp y m d h i s) p q = refl
no_chain (spatial n s) p q = refl
no_chain (id s) p q = refl
no_chain (monadic o t) p q = absurd (q refl)
no_chain (dyadic o t u) p q = refl
no_chain (function n ts) p q = refl
no_chain (array ts) p q = refl
no_chain (interval t u) p q = refl

case_is : (o : Op) (t : Tree) → op_number o ≡ 16 → joined and_case (chain_of t) ≡ chain_of (monadic o t)
unfolding chain_of some
case_is o t e = simp (eq-eqb (op_number o) 16 e)

accent_is : (o : Op) (t : Tree) → op_number o ≡ 17 → joined and_accent (chain_of t) ≡ chain_of (monadic o t)
unfolding chain_of some
accent_is o t e = let h : op_number o ≡ 16 → ⊥ = λ z. omega arith in simp (ne_eqb (op_number o) 16 h, eq-eqb (op_number o) 17 e)

neither_is : (o : Op) (t : Tree) → (op_number o ≡ 16 → ⊥) → (op_number o ≡ 17 → ⊥) → Other ≡ chain_of (monadic o t)
unfolding chain_of some
neither_is o t a b = simp (ne_eqb (op_number o) 16 a, ne_eqb (op_number o) 17 b)

not_twin : (o : Op) (t : Tree) → (op_number o ≡ 16 → ⊥) → (op_number o ≡ 17 → ⊥) → false ≡ twin o t
unfolding twin some
not_twin o t a b = simp (ne_eqb (op_number o) 16 a, ne_eqb (op_number o) 17 b)

both_false : (b : Bool) → false ≡ both b false
both_false true = refl
both_false false = refl

none_above : (o : Op) → false ≡ both (one_of o (CaseI ∷ AccentI ∷ [])) (eqb 0 (suc (op_number o)))
none_above o = let h : 0 ≡ suc (op_number o) → ⊥ = λ z. omega arith in rw (ne_eqb 0 (suc (op_number o)) h) (both_false (one_of o (CaseI ∷ AccentI ∷ [])))

alone : (o : Op) (t : Tree) → (kind_of t ≡ 9 → ⊥) → false ≡ twin o t
unfolding twin
alone o null h = none_above o
alone o unbounded h = none_above o
alone o (bool b) h = none_above o
alone o (num m s) h = none_above o
alone o (str f s) h = none_above o
alone o (date y m d) h = none_above o
alone o (timestamp y m d k i s) h = none_above o
alone o (spatial n s) h = none_above o
alone o (id s) h = none_above o
alone o (monadic p t) h = absurd (h refl)
alone o (dyadic p t u) h = none_above o
alone o (function n ts) h = none_above o
alone o (array ts) h = none_above o
alone o (interval t u) h = none_above o

suc_eqb : (a b : ℕ) → eqb a b ≡ eqb (suc a) (suc b)
suc_eqb a b = go (eqb a b) refl
  where
    go : (x : Bool) → eqb a b ≡ x → x ≡ eqb (suc a) (suc b)
    go true e = let h : suc a ≡ suc b = ap suc (eqb-true a b e) in sym (eq-eqb (suc a) (suc b) h)
    go false e = let n = eqb-false a b e in let h : suc a ≡ suc b → ⊥ = λ z. n (omega arith) in sym (ne_eqb (suc a) (suc b) h)

twin-is : (o q : Op) (u : Tree) → 16 ≤ op_number o → op_number o ≤ 17 → eqb (op_number q) (op_number o) ≡ twin o (monadic q u)
unfolding twin some
twin-is o q u a b = go (eqb (op_number o) 16) (eqb (op_number o) 17) refl refl
  where
    eqb_no : eqb (op_number o) 16 ≡ false → eqb (op_number o) 17 ≡ false → ⊥
    eqb_no e f = let z : ⊥ = omega (arith, eqb-false (op_number o) 16 e, eqb-false (op_number o) 17 f) in z

    go : (x y : Bool) → eqb (op_number o) 16 ≡ x → eqb (op_number o) 17 ≡ y → eqb (op_number q) (op_number o) ≡ both (pick x true (pick y true false)) (eqb (suc (op_number q)) (suc (op_number o)))
    go true y e f = suc_eqb (op_number q) (op_number o)
    go false true e f = suc_eqb (op_number q) (op_number o)
    go false false e f = absurd (eqb_no e f)

below-kind : (o : Op) (t : Tree) → le16 (encode (monadic o t)) 12 ≡ kind_of t
unfolding encode record_of
below-kind o t = kind_of_lem (encode t) t refl

below_six : (o : Op) (t : Tree) → le16 (encode (monadic o t)) 14 ≡ le16 (encode t) 6
unfolding encode record_of
below_six o t = refl

below_op : (o q : Op) (u : Tree) → le16 (encode (monadic o (monadic q u))) 14 ≡ op_number q
below_op o q u = below_six o (monadic q u) ∙ one_op (encode (monadic q u)) q u refl

-- the operand of a Monadic is a record again
pub below_recorded : (s : List ℕ) → Recorded s → le16 s 4 ≡ 9 → Recorded (part s 8 (length s))
below_recorded s r k = go r.tree r.levels (kind-is 9 r.tree (sym (kind_of_lem s r.tree r.whole) ∙ k)) r.whole refl
  where
    go : (t : Tree) (n : ℕ) → OfKind 9 t → s ≡ encode t → r.tree ≡ t → Recorded (part s 8 (length s))
    go t n (of_monadic o u) e q = record { tree = u; levels = r.levels - 1; whole = one_part s o u e; good = one_good o u r.levels (subst (λ (x : Tree). Good x r.levels) q r.good) }

pub one_operated : (s : List ℕ) → Recorded s → le16 s 4 ≡ 9 → Operated s
one_operated s r k = go r.tree (kind-is 9 r.tree (sym (kind_of_lem s r.tree r.whole) ∙ k)) r.whole
  where
    go : (t : Tree) → OfKind 9 t → s ≡ encode t → Operated s
    go t (of_monadic o u) e = record { op = o; is = one_op s o u e }

-- what the call of `op_at` ensures
abbrev pub Names : List ℕ → Op → Type 0
Names s op = (o : Op) → le16 s 6 ≡ op_number o → op ≡ o

pub some_same : {a b : Op} → Some a ≡ Some b → a ≡ b
some_same e = cc

pub number_at : {s : List ℕ} {op : Op} → Operated s → Names s op → op_number op ≡ le16 s 6
number_at r f = ap op_number (f r.op r.is) ∙ sym r.is

pub below_length : (s : List ℕ) → Recorded s → le16 s 4 ≡ 9 → 14 ≤ length s
below_length s r k = go r.tree (kind-is 9 r.tree (sym (kind_of_lem s r.tree r.whole) ∙ k)) r.whole
  where
    go : (t : Tree) → OfKind 9 t → s ≡ encode t → 14 ≤ length s
    go t (of_monadic o u) e = let a = one_size s o u e in let b = least_size u in omega arith

-- ---- The looks of `text_below`.

pub below_text : (s : List ℕ) (k : ℕ) (t : Tree) → s ≡ encode t → k ≡ le16 s 4 → k ≡ 4 → Text (length s) (get_or s 6 0) ≡ chain_of t
below_text s k t e q h = go t (kind-is 4 t (sym (kind_of_lem s t e) ∙ sym q ∙ h)) e
  where
    go : (t : Tree) → OfKind 4 t → s ≡ encode t → Text (length s) (get_or s 6 0) ≡ chain_of t
    go t (of_str f x) e = ap (λ (l : List ℕ). Text (length l) (get_or l 6 0)) e ∙ text_is f x

pub below_other : (s : List ℕ) (k : ℕ) (t : Tree) → s ≡ encode t → k ≡ le16 s 4 → (k ≡ 4 → ⊥) → (k ≡ 9 → ⊥) → Other ≡ chain_of t
below_other s k t e q h i = no_chain t (λ z. h (q ∙ kind_of_lem s t e ∙ z)) (λ z. i (q ∙ kind_of_lem s t e ∙ z))

module _ (s : List ℕ) (k n : ℕ) (t : Tree) (e : s ≡ encode t) (q : k ≡ le16 s 4) (h : k ≡ 9) (p : n ≡ le16 s 6) where
  is : OfKind 9 t
  is = kind-is 9 t (sym (kind_of_lem s t e) ∙ sym q ∙ h)

  pub below_case : (c : Chain) → n ≡ 16 → ((u : Tree) → part s 8 (length s) ≡ encode u → c ≡ chain_of u) → joined and_case c ≡ chain_of t
  below_case c z f = go t is e
    where
      go : (t : Tree) → OfKind 9 t → s ≡ encode t → joined and_case c ≡ chain_of t
      go t (of_monadic o u) e = ap (joined and_case) (f u (one_part s o u e)) ∙ case_is o u (sym (one_op s o u e) ∙ sym p ∙ z)

  pub below_accent : (c : Chain) → n ≡ 17 → ((u : Tree) → part s 8 (length s) ≡ encode u → c ≡ chain_of u) → joined and_accent c ≡ chain_of t
  below_accent c z f = go t is e
    where
      go : (t : Tree) → OfKind 9 t → s ≡ encode t → joined and_accent c ≡ chain_of t
      go t (of_monadic o u) e = ap (joined and_accent) (f u (one_part s o u e)) ∙ accent_is o u (sym (one_op s o u e) ∙ sym p ∙ z)

  pub below_none : (n ≡ 16 → ⊥) → (n ≡ 17 → ⊥) → Other ≡ chain_of t
  below_none a b = go t is e
    where
      go : (t : Tree) → OfKind 9 t → s ≡ encode t → Other ≡ chain_of t
      go t (of_monadic o u) e = neither_is o u (λ z. a (p ∙ one_op s o u e ∙ z)) (λ z. b (p ∙ one_op s o u e ∙ z))

-- ---- The looks of `is_twin`.

module _ (s : List ℕ) (n : ℕ) (o : Op) (t : Tree) (e : s ≡ encode (monadic o t)) (p : n ≡ le16 s 6) where
  number : n ≡ op_number o
  number = p ∙ one_op s o t e

  pub twin_not : (n ≡ 16 → ⊥) → (n ≡ 17 → ⊥) → false ≡ twin o t
  twin_not a b = not_twin o t (λ z. a (number ∙ z)) (λ z. b (number ∙ z))

  pub twin_alone : (j : ℕ) → j ≡ le16 s 12 → (j ≡ 9 → ⊥) → false ≡ twin o t
  twin_alone j i h = alone o t (λ z. h (i ∙ ap (λ (l : List ℕ). le16 l 12) e ∙ below-kind o t ∙ z))

  pub twin-same : (j i : ℕ) → 16 ≤ n → n ≤ 17 → j ≡ le16 s 12 → j ≡ 9 → i ≡ le16 s 14 → eqb i n ≡ twin o t
  twin-same j i a b f g h =
      go t (kind-is 9 t (sym (below-kind o t) ∙ sym (ap (λ (l : List ℕ). le16 l 12) e) ∙ sym f ∙ g)) e
    where
      go : (t : Tree) → OfKind 9 t → s ≡ encode (monadic o t) → eqb i n ≡ twin o t
      go t (of_monadic q u) e =
          ap (λ (x : ℕ). eqb x n) (h ∙ ap (λ (l : List ℕ). le16 l 14) e ∙ below_op o q u) ∙ ap (λ (x : ℕ). eqb (op_number q) x) number ∙ twin-is o q u (let z = number in omega arith) (let z = number in omega arith)

  -- whether the operator is one of the two
  module _ (op : Op) {b : Bool} (i : op_number op ≡ n) (f : b ≡ one_of op (CaseI ∷ AccentI ∷ [])) where
    pub twin_none : b ≡ false → false ≡ twin o t
    unfolding some
    twin_none g = go (eqb (op_number op) 16) (eqb (op_number op) 17) refl refl (sym g ∙ f)
      where
        go : (x y : Bool) → eqb (op_number op) 16 ≡ x → eqb (op_number op) 17 ≡ y → false ≡ pick x true (pick y true false) → false ≡ twin o t
        go true y p q h = absurd (false≢true h)
        go false true p q h = absurd (false≢true h)
        go false false p q h = twin_not (λ z. eqb-false (op_number op) 16 p (i ∙ z)) (λ z. eqb-false (op_number op) 17 q (i ∙ z))

    pub twin_either : b ≡ true → (16 ≤ n) × (n ≤ 17)
    unfolding some
    twin_either g = go (eqb (op_number op) 16) (eqb (op_number op) 17) refl refl (sym g ∙ f)
      where
        go : (x y : Bool) → eqb (op_number op) 16 ≡ x → eqb (op_number op) 17 ≡ y → true ≡ pick x true (pick y true false) → (16 ≤ n) × (n ≤ 17)
        go true y p q h = let z = eqb-true (op_number op) 16 p in (omega (arith, i), omega (arith, i))
        go false true p q h = let z = eqb-true (op_number op) 17 q in (omega (arith, i), omega (arith, i))
        go false false p q h = absurd (false≢true (sym h))

-- ---- The way of a Monadic.

pub way_twin : (o : Op) (t : Tree) (b : Bool) → b ≡ twin o t → b ≡ true → Twin ≡ way_of o t
unfolding way_of
way_twin o t b e h = rw (sym e ∙ h) refl

pub way_chain : (o : Op) (t : Tree) (b : Bool) (c : Chain) → b ≡ twin o t → b ≡ false → c ≡ chain_of (monadic o t) → c ≡ way_of o t
unfolding way_of
way_chain o t b c e h q = rw (sym e ∙ h) q
