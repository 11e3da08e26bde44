-- Below a Monadic that is no twin and no chain down to a Str, only rules that are written where the operand stands come up: a reduced tree is a Str only
-- at the end of such a chain, and a CaseI or AccentI only where one stood.
use Prim.Native.Nat.{ℕ, suc, ◌≤◌}
use mathlib.Core.Path.{◌≡◌, refl, ap, sym, ◌∙◌, subst}
use mathlib.Core.Bool.{Bool, true, false, false≢true}
use native.Mathlib.Omega.{arith}
use lib.Dec.{eqb, ltb}
use lib.ListN.{length}
use borrow.Author.Tests.{eq-eqb, ne_eqb, eqb-true, eqb-false}
use Rattle.prelude.specs.Choice.{pick, both, some}
use Rattle.refusal.specs.declared.Refusal.TheVariants.{ConstantOperands}
use Rattle.op.specs.declared.Op.{Op}
use Rattle.op.specs.Op.{op_number}
use Rattle.tree.specs.Tree.{Tree, encode, null, unbounded, bool, num, str, date, timestamp, spatial, id, monadic, dyadic, function, array, interval}
use Rattle.tree.specs.Parse.{got, also}
use Rattle.tree.specs.ParseLaws.{also_got, not_got}
use Rattle.reduce.specs.declared.Turn.{Turn}
use Rattle.reduce.specs.declared.Turn.TheVariants.{Keep, ToNull, ToBool, Stay, Negate, NoCase, NoAccent}
use Rattle.reduce.specs.declared.Meet.{Meet}
use Rattle.reduce.specs.declared.Meet.TheVariants.{Keeps, MeetNull, MeetBool, Clash}
use Rattle.reduce.specs.declared.Chain.TheVariants.{Text, Twin, Other}
use Rattle.reduce.specs.declared.Sort.{Sort}
use Rattle.reduce.specs.declared.Sort.TheVariants as sort
use Rattle.reduce.specs.Sort.{sort_number, sort_of}
use Rattle.reduce.specs.Rules.{turn, meet}
use Rattle.reduce.specs.Reduced.{and_case, and_accent, minus, flagged, turned, met, one_reduced, two_reduced, reduced, reduceds}
use Rattle.reduce.specs.ReducedLaws.{minus_keeps, flagged_keeps, same_tree}
use Rattle.reduce.specs.WalkWords.{chain_of, operator_of, twin, way_of, written}

-- ---- When each rule is taken, by the operator's number and the operand's sort.

pub data TurnOf (n a : ℕ) : Turn → Type 0 where
  keeps : TurnOf n a Keep
  nulls : TurnOf n a ToNull
  bools : (b : Bool) → TurnOf n a (ToBool b)
  case_stays : n ≡ 16 → a ≡ 7 → TurnOf n a Stay
  accent_stays : n ≡ 17 → a ≡ 8 → TurnOf n a Stay
  negates : a ≡ 4 → TurnOf n a Negate
  case_joins : n ≡ 16 → a ≡ 5 → TurnOf n a NoCase
  accent_joins : n ≡ 17 → a ≡ 5 → TurnOf n a NoAccent

either_way : (P : Turn → Type 0) (b : Bool) {x y : Turn} → (b ≡ true → P x) → (b ≡ false → P y) → P (pick b x y)
either_way P true f g = f refl
either_way P false f g = g refl

single : (b : Bool) → pick b true false ≡ true → b ≡ true
single true e = refl
single false e = e

pub turns : (o : Op) (a : Sort) → TurnOf (op_number o) (sort_number a) (turn o a)
unfolding turn some
turns o a =
    let n : ℕ = op_number o in
    let k : ℕ = sort_number a in
    let P : Turn → Type 0 = λ (x : Turn). TurnOf (op_number o) (sort_number a) x in
    let one : ℕ → Bool = λ (i : ℕ). pick (eqb (op_number o) i) true false in
    either_way P (one 1) (λ u. either_way P (eqb k 0) (λ v. nulls) (λ v. either_way P (eqb k 4) (λ w. negates (eqb-true k 4 w)) (λ w. keeps)))
    (λ u. either_way P (one 7) (λ v. either_way P (eqb k 0) (λ w. nulls) (λ w. either_way P (ltb k 3) (λ x. bools (eqb k 1)) (λ x. keeps)))
    (λ v. either_way P (one 51) (λ w. either_way P (eqb k 0) (λ x. bools true) (λ x. keeps))
    (λ w. either_way P (one 52) (λ x. either_way P (eqb k 0) (λ y. bools false) (λ y. keeps))
    (λ x. either_way P (one 16)
    (λ y. either_way P (eqb k 5) (λ z. case_joins (eqb-true n 16 (single (eqb n 16) y)) (eqb-true k 5 z)) (λ z. either_way P (eqb k 7) (λ i. case_stays (eqb-true n 16 (single (eqb n 16) y)) (eqb-true k 7 i)) (λ i. keeps)))
    (λ y. either_way P (one 17)
    (λ z. either_way P (eqb k 5) (λ i. accent_joins (eqb-true n 17 (single (eqb n 17) z)) (eqb-true k 5 i)) (λ i. either_way P (eqb k 8) (λ j. accent_stays (eqb-true n 17 (single (eqb n 17) z)) (eqb-true k 8 j)) (λ j. keeps)))
    (λ z. keeps))))))

-- ---- Sorts.

minus_sort : (t : Tree) → sort_of (minus t) ≡ sort_of t
unfolding sort_of
minus_sort t = minus_keeps (λ (x : Tree). sort_of x ≡ sort_of t) (λ m s e. e) t refl

flagged_sort : (g : ℕ → ℕ) (t : Tree) → sort_of (flagged g t) ≡ sort_of t
unfolding sort_of
flagged_sort g t = flagged_keeps (λ (x : Tree). sort_of x ≡ sort_of t) g (λ f s e. e) t refl

bool_sort : (b : Bool) (k : ℕ) → 3 ≤ k → sort_number (sort_of (bool b)) ≡ k → ⊥
unfolding sort_of
bool_sort true k h e = omega arith
bool_sort false k h e = omega arith

-- of a Monadic that is kept
pub record KeptSort (o : Op) (k : ℕ) : Type 0 where
  pub no_str : k ≡ 5 → ⊥
  pub case : k ≡ 7 → op_number o ≡ 16
  pub accent : k ≡ 8 → op_number o ≡ 17

kept_sort_lem : (o : Op) (v : Tree) → KeptSort o (sort_number (sort_of (monadic o v)))
unfolding sort_of some
kept_sort_lem o v = go (eqb (op_number o) 16) (eqb (op_number o) 17) refl refl
  where
    go : (a b : Bool) → eqb (op_number o) 16 ≡ a → eqb (op_number o) 17 ≡ b → KeptSort o (sort_number (pick (pick a true false) sort.CaseI (pick (pick b true false) sort.AccentI sort.Other)))
    go true b e f = record { no_str = λ z. omega arith; case = λ z. eqb-true (op_number o) 16 e; accent = λ z. absurd (let v : ⊥ = omega arith in v) }
    go false true e f = record { no_str = λ z. omega arith; case = λ z. absurd (let v : ⊥ = omega arith in v); accent = λ z. eqb-true (op_number o) 17 f }
    go false false e f = record { no_str = λ z. omega arith; case = λ z. absurd (let v : ⊥ = omega arith in v); accent = λ z. absurd (let v : ⊥ = omega arith in v) }

-- what a tree must be, if it reduces to v
pub record Comes (t v : Tree) : Type 0 where
  pub from_str : sort_number (sort_of v) ≡ 5 → (n : ℕ) × (f : ℕ) × (chain_of t ≡ Text n f)
  pub from_case : sort_number (sort_of v) ≡ 7 → operator_of t ≡ 17
  pub from_accent : sort_number (sort_of v) ≡ 8 → operator_of t ≡ 18

case_chain : (o : Op) (t : Tree) (n f : ℕ) → op_number o ≡ 16 → chain_of t ≡ Text n f → chain_of (monadic o t) ≡ Text n (and_case f)
unfolding chain_of some
case_chain o t n f e q = simp (eq-eqb (op_number o) 16 e, q)

accent_chain : (o : Op) (t : Tree) (n f : ℕ) → op_number o ≡ 17 → chain_of t ≡ Text n f → chain_of (monadic o t) ≡ Text n (and_accent f)
unfolding chain_of some
accent_chain o t n f e q = let h : op_number o ≡ 16 → ⊥ = λ z. omega arith in simp (ne_eqb (op_number o) 16 h, eq-eqb (op_number o) 17 e, q)

plain : (t v : Tree) → (sort_number (sort_of v) ≡ 5 → ⊥) → (sort_number (sort_of v) ≡ 7 → ⊥) → (sort_number (sort_of v) ≡ 8 → ⊥) → Comes t v
plain t v a b c = record { from_str = λ z. absurd (a z); from_case = λ z. absurd (b z); from_accent = λ z. absurd (c z) }

plain_other : (t v : Tree) → sort_number (sort_of v) ≡ 9 → Comes t v
plain_other t v h = plain t v (λ z. omega arith) (λ z. omega arith) (λ z. omega arith)

dyadic_sort : (o : Op) (t u : Tree) → sort_number (sort_of (dyadic o t u)) ≡ 9
unfolding sort_of
dyadic_sort o t u = refl

plain_null : (t : Tree) → Comes t null
unfolding sort_of
plain_null t = plain t null (λ z. omega arith) (λ z. omega arith) (λ z. omega arith)

one_comes : (o : Op) (t w : Tree) {c : Turn} → TurnOf (op_number o) (sort_number (sort_of w)) c → Comes t w → Comes (monadic o t) (turned c o w)
unfolding turned
one_comes o t w keeps h = let k = kept_sort_lem o w in record { from_str = λ z. absurd (k.no_str z); from_case = λ z. ap suc (k.case z); from_accent = λ z. ap suc (k.accent z) }
one_comes o t w nulls h = plain_null (monadic o t)
one_comes o t w (bools b) h = plain (monadic o t) (bool b) (bool_sort b 5 (omega arith)) (bool_sort b 7 (omega arith)) (bool_sort b 8 (omega arith))
one_comes o t w (case_stays n a) h = record { from_str = λ z. absurd (let v : ⊥ = omega arith in v); from_case = λ z. ap suc n; from_accent = λ z. absurd (let v : ⊥ = omega arith in v) }
one_comes o t w (accent_stays n a) h = record { from_str = λ z. absurd (let v : ⊥ = omega arith in v); from_case = λ z. absurd (let v : ⊥ = omega arith in v); from_accent = λ z. ap suc n }
one_comes o t w (negates a) h = let k = ap sort_number (minus_sort w) in plain (monadic o t) (minus w) (λ z. omega arith) (λ z. omega arith) (λ z. omega arith)
one_comes o t w (case_joins n a) h =
    let k = ap sort_number (flagged_sort and_case w) in
    record {
      from_str = λ z. let p = h.from_str a in (p.0, and_case p.1, case_chain o t p.0 p.1 n p.2);
      from_case = λ z. absurd (let v : ⊥ = omega arith in v);
      from_accent = λ z. absurd (let v : ⊥ = omega arith in v);
    }
one_comes o t w (accent_joins n a) h =
    let k = ap sort_number (flagged_sort and_accent w) in
    record {
      from_str = λ z. let p = h.from_str a in (p.0, and_accent p.1, accent_chain o t p.0 p.1 n p.2);
      from_case = λ z. absurd (let v : ⊥ = omega arith in v);
      from_accent = λ z. absurd (let v : ⊥ = omega arith in v);
    }

two_comes : (o : Op) (t s a b u : Tree) (c : Meet) → met c o a b ≡ got u → Comes (dyadic o t s) u
unfolding met
two_comes o t s a b u Keeps q = subst (λ (x : Tree). Comes (dyadic o t s) x) (same_tree q) (plain_other (dyadic o t s) (dyadic o a b) (dyadic_sort o a b))
two_comes o t s a b u MeetNull q = subst (λ (x : Tree). Comes (dyadic o t s) x) (same_tree q) (plain_null (dyadic o t s))
two_comes o t s a b u (MeetBool c) q = subst (λ (x : Tree). Comes (dyadic o t s) x) (same_tree q) (plain (dyadic o t s) (bool c) (bool_sort c 5 (omega arith)) (bool_sort c 7 (omega arith)) (bool_sort c 8 (omega arith)))
two_comes o t s a b u Clash q = not_got ConstantOperands u q

pub comes : (t v : Tree) → reduced t ≡ got v → Comes t v
unfolding reduced one_reduced two_reduced sort_of chain_of
comes null v e = subst (λ (x : Tree). Comes null x) (same_tree e) (plain null null (λ z. omega arith) (λ z. omega arith) (λ z. omega arith))
comes unbounded v e = subst (λ (x : Tree). Comes unbounded x) (same_tree e) (plain unbounded unbounded (λ z. omega arith) (λ z. omega arith) (λ z. omega arith))
comes (bool b) v e = subst (λ (x : Tree). Comes (bool b) x) (same_tree e) (plain (bool b) (bool b) (bool_sort b 5 (omega arith)) (bool_sort b 7 (omega arith)) (bool_sort b 8 (omega arith)))
comes (num m s) v e = subst (λ (x : Tree). Comes (num m s) x) (same_tree e) (plain (num m s) (num m s) (λ z. omega arith) (λ z. omega arith) (λ z. omega arith))
comes (str f s) v e = subst (λ (x : Tree). Comes (str f s) x) (same_tree e) (record { from_str = λ z. (length (encode (str f s)), f, refl); from_case = λ z. absurd (let v : ⊥ = omega arith in v); from_accent = λ z. absurd (let v : ⊥ = omega arith in v) })
comes (date y m d) v e = subst (λ (x : Tree). Comes (date y m d) x) (same_tree e) (plain (date y m d) (date y m d) (λ z. omega arith) (λ z. omega arith) (λ z. omega arith))
comes (timestamp y m d h i s) v e = subst (λ (x : Tree). Comes (timestamp y m d h i s) x) (same_tree e) (plain (timestamp y m d h i s) (timestamp y m d h i s) (λ z. omega arith) (λ z. omega arith) (λ z. omega arith))
comes (spatial n s) v e = subst (λ (x : Tree). Comes (spatial n s) x) (same_tree e) (plain (spatial n s) (spatial n s) (λ z. omega arith) (λ z. omega arith) (λ z. omega arith))
comes (id s) v e = subst (λ (x : Tree). Comes (id s) x) (same_tree e) (plain (id s) (id s) (λ z. omega arith) (λ z. omega arith) (λ z. omega arith))
comes (monadic o t) v e =
    let p = also_got (reduced t) (λ w. got (one_reduced o w)) v e in
    subst (λ (x : Tree). Comes (monadic o t) x) (same_tree p.2) (one_comes o t p.0 (turns o (sort_of p.0)) (comes t p.0 p.1))
comes (dyadic o t s) v e =
    let p = also_got (reduced t) (λ a. also (reduced s) (λ b. two_reduced o a b)) v e in
    let q = also_got (reduced s) (λ b. two_reduced o p.0 b) v p.2 in
    two_comes o t s p.0 q.0 v (meet o (sort_of p.0) (sort_of q.0)) q.2
comes (function n ts) v e =
    let p = also_got (reduceds ts) (λ us. got (function n us)) v e in
    subst (λ (x : Tree). Comes (function n ts) x) (same_tree p.2) (plain (function n ts) (function n p.0) (λ z. omega arith) (λ z. omega arith) (λ z. omega arith))
comes (array ts) v e =
    let p = also_got (reduceds ts) (λ us. got (array us)) v e in
    subst (λ (x : Tree). Comes (array ts) x) (same_tree p.2) (plain (array ts) (array p.0) (λ z. omega arith) (λ z. omega arith) (λ z. omega arith))
comes (interval t s) v e =
    let p = also_got (reduced t) (λ a. also (reduced s) (λ b. got (interval a b))) v e in
    let q = also_got (reduced s) (λ b. got (interval p.0 b)) v p.2 in
    subst (λ (x : Tree). Comes (interval t s) x) (same_tree q.2) (plain (interval t s) (interval p.0 q.0) (λ z. omega arith) (λ z. omega arith) (λ z. omega arith))

-- ---- So the rule is written where the operand stands.

not_text : (n f : ℕ) {B : Type 0} → Text n f ≡ Other → B
not_text n f e = let z : ◌≡◌ {A = ℕ} 0 1 = cc in absurd (omega arith)

no_way : (o : Op) (t : Tree) → way_of o t ≡ Other → (twin o t ≡ false) × (chain_of (monadic o t) ≡ Other)
unfolding way_of
no_way o t w = go (twin o t) refl w
  where
    go : (b : Bool) → twin o t ≡ b → pick b Twin (chain_of (monadic o t)) ≡ Other → (twin o t ≡ false) × (chain_of (monadic o t) ≡ Other)
    go true e q = let z : ◌≡◌ {A = ℕ} 0 1 = cc in absurd (omega arith)
    go false e q = (e, q)

no_twin : (o : Op) (t : Tree) (k : ℕ) → op_number o ≡ k → 16 ≤ k → k ≤ 17 → operator_of t ≡ suc k → twin o t ≡ false → ⊥
unfolding twin some
no_twin o t k e a b q h = go (eqb (op_number o) 16) (eqb (op_number o) 17) refl refl (eq-eqb (operator_of t) (suc (op_number o)) (q ∙ ap suc (sym e))) h
  where
    go : (x y : Bool) → eqb (op_number o) 16 ≡ x → eqb (op_number o) 17 ≡ y → eqb (operator_of t) (suc (op_number o)) ≡ true → both (pick x true (pick y true false)) (eqb (operator_of t) (suc (op_number o))) ≡ false → ⊥
    go true y f g i j = false≢true (sym j ∙ i)
    go false true f g i j = false≢true (sym j ∙ i)
    go false false f g i j = let m = eqb-false (op_number o) 16 f in let n = eqb-false (op_number o) 17 g in omega arith

pub other_written : (o : Op) (t v : Tree) {c : Turn} → way_of o t ≡ Other → reduced t ≡ got v → TurnOf (op_number o) (sort_number (sort_of v)) c → written c ≡ true
other_written o t v w e keeps = refl
other_written o t v w e nulls = refl
other_written o t v w e (bools b) = refl
other_written o t v w e (negates a) = refl
other_written o t v w e (case_stays n a) = absurd (no_twin o t 16 n (omega arith) (omega arith) ((comes t v e).from_case a) (no_way o t w).0)
other_written o t v w e (accent_stays n a) = absurd (no_twin o t 17 n (omega arith) (omega arith) ((comes t v e).from_accent a) (no_way o t w).0)
other_written o t v w e (case_joins n a) =
    let p = (comes t v e).from_str a in not_text p.0 (and_case p.1) (sym (case_chain o t p.0 p.1 n p.2) ∙ (no_way o t w).1)
other_written o t v w e (accent_joins n a) =
    let p = (comes t v e).from_str a in not_text p.0 (and_accent p.1) (sym (accent_chain o t p.0 p.1 n p.2) ∙ (no_way o t w).1)

pub negate_sort : (n a : ℕ) {c : Turn} → TurnOf n a c → c ≡ Negate → a ≡ 4
negate_sort n a keeps e = let z : ◌≡◌ {A = ℕ} 0 1 = cc in absurd (omega arith)
negate_sort n a nulls e = let z : ◌≡◌ {A = ℕ} 0 1 = cc in absurd (omega arith)
negate_sort n a (bools b) e = let z : ◌≡◌ {A = ℕ} 0 1 = cc in absurd (omega arith)
negate_sort n a (case_stays p q) e = let z : ◌≡◌ {A = ℕ} 0 1 = cc in absurd (omega arith)
negate_sort n a (accent_stays p q) e = let z : ◌≡◌ {A = ℕ} 0 1 = cc in absurd (omega arith)
negate_sort n a (negates q) e = q
negate_sort n a (case_joins p q) e = let z : ◌≡◌ {A = ℕ} 0 1 = cc in absurd (omega arith)
negate_sort n a (accent_joins p q) e = let z : ◌≡◌ {A = ℕ} 0 1 = cc in absurd (omega arith)
