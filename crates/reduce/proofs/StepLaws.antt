-- The steps of the walk: what the calls below ensure, in their order, makes what a node ensures, and leaves the room that the next call wants.
use Prim.Native.Nat.{ℕ, suc, ◌+◌, ◌-◌, ◌≤◌, ◌<◌}
use mathlib.Core.Path.{◌≡◌, refl, ap, sym, ◌∙◌, subst}
use mathlib.Core.List.{List, [], ◌∷◌, ◌++◌, append_assoc}
use mathlib.Core.Bool.{Bool, true, false, false≢true}
use native.Mathlib.Omega.{arith}
use lib.Dec.{eqb}
use lib.ListN.{length, take, drop, length-append, length-take, length-drop}
use lib.Seq.{sets, take_all, drop_at}
use borrow.Author.Tests.{eqb-true}
use Rattle.prelude.specs.Choice.{pick, both, some}
use Rattle.prelude.specs.ChoiceLaws.{both_true}
use Rattle.std.specs.Prelude.{Result, Ok, Err}
use Rattle.refusal.specs.declared.Refusal.{Refusal}
use Rattle.record.specs.Record.{le16, le32, record_of}
use Rattle.op.specs.declared.Op.{Op}
use Rattle.op.specs.declared.Op.TheVariants.{CaseI, AccentI}
use Rattle.op.specs.Op.{op_number, one_of}
use Rattle.tree.specs.Limits.{tree_limit}
use Rattle.tree.specs.TestsLaws.{OfKind, of_num, of_monadic, of_dyadic, kind-is}
use Rattle.tree.specs.GoodWords.{Good}
use Rattle.tree.specs.Tree.{Tree, encode, null, unbounded, bool, num, str, date, timestamp, spatial, id, monadic, dyadic, function, array, interval}
use Rattle.tree.specs.Parse.{Read, refused, got, also}
use Rattle.reduce.specs.declared.Turn.{Turn}
use Rattle.reduce.specs.declared.Turn.TheVariants.{Negate}
use Rattle.reduce.specs.declared.Meet.{Meet}
use Rattle.reduce.specs.declared.Chain.{Chain}
use Rattle.reduce.specs.declared.Chain.TheVariants.{Text, Twin, Other}
use Rattle.reduce.specs.declared.Operand.{Operand}
use Rattle.reduce.specs.declared.Sort.{Sort}
use Rattle.reduce.specs.Sort.{sort_number, sort_of}
use Rattle.reduce.specs.Rules.{turn, meet}
use Rattle.reduce.specs.Reduced.{and_case, and_accent, turned, met, one_reduced, two_reduced, reduced}
use Rattle.reduce.specs.ReducedLaws.{least_size, reduced_good, reduced_short}
use Rattle.reduce.specs.WalkWords.{Recorded, Operated, Placed, Holds, Writes, Meets, fails, done, Folds, Kept, Pair, chain_of, joined, operator_of, twin, way_of, written, operand, done_at}
use Rattle.reduce.proofs.NodeLaws.{part, kind_of_lem, one_op, one_part, one_good, two_op, two_size, two_good, two_middle, two_first, two_second}
use Rattle.reduce.proofs.RuleLaws.{op_is}
use Rattle.reduce.proofs.ChainLaws.{Names, below_recorded, below_length}
use Rattle.reduce.proofs.RoomLaws.{holds_sets, holds_then}
use Rattle.reduce.proofs.TwiceLaws.{case_twice, accent_twice, case_of_str, accent_of_str}
use Rattle.reduce.proofs.TurnLaws.{is_num}
use Rattle.reduce.proofs.WayLaws.{turns, other_written, negate_sort}

-- what a call of `fold` ensures
abbrev pub Reduces : ℕ → List ℕ → List ℕ → List ℕ → Result Operand Refusal → Type 0
Reduces at s l m r = (t : Tree) (n : ℕ) → s ≡ encode t → Good t n → Folds at t l m r

-- ---- The answer of a call.

pub failed : {at : ℕ} {x : Read Tree} {l m : List ℕ} {n : Refusal} → Meets at x l m (Err n) → (x ≡ refused n) × (length m ≡ length l)
failed {n = n} (fails k e q h) = let z : k ≡ n = cc in (e ∙ ap refused z, h)
failed (done u d e q w) = let z : ◌≡◌ {A = ℕ} 0 1 = cc in absurd (omega arith)

operand_or : Operand → Result Operand Refusal → Operand
operand_or d (Ok b) = b
operand_or d (Err n) = d

pub record Found (at : ℕ) (x : Read Tree) (d : Operand) (l m : List ℕ) : Type 0 where
  pub tree : Tree
  pub is : x ≡ got tree
  pub stops : d.end ≡ at + length (encode tree)
  pub sorted : d.sort ≡ sort_of tree
  pub holds : Holds at (encode tree) l m

pub found : {at : ℕ} {x : Read Tree} {l m : List ℕ} {d : Operand} → Meets at x l m (Ok d) → Found at x d l m
unfolding done_at operand_or
found (fails k e q h) = let z : ◌≡◌ {A = ℕ} 0 1 = cc in absurd (omega arith)
found {at} {d = d} (done u b e q w) =
    let y : d ≡ operand (at + length (encode u)) (sort_of u) = ap (operand_or d) q ∙ w.answers in
    record { tree = u; is = e; stops = ap (λ (o : Operand). o.end) y; sorted = ap (λ (o : Operand). o.sort) y; holds = w.holds }

-- ---- A Monadic.

pub operand_placed : (s : List ℕ) (at : ℕ) (l : List ℕ) → Placed s at l → le16 s 4 ≡ 9 → Placed (part s 8 (length s)) (at + 8) l
operand_placed s at l p k =
    let h = below_length s p.of k in
    record { of = below_recorded s p.of k; fits = omega (arith, p.fits, length-take (length s - 8) (drop 8 s), length-drop 8 s); small = p.small }

-- the place stays where nothing is written before the operand
pub twin-placed : (s : List ℕ) (at : ℕ) (l : List ℕ) → Placed s at l → le16 s 4 ≡ 9 → Placed (part s 8 (length s)) at l
twin-placed s at l p k =
    let h = below_length s p.of k in
    record { of = below_recorded s p.of k; fits = omega (arith, p.fits, length-take (length s - 8) (drop 8 s), length-drop 8 s); small = p.small }

one_is : (o : Op) (t : Tree) {x : Read Tree} → reduced t ≡ x → reduced (monadic o t) ≡ also x (λ v. got (one_reduced o v))
unfolding reduced
one_is o t e = rw e refl

one_fails : (o : Op) (t : Tree) (n : Refusal) → reduced t ≡ refused n → reduced (monadic o t) ≡ refused n
unfolding also
one_fails o t n e = one_is o t e

one_turns : (o : Op) (t v : Tree) → reduced t ≡ got v → reduced (monadic o t) ≡ got (turned (turn o (sort_of v)) o v)
unfolding also one_reduced
one_turns o t v e = one_is o t e

pub operand_fails : (s : List ℕ) (at : ℕ) {l m : List ℕ} {v : Refusal} {r : Result Operand Refusal} → Reduces (at + 8) (part s 8 (length s)) l m (Err v) → r ≡ Err v
    → (o : Op) (t : Tree) (n : ℕ) → s ≡ encode (monadic o t) → Good t n → way_of o t ≡ Other → Folds at (monadic o t) l m r
operand_fails s at {v = v} f h o t n e g w = let q = failed (f t n (one_part s o t e) g) in fails v (one_fails o t v q.0) h q.1

-- what the required tree says of the operand's place
operand_found : (s : List ℕ) (at : ℕ) {d : Operand} {l m : List ℕ} → Placed s at l → le16 s 4 ≡ 9 → Reduces (at + 8) (part s 8 (length s)) l m (Ok d)
    → (t : Tree) × Found (at + 8) (reduced t) d l m
operand_found s at p k f =
    let q = below_recorded s p.of k in
    (q.tree, found (f q.tree q.levels q.whole q.good))

num_size : (v : Tree) → sort_number (sort_of v) ≡ 4 → length (encode v) ≡ 15
unfolding encode record_of
num_size v e = go v (is_num v e)
  where
    go : (v : Tree) → OfKind 3 v → length (encode v) ≡ 15
    go v (of_num m s) = refl

pub operand_room : (s : List ℕ) (at : ℕ) (o : Op) {d : Operand} {l m : List ℕ} (c : Turn) → Placed s at l → le16 s 4 ≡ 9 → Reduces (at + 8) (part s 8 (length s)) l m (Ok d)
    → c ≡ turn o d.sort → (at + 14 ≤ d.end) × (d.end ≤ length m) × (length m ≤ tree_limit) × (c ≡ Negate → at + 23 ≤ d.end)
operand_room s at o {d} c p k f e =
    let q = operand_found s at p k f in
    let v = q.1.tree in
    let a = least_size v in (
      omega (arith, q.1.stops),
      omega (arith, q.1.stops, q.1.holds.fits, q.1.holds.kept),
      omega (arith, q.1.holds.kept, p.small),
      (λ z.
          let b : sort_number d.sort ≡ 4 = negate_sort (op_number o) (sort_number d.sort) (turns o d.sort) (sym e ∙ z) in
          let x = num_size v (ap sort_number (sym q.1.sorted) ∙ b) in
          omega (arith, q.1.stops)),
    )

pub operand_turns : (s : List ℕ) (at : ℕ) (op : Op) {d e : Operand} {l m m' : List ℕ} {c : Turn} → Reduces (at + 8) (part s 8 (length s)) l m (Ok d) → Names s op → c ≡ turn op d.sort
    → ((v : Tree) (k : ℕ) (i : List ℕ) → Kept at d.end v i m → Good v k → c ≡ turn op (sort_of v) → written c ≡ true → Writes at (turned c op v) i m' e)
    → (o : Op) (t : Tree) (n : ℕ) → s ≡ encode (monadic o t) → Good t n → way_of o t ≡ Other → Folds at (monadic o t) l m' (Ok e)
operand_turns s at op {d} {e} {l} {m} {m'} {c} f p q w o t n i g y =
    let x : op ≡ o = p o (one_op s o t i) in
    let a = found (f t n (one_part s o t i) g) in
    let v = a.tree in
    let j : c ≡ turn op (sort_of v) = q ∙ ap (λ (k : Sort). turn op k) a.sorted in
    let b : way_of op t ≡ Other = subst (λ (k : Op). way_of k t ≡ Other) (sym x) y in
    let z : written c ≡ true = ap written j ∙ other_written op t v b a.is (turns op (sort_of v)) in
    let h = w v n l (record { stops = a.stops; holds = a.holds }) (reduced_good t v n g a.is) j z in
    subst (λ (k : Op). Folds at (monadic k t) l m' (Ok e)) x (done (turned c op v) e (one_turns op t v a.is ∙ ap (λ (k : Turn). got (turned k op v)) (sym j)) refl h)

-- ---- A Monadic by what stands below it.

-- what the call of `chain` ensures
abbrev pub Looks : List ℕ → Chain → Type 0
Looks s c = (o : Op) (t : Tree) → s ≡ encode (monadic o t) → c ≡ way_of o t

pub other_way : (s : List ℕ) (at : ℕ) {l m : List ℕ} {r : Result Operand Refusal} {c : Chain} → le16 s 4 ≡ 9 → Looks s c → c ≡ Other
    → ((o : Op) (t : Tree) (n : ℕ) → s ≡ encode (monadic o t) → Good t n → way_of o t ≡ Other → Folds at (monadic o t) l m r)
    → Reduces at s l m r
other_way s at {l} {m} {r} k f h w t n e g = go t (kind-is 9 t (sym (kind_of_lem s t e) ∙ k)) e g
  where
    go : (t : Tree) → OfKind 9 t → s ≡ encode t → Good t n → Folds at t l m r
    go t (of_monadic o u) e g = w o u (n - 1) e (one_good o u n g) (sym (f o u e) ∙ h)

pub data Twins (o : Op) : Tree → Type 0 where
  case_twins : (u : Tree) → o ≡ CaseI → Twins o (monadic CaseI u)
  accent_twins : (u : Tree) → o ≡ AccentI → Twins o (monadic AccentI u)

not_zero : (n : ℕ) {B : Type 0} → eqb 0 (suc n) ≡ true → B
not_zero n e = let z = eqb-true 0 (suc n) e in absurd (let v : ⊥ = omega arith in v)

twins_of : (o p : Op) (u : Tree) → one_of o (CaseI ∷ AccentI ∷ []) ≡ true → suc (op_number p) ≡ suc (op_number o) → Twins o (monadic p u)
unfolding some
twins_of o p u e f = go (eqb (op_number o) 16) (eqb (op_number o) 17) refl refl e
  where
    q : op_number p ≡ op_number o
    q = omega arith

    go : (x y : Bool) → eqb (op_number o) 16 ≡ x → eqb (op_number o) 17 ≡ y → pick x true (pick y true false) ≡ true → Twins o (monadic p u)
    go true y a b c =
        let i : op_number o ≡ op_number CaseI = eqb-true (op_number o) 16 a in
        subst (λ (x : Op). Twins o (monadic x u)) (sym (op_is p CaseI (q ∙ i))) (case_twins u (op_is o CaseI i))
    go false true a b c =
        let i : op_number o ≡ op_number AccentI = eqb-true (op_number o) 17 b in
        subst (λ (x : Op). Twins o (monadic x u)) (sym (op_is p AccentI (q ∙ i))) (accent_twins u (op_is o AccentI i))
    go false false a b c = absurd (false≢true c)

twin-below : (o : Op) (t : Tree) → one_of o (CaseI ∷ AccentI ∷ []) ≡ true → eqb (operator_of t) (suc (op_number o)) ≡ true → Twins o t
twin-below o null e f = not_zero (op_number o) f
twin-below o unbounded e f = not_zero (op_number o) f
twin-below o (bool b) e f = not_zero (op_number o) f
twin-below o (num m s) e f = not_zero (op_number o) f
twin-below o (str g s) e f = not_zero (op_number o) f
twin-below o (date y m d) e f = not_zero (op_number o) f
twin-below o (timestamp y m d h i s) e f = not_zero (op_number o) f
twin-below o (spatial n s) e f = not_zero (op_number o) f
twin-below o (id s) e f = not_zero (op_number o) f
twin-below o (monadic p u) e f = twins_of o p u e (eqb-true (suc (op_number p)) (suc (op_number o)) f)
twin-below o (dyadic p t u) e f = not_zero (op_number o) f
twin-below o (function n ts) e f = not_zero (op_number o) f
twin-below o (array ts) e f = not_zero (op_number o) f
twin-below o (interval t u) e f = not_zero (op_number o) f

joined-twin : (g : ℕ → ℕ) (c : Chain) {B : Type 0} → joined g c ≡ Twin → B
joined-twin g (Text n f) e = let z : ◌≡◌ {A = ℕ} 0 1 = cc in absurd (omega arith)
joined-twin g Twin e = let z : ◌≡◌ {A = ℕ} 0 1 = cc in absurd (omega arith)
joined-twin g Other e = let z : ◌≡◌ {A = ℕ} 0 1 = cc in absurd (omega arith)

picked_twin : (a b : Bool) (c : Chain) {B : Type 0} → pick a (joined and_case c) (pick b (joined and_accent c) Other) ≡ Twin → B
picked_twin true b c e = joined-twin and_case c e
picked_twin false true c e = joined-twin and_accent c e
picked_twin false false c e = let z : ◌≡◌ {A = ℕ} 0 1 = cc in absurd (omega arith)

no_chain_twin : (t : Tree) {B : Type 0} → chain_of t ≡ Twin → B
unfolding chain_of
no_chain_twin null e = let z : ◌≡◌ {A = ℕ} 0 1 = cc in absurd (omega arith)
no_chain_twin unbounded e = let z : ◌≡◌ {A = ℕ} 0 1 = cc in absurd (omega arith)
no_chain_twin (bool b) e = let z : ◌≡◌ {A = ℕ} 0 1 = cc in absurd (omega arith)
no_chain_twin (num m s) e = let z : ◌≡◌ {A = ℕ} 0 1 = cc in absurd (omega arith)
no_chain_twin (str f s) e = let z : ◌≡◌ {A = ℕ} 0 1 = cc in absurd (omega arith)
no_chain_twin (date y m d) e = let z : ◌≡◌ {A = ℕ} 0 1 = cc in absurd (omega arith)
no_chain_twin (timestamp y m d h i s) e = let z : ◌≡◌ {A = ℕ} 0 1 = cc in absurd (omega arith)
no_chain_twin (spatial n s) e = let z : ◌≡◌ {A = ℕ} 0 1 = cc in absurd (omega arith)
no_chain_twin (id s) e = let z : ◌≡◌ {A = ℕ} 0 1 = cc in absurd (omega arith)
no_chain_twin (monadic o t) e = picked_twin (one_of o (CaseI ∷ [])) (one_of o (AccentI ∷ [])) (chain_of t) e
no_chain_twin (dyadic o t u) e = let z : ◌≡◌ {A = ℕ} 0 1 = cc in absurd (omega arith)
no_chain_twin (function n ts) e = let z : ◌≡◌ {A = ℕ} 0 1 = cc in absurd (omega arith)
no_chain_twin (array ts) e = let z : ◌≡◌ {A = ℕ} 0 1 = cc in absurd (omega arith)
no_chain_twin (interval t u) e = let z : ◌≡◌ {A = ℕ} 0 1 = cc in absurd (omega arith)

pub twin-is : (o : Op) (t : Tree) → way_of o t ≡ Twin → Twins o t
unfolding way_of twin
twin-is o t w = go (both (one_of o (CaseI ∷ AccentI ∷ [])) (eqb (operator_of t) (suc (op_number o)))) refl w
  where
    go : (b : Bool) → both (one_of o (CaseI ∷ AccentI ∷ [])) (eqb (operator_of t) (suc (op_number o))) ≡ b → pick b Twin (chain_of (monadic o t)) ≡ Twin → Twins o t
    go true e q = let p = both_true (one_of o (CaseI ∷ AccentI ∷ [])) (eqb (operator_of t) (suc (op_number o))) e in twin-below o t p.0 p.1
    go false e q = no_chain_twin (monadic o t) q

twin_again : (o : Op) (t : Tree) → Twins o t → reduced (monadic o t) ≡ reduced t
twin_again o t (case_twins u e) = ap (λ (x : Op). reduced (monadic x (monadic CaseI u))) e ∙ case_twice u
twin_again o t (accent_twins u e) = ap (λ (x : Op). reduced (monadic x (monadic AccentI u))) e ∙ accent_twice u

pub twin_way : (s : List ℕ) (at : ℕ) {l m : List ℕ} {r : Result Operand Refusal} {c : Chain} → le16 s 4 ≡ 9 → Looks s c → c ≡ Twin → Reduces at (part s 8 (length s)) l m r → Reduces at s l m r
twin_way s at {l} {m} {r} k f h w t n e g = go t (kind-is 9 t (sym (kind_of_lem s t e) ∙ k)) e g
  where
    go : (t : Tree) → OfKind 9 t → s ≡ encode t → Good t n → Folds at t l m r
    go t (of_monadic o u) e g =
        let p = twin_again o u (twin-is o u (sym (f o u e) ∙ h)) in
        subst (λ (x : Read Tree). Meets at x l m r) (sym p) (w u (n - 1) (one_part s o u e) (one_good o u n g))

-- ---- A chain that ends in a Str.

pub record Ends (t : Tree) (n f : ℕ) : Type 0 where
  pub flags : ℕ
  pub text : List ℕ
  pub becomes : reduced t ≡ got (str f text)
  pub before : List ℕ
  pub whole : encode t ≡ before ++ encode (str flags text)
  pub size : n ≡ length (encode (str flags text))

head_of : (o : Op) (t : Tree) → encode (monadic o t) ≡ take 8 (encode (monadic o t)) ++ encode t
unfolding encode record_of
head_of o t = refl

case_joined : (o : Op) (t : Tree) (f : ℕ) (x : List ℕ) → op_number o ≡ 16 → reduced t ≡ got (str f x) → reduced (monadic o t) ≡ got (str (and_case f) x)
case_joined o t f x e q = ap (λ (p : Op). reduced (monadic p t)) (op_is o CaseI e) ∙ case_of_str t f x q

accent_joined : (o : Op) (t : Tree) (f : ℕ) (x : List ℕ) → op_number o ≡ 17 → reduced t ≡ got (str f x) → reduced (monadic o t) ≡ got (str (and_accent f) x)
accent_joined o t f x e q = ap (λ (p : Op). reduced (monadic p t)) (op_is o AccentI e) ∙ accent_of_str t f x q

further : (o : Op) (t : Tree) (n f f' : ℕ) → (h : Ends t n f) → reduced (monadic o t) ≡ got (str f' h.text) → Ends (monadic o t) n f'
further o t n f f' h e =
    let a : List ℕ = take 8 (encode (monadic o t)) in
    record {
      flags = h.flags;
      text = h.text;
      becomes = e;
      before = a ++ h.before;
      whole = head_of o t ∙ ap (λ (l : List ℕ). a ++ l) h.whole ∙ sym (append_assoc a h.before (encode (str h.flags h.text)));
      size = h.size;
    }

joined_text : (g : ℕ → ℕ) (c : Chain) (n f : ℕ) → joined g c ≡ Text n f → (k : ℕ) × (c ≡ Text n k) × (f ≡ g k)
joined_text g (Text m k) n f e = let a : m ≡ n = cc in let b : g k ≡ f = cc in (k, ap (λ (i : ℕ). Text i k) a, sym b)
joined_text g Twin n f e = let z : ◌≡◌ {A = ℕ} 0 1 = cc in absurd (omega arith)
joined_text g Other n f e = let z : ◌≡◌ {A = ℕ} 0 1 = cc in absurd (omega arith)

str_reduced : (f : ℕ) (x : List ℕ) → reduced (str f x) ≡ got (str f x)
unfolding reduced
str_reduced f x = refl

pub ends : (t : Tree) (n f : ℕ) → chain_of t ≡ Text n f → Ends t n f
unfolding chain_of some
ends null n f e = let z : ◌≡◌ {A = ℕ} 0 1 = cc in absurd (omega arith)
ends unbounded n f e = let z : ◌≡◌ {A = ℕ} 0 1 = cc in absurd (omega arith)
ends (bool b) n f e = let z : ◌≡◌ {A = ℕ} 0 1 = cc in absurd (omega arith)
ends (num m s) n f e = let z : ◌≡◌ {A = ℕ} 0 1 = cc in absurd (omega arith)
ends (str g x) n f e =
    let a : length (encode (str g x)) ≡ n = cc in
    let b : g ≡ f = cc in
    record { flags = g; text = x; becomes = str_reduced g x ∙ ap (λ (i : ℕ). got (str i x)) b; before = []; whole = refl; size = sym a }
ends (date y m d) n f e = let z : ◌≡◌ {A = ℕ} 0 1 = cc in absurd (omega arith)
ends (timestamp y m d h i s) n f e = let z : ◌≡◌ {A = ℕ} 0 1 = cc in absurd (omega arith)
ends (spatial n s) k f e = let z : ◌≡◌ {A = ℕ} 0 1 = cc in absurd (omega arith)
ends (id s) n f e = let z : ◌≡◌ {A = ℕ} 0 1 = cc in absurd (omega arith)
ends (monadic o t) n f e = go (λ k q. ends t n k q) (eqb (op_number o) 16) (eqb (op_number o) 17) refl refl e
  where
    go : ((k : ℕ) → chain_of t ≡ Text n k → Ends t n k) → (a b : Bool) → eqb (op_number o) 16 ≡ a → eqb (op_number o) 17 ≡ b → pick (pick a true false) (joined and_case (chain_of t)) (pick (pick b true false) (joined and_accent (chain_of t)) Other) ≡ Text n f → Ends (monadic o t) n f
    go below true b p q z =
        let j = joined_text and_case (chain_of t) n f z in
        let h = below j.0 j.1 in
        further o t n j.0 f h (case_joined o t j.0 h.text (eqb-true (op_number o) 16 p) h.becomes ∙ ap (λ (i : ℕ). got (str i h.text)) (sym j.2))
    go below false true p q z =
        let j = joined_text and_accent (chain_of t) n f z in
        let h = below j.0 j.1 in
        further o t n j.0 f h (accent_joined o t j.0 h.text (eqb-true (op_number o) 17 q) h.becomes ∙ ap (λ (i : ℕ). got (str i h.text)) (sym j.2))
    go below false false p q z = let y : ◌≡◌ {A = ℕ} 0 1 = cc in absurd (omega arith)
ends (dyadic o t u) n f e = let z : ◌≡◌ {A = ℕ} 0 1 = cc in absurd (omega arith)
ends (function n ts) k f e = let z : ◌≡◌ {A = ℕ} 0 1 = cc in absurd (omega arith)
ends (array ts) n f e = let z : ◌≡◌ {A = ℕ} 0 1 = cc in absurd (omega arith)
ends (interval t u) n f e = let z : ◌≡◌ {A = ℕ} 0 1 = cc in absurd (omega arith)

str_size : (f : ℕ) (x : List ℕ) → 7 ≤ length (encode (str f x))
unfolding encode record_of
str_size f x = omega arith

-- the Str's record is what is left of the chain's
pub ends_part : (s : List ℕ) (t : Tree) (n f : ℕ) (h : Ends t n f) → s ≡ encode t → (n ≤ length s) × (7 ≤ n) × (part s (length s - n) (length s) ≡ encode (str h.flags h.text))
ends_part s t n f h e =
    let x : List ℕ = encode (str h.flags h.text) in
    let w : s ≡ h.before ++ x = e ∙ h.whole in
    let a : length s ≡ length h.before + length x = ap length w ∙ length-append h.before x in
    let b : length s - n ≡ length h.before = omega (arith, h.size) in
    let d : drop (length s - n) s ≡ x = ap (λ (i : ℕ). drop i s) b ∙ ap (λ (l : List ℕ). drop (length h.before) l) w ∙ drop_at h.before x (length h.before) refl in
    let j = str_size h.flags h.text in (
      omega (arith, h.size),
      omega (arith, h.size),
      ap (λ (l : List ℕ). take (length s - (length s - n)) l) d ∙ take_all (length s - (length s - n)) x (omega (arith, h.size)),
    )

chain_way : (o : Op) (t : Tree) (n f : ℕ) → way_of o t ≡ Text n f → chain_of (monadic o t) ≡ Text n f
unfolding way_of
chain_way o t n f e = go (twin o t) e
  where
    go : (b : Bool) → pick b Twin (chain_of (monadic o t)) ≡ Text n f → chain_of (monadic o t) ≡ Text n f
    go true q = let z : ◌≡◌ {A = ℕ} 0 1 = cc in absurd (omega arith)
    go false q = q

flags_low : (f : ℕ) (x : List ℕ) (n : ℕ) → Good (str f x) n → f < 256
unfolding Good
flags_low f x n g = omega (arith, g.1)

pub text_room : (s : List ℕ) (at n f : ℕ) (l : List ℕ) {c : Chain} → Placed s at l → le16 s 4 ≡ 9 → Looks s c → c ≡ Text n f
    → (n ≤ length s) × (7 ≤ length (part s (length s - n) (length s))) × (at + length (part s (length s - n) (length s)) ≤ length l) × (f < 256)
text_room s at n f l {c} p k w h = go p.of.tree (kind-is 9 p.of.tree (sym (kind_of_lem s p.of.tree p.of.whole) ∙ k)) p.of.whole p.of.good
  where
    go : (t : Tree) → OfKind 9 t → s ≡ encode t → Good t p.of.levels → (n ≤ length s) × (7 ≤ length (part s (length s - n) (length s))) × (at + length (part s (length s - n) (length s)) ≤ length l) × (f < 256)
    go t (of_monadic o u) e g =
        let d = ends (monadic o u) n f (chain_way o u n f (sym (w o u e) ∙ h)) in
        let q = ends_part s (monadic o u) n f d e in
        let j : length (part s (length s - n) (length s)) ≡ n = ap length q.2 ∙ sym d.size in
        (q.0, omega (arith, q.1), omega (arith, q.0, p.fits), flags_low f d.text p.of.levels (reduced_good (monadic o u) (str f d.text) p.of.levels g d.becomes))

pub text_way : (s : List ℕ) (at n f : ℕ) {l m : List ℕ} {r : Operand} {c : Chain} → Placed s at l → le16 s 4 ≡ 9 → Looks s c → c ≡ Text n f
    → ((g : ℕ) (x : List ℕ) → part s (length s - n) (length s) ≡ encode (str g x) → (r ≡ done_at at (str f x)) × (m ≡ sets l at (encode (str f x))))
    → Reduces at s l m (Ok r)
text_way s at n f {l} {m} {r} p k w h q t i e g = go t (kind-is 9 t (sym (kind_of_lem s t e) ∙ k)) e g
  where
    go : (t : Tree) → OfKind 9 t → s ≡ encode t → Good t i → Folds at t l m (Ok r)
    go t (of_monadic o u) e g =
        let d = ends (monadic o u) n f (chain_way o u n f (sym (w o u e) ∙ h)) in
        let y = ends_part s (monadic o u) n f d e in
        let j = q d.flags d.text y.2 in
        let v = reduced_short (monadic o u) (str f d.text) d.becomes in
        let b : at + length (encode (str f d.text)) ≤ length l = omega (arith, p.fits, ap length e) in
        done (str f d.text) r d.becomes refl (record { answers = j.0; holds = subst (λ (k : List ℕ). Holds at (encode (str f d.text)) l k) (sym j.1) (holds_sets at (encode (str f d.text)) l b) })

-- ---- A Dyadic.

two_is : (o : Op) (t u : Tree) {x y : Read Tree} → reduced t ≡ x → reduced u ≡ y → reduced (dyadic o t u) ≡ also x (λ a. also y (λ b. two_reduced o a b))
unfolding reduced
two_is o t u e f = rw (e, f) refl

first_fails : (o : Op) (t u : Tree) (n : Refusal) → reduced t ≡ refused n → reduced (dyadic o t u) ≡ refused n
unfolding also
first_fails o t u n e = two_is o t u e refl

second_fails : (o : Op) (t u a : Tree) (n : Refusal) → reduced t ≡ got a → reduced u ≡ refused n → reduced (dyadic o t u) ≡ refused n
unfolding also
second_fails o t u a n e f = two_is o t u e f

two_meet : (o : Op) (t u a b : Tree) → reduced t ≡ got a → reduced u ≡ got b → reduced (dyadic o t u) ≡ met (meet o (sort_of a) (sort_of b)) o a b
unfolding also two_reduced
two_meet o t u a b e f = two_is o t u e f

-- a record of a Dyadic, taken apart
pub record Two (s : List ℕ) (n : ℕ) : Type 0 where
  pub op : Op
  pub first : Tree
  pub second : Tree
  pub whole : s ≡ encode (dyadic op first second)
  pub goods : Good first (n - 1) × Good second (n - 1)

pub two_of : (s : List ℕ) → Recorded s → le16 s 4 ≡ 10 → (n : ℕ) × Two s n
two_of s r k = (r.levels, go r.tree (kind-is 10 r.tree (sym (kind_of_lem s r.tree r.whole) ∙ k)) r.whole r.good)
  where
    go : (t : Tree) → OfKind 10 t → s ≡ encode t → Good t r.levels → Two s r.levels
    go t (of_dyadic o x y) e g = record { op = o; first = x; second = y; whole = e; goods = two_good o x y r.levels g }

pub middle_of : (s : List ℕ) (at d : ℕ) (l : List ℕ) → Placed s at l → le16 s 4 ≡ 10 → d ≡ le32 s 8 → (d ≤ tree_limit) × (12 + d ≤ length s)
middle_of s at d l p k e =
    let q = two_of s p.of k in
    let t = q.1.first in
    let u = q.1.second in
    let a = two_size s q.1.op t u q.1.whole in
    let b = two_middle s q.1.op t u q.1.whole (omega (arith, p.fits, p.small)) in
    (omega (arith, p.fits, p.small), omega arith)

middle_is : (s : List ℕ) (at d : ℕ) (l : List ℕ) → Placed s at l → d ≡ le32 s 8 → (o : Op) (t u : Tree) → s ≡ encode (dyadic o t u) → 12 + d ≡ 8 + length (encode t)
middle_is s at d l p e o t u w = let b = two_middle s o t u w (omega (arith, p.fits, p.small)) in omega arith

pub first-placed : (s : List ℕ) (at d : ℕ) (l : List ℕ) → Placed s at l → le16 s 4 ≡ 10 → d ≡ le32 s 8 → Placed (part s 8 (12 + d)) (at + 8) l
first-placed s at d l p k e =
    let q = two_of s p.of k in
    let t = q.1.first in
    let w = two_first s (12 + d) q.1.op t q.1.second q.1.whole (middle_is s at d l p e q.1.op t q.1.second q.1.whole) in
    let a = two_size s q.1.op t q.1.second q.1.whole in
    record { of = record { tree = t; levels = q.0 - 1; whole = w; good = q.1.goods.0 }; fits = omega (arith, p.fits, ap length w); small = p.small }

module _ (s : List ℕ) (at d : ℕ) {l : List ℕ} (p : Placed s at l) (k : le16 s 4 ≡ 10) (z : d ≡ le32 s 8) where
  pub dyadic_fails : {m : List ℕ} {v : Refusal} {r : Result Operand Refusal} → Reduces (at + 8) (part s 8 (12 + d)) l m (Err v) → r ≡ Err v → Reduces at s l m r
  dyadic_fails {m} {v} {r} f h t n e g = go t (kind-is 10 t (sym (kind_of_lem s t e) ∙ k)) e g
    where
      go : (t : Tree) → OfKind 10 t → s ≡ encode t → Good t n → Folds at t l m r
      go t (of_dyadic o x y) e g =
          let q = failed (f x (n - 1) (two_first s (12 + d) o x y e (middle_is s at d l p z o x y e)) (two_good o x y n g).0) in
          fails v (first_fails o x y v q.0) h q.1

  -- the first operand is reduced
  module _ {m : List ℕ} {a : Operand} (f : Reduces (at + 8) (part s 8 (12 + d)) l m (Ok a)) where
    -- what is known before the second one is, which stands at 12 + d
    pub record Second : Type 0 where
      pub second : Tree
      pub levels : ℕ
      pub whole : part s (12 + d) (length s) ≡ encode second
      pub good : Good second levels
      pub middle : (12 + d ≤ length s) × (length s - (12 + d) < length s)
      pub low : at + 14 ≤ a.end
      pub fits : a.end + length (encode second) ≤ length m
      pub small : length m ≤ tree_limit

    pub second_of : Second
    second_of =
        let q = two_of s p.of k in
        let o = q.1.op in
        let t = q.1.first in
        let u = q.1.second in
        let i = middle_is s at d l p z o t u q.1.whole in
        let y = found (f t (q.0 - 1) (two_first s (12 + d) o t u q.1.whole i) q.1.goods.0) in
        let b = least_size y.tree in
        let c = reduced_short t y.tree y.is in
        let j = two_size s o t u q.1.whole in
        record {
          second = u;
          levels = q.0 - 1;
          whole = two_second s (12 + d) o t u q.1.whole i;
          good = q.1.goods.1;
          middle = (omega (arith, i), omega (arith, i));
          low = omega (arith, y.stops);
          fits = omega (arith, y.stops, y.holds.kept, p.fits);
          small = omega (arith, y.holds.kept, p.small);
        }

    pub second-placed : Placed (part s (12 + d) (length s)) a.end m
    second-placed =
        let y = second_of in
        record { of = record { tree = y.second; levels = y.levels; whole = y.whole; good = y.good }; fits = omega (arith, y.fits, ap length y.whole); small = y.small }

    pub second_refused : {m' : List ℕ} {v : Refusal} {r : Result Operand Refusal} → Reduces a.end (part s (12 + d) (length s)) m m' (Err v) → r ≡ Err v → Reduces at s l m' r
    second_refused {m'} {v} {r} g h t n e y = go t (kind-is 10 t (sym (kind_of_lem s t e) ∙ k)) e y
      where
        go : (t : Tree) → OfKind 10 t → s ≡ encode t → Good t n → Folds at t l m' r
        go t (of_dyadic o x u) e y =
            let i = middle_is s at d l p z o x u e in
            let b = found (f x (n - 1) (two_first s (12 + d) o x u e i) (two_good o x u n y).0) in
            let q = failed (g u (n - 1) (two_second s (12 + d) o x u e i) (two_good o x u n y).1) in
            fails v (second_fails o x u b.tree v b.is q.0) h (q.1 ∙ b.holds.kept)

    -- so is the second
    module _ {m' : List ℕ} {b : Operand} (g : Reduces a.end (part s (12 + d) (length s)) m m' (Ok b)) where
      pub second-room : (at + 20 ≤ b.end) × (b.end ≤ length m') × (length m' ≤ tree_limit)
      second-room =
          let y = second_of in
          let x = found (g y.second y.levels y.whole y.good) in
          let c = least_size x.tree in
          (omega (arith, x.stops, y.low), omega (arith, x.stops, x.holds.fits, x.holds.kept), omega (arith, x.holds.kept, y.small))

      pub dyadic_meets : (op : Op) {e : List ℕ} {r : Result Operand Refusal} {c : Meet} → Names s op → c ≡ meet op a.sort b.sort
          → ((v w : Tree) (i : List ℕ) → Pair at b.end v w i m' → Meets at (met c op v w) i e r) → Reduces at s l e r
      dyadic_meets op {e} {r} {c} h q w t n i y = go t (kind-is 10 t (sym (kind_of_lem s t i) ∙ k)) i y
        where
          go : (t : Tree) → OfKind 10 t → s ≡ encode t → Good t n → Folds at t l e r
          go t (of_dyadic o x u) i y =
              let j = middle_is s at d l p z o x u i in
              let v = found (f x (n - 1) (two_first s (12 + d) o x u i j) (two_good o x u n y).0) in
              let v' = found (g u (n - 1) (two_second s (12 + d) o x u i j) (two_good o x u n y).1) in
              let same : op ≡ o = h o (two_op s o x u i) in
              let now : c ≡ meet op (sort_of v.tree) (sort_of v'.tree) = q ∙ ap (λ (k : Sort). meet op k b.sort) v.sorted ∙ ap (λ (k : Sort). meet op (sort_of v.tree) k) v'.sorted in
              let here : Holds (at + 8 + length (encode v.tree)) (encode v'.tree) m m' = subst (λ (k : ℕ). Holds k (encode v'.tree) m m') v.stops v'.holds in
              let pair : Pair at b.end v.tree v'.tree l m' = record { stops = v'.stops ∙ ap (λ (k : ℕ). k + length (encode v'.tree)) v.stops; holds = holds_then v.holds here } in
              let is : reduced (dyadic op x u) ≡ met c op v.tree v'.tree = two_meet op x u v.tree v'.tree v.is v'.is ∙ ap (λ (k : Meet). met k op v.tree v'.tree) (sym now) in
              subst (λ (k : Op). Folds at (dyadic k x u) l e r) same (subst (λ (k : Read Tree). Meets at k l e r) (sym is) (w v.tree v'.tree l pair))

-- ---- The operator of a record.

pub two_operated : (s : List ℕ) → Recorded s → le16 s 4 ≡ 10 → Operated s
two_operated s r k = let q = two_of s r k in record { op = q.1.op; is = two_op s q.1.op q.1.first q.1.second q.1.whole }
