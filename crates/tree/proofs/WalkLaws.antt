-- Laws of the walk's answers (specs/WalkWords.antt) that the proof of the cycle cites: what the record at the front, one record, two records and records
-- to the end answer for the whole, and what each kind makes of the answers below it. Each is over plain lists and numbers.
use Rattle.std.proofs.lemmas.Result.{err_from_is_err_and}
use Rattle.std.specs.Prelude.{Option, None, Some, Result, Ok, Err, IsErrAnd}
use mathlib.Core.Path.{◌≡◌, refl, ap, sym, ◌∙◌}
use mathlib.Core.List.{List, [], ◌∷◌}
use mathlib.Core.Bool.{Bool, true, false}
use Prim.Native.Nat.{ℕ, zero, suc, ◌+◌, ◌-◌, ◌≤◌, ◌<◌}
use native.Mathlib.Omega.{arith}
use lib.ListN.{length, get_or, take, drop, length-drop}
use lib.Seq.{drop-drop}
use lib.Dec.{ltb, leb, eqb}
use borrow.Author.Tests.{ltb-false, le-ltb, lt-ltb, ne_eqb, leb-true}
use Rattle.prelude.specs.Choice.{pick, both, either, negated}
use Rattle.refusal.specs.declared.Refusal.{Refusal}
use Rattle.refusal.specs.declared.Refusal.TheVariants.{BadSettings, TreeTooLong, BadFrame, TooDeep, BadKindOrOperator, BadField, BadOperand}
use Rattle.record.specs.declared.Frame.{Frame}
use Rattle.record.specs.Record.{le16, le32, frame, whole}
use Rattle.record.specs.FrameLaws.{frame-within}
use Rattle.charset.specs.Charset.{name}
use Rattle.op.specs.declared.Op.{Op}
use Rattle.op.specs.Op.{op_of, is_temporal, is_instant_or_interval}
use Rattle.charset.specs.Named.{name_at, past, named_at}
use Rattle.settings.specs.Settings.{is_settings}
use Rattle.tree.specs.declared.Shape.{Shape}
use Rattle.tree.specs.declared.Shape.TheVariants.{Interval, Pair, Other, Misplaced}
use Rattle.tree.specs.declared.Items.{Items}
use Rattle.tree.specs.Tree.{Tree, Trees, Settings, null, unbounded, bool, num, str, date, timestamp, spatial, id, monadic, dyadic, function, array, interval, none, ◌then◌}
use Rattle.tree.specs.Parse.{Read, refused, got, also, Body, cons, end, exactly, many, items, empty_body, bool_body, num_body, str_body, date_body, timestamp_body, spatial_body, leaf, mantissa, takes_one, takes_two, allowed, operated, read_monadic, read_dyadic, read_function, read_array, read_interval, choose, kinds, read_kind, node, parse}
use Rattle.tree.specs.Placed.{is_between, operands, no_interval, in_place, inner, inners, placed}
use Rattle.tree.specs.Tests.{first, second, count, everywhere, everywhere_in, by_operator, is_interval, is_items, is_pair}
use Rattle.tree.specs.Accepted.{settings, settings_in, accepted_tree, accepted, verdict}
use Rattle.tree.specs.AcceptedLaws.{accepted_parts}
use Rattle.tree.specs.declared.Limits.{Limits}
use Rattle.tree.specs.WalkWords.{shape_of, seen, seen_one, seen_two, seen_all, ended, framed, first_of, taken_by, taken, plain_shape, pair_shape, interval_shape, sound_shape, fits, or_misplaced, leaf_one, monadic_one, dyadic_one, function_one, array_one, interval_one, two, every, next}
use Rattle.tree.specs.ParseLaws.{both_true}
use Rattle.tree.proofs.Laws.{tail, tail-is}

-- A refusal that a `?` hands on.
pub handed : {A : Type 0} {e : Refusal} {g : Result A Refusal} (r : Result A Refusal) → IsErrAnd r (λ y. y ≡ e) → Err e ≡ g → r ≡ g
handed r h q = let p = err_from_is_err_and r h in p.1 ∙ ap Err p.2 ∙ q

-- The record at the front.

-- two answers that are one
module _ {e n : ℕ} {a b : Shape} (h : next e a ≡ next n b) where
  abbrev pair_or : Result (ℕ × Shape) Refusal → ℕ × Shape
  pair_or (Err r) = (e, a)
  pair_or (Ok p) = p

  next-end : e ≡ n
  next-end = ap (λ (r : Result (ℕ × Shape) Refusal). (pair_or r).0) h

  next-shape : a ≡ b
  next-shape = ap (λ (r : Result (ℕ × Shape) Refusal). (pair_or r).1) h

ended_stop : (j : ℕ) (e : Refusal) (r : Read Tree) (g : Tree → Read Trees) → ended j r ≡ Err e → also r g ≡ refused e
unfolding ended also
ended_stop j e (refused m) g h = cc
ended_stop j e (got t) g h = cc

ended_next : (j n : ℕ) (a : Shape) (r : Read Tree) → ended j r ≡ next n a → (t : Tree) × (r ≡ got t) × (j ≡ n) × (shape_of t ≡ a)
unfolding ended
ended_next j n a (refused m) h = let z : ◌≡◌ {A = ℕ} 0 1 = cc in absurd (omega arith)
ended_next j n a (got t) h = (t, refl, next-end h, next-shape h)

framed_stop : (body : Body) (s : List ℕ) (f : Option Frame) (e : Refusal) (more : List ℕ → Read Trees) → framed body s f ≡ Err e → cons body s f more ≡ refused e
unfolding framed cons
framed_stop body s None e more h = cc
framed_stop body s (Some f) e more h = ended_stop f.end e (body f.kind (take (f.end - 6) (drop 6 s))) (λ t. also (more (drop f.end s)) (λ ts. got (t then ts))) h

framed_next : (body : Body) (s : List ℕ) (f : Option Frame) (n : ℕ) (a : Shape) → framed body s f ≡ next n a
    → (t : Tree) × (k : ℕ) × (shape_of t ≡ a) × (f ≡ whole k n) × ((more : List ℕ → Read Trees) → cons body s f more ≡ also (more (drop n s)) (λ ts. got (t then ts)))
unfolding framed cons also
framed_next body s None n a h = let z : ◌≡◌ {A = ℕ} 0 1 = cc in absurd (omega arith)
framed_next body s (Some f) n a h =
    let p = ended_next f.end n a (body f.kind (take (f.end - 6) (drop 6 s))) h in (
      p.0,
      f.kind,
      p.3,
      ap (λ (i : ℕ). whole f.kind i) p.2,
      λ more. ap (λ (r : Read Tree). also r (λ t. also (more (drop f.end s)) (λ ts. got (t then ts)))) p.1
          ∙ ap (λ (i : ℕ). also (more (drop i s)) (λ ts. got (p.0 then ts))) p.2,
    )

pub front-within : (body : Body) (s : List ℕ) (n : ℕ) (a : Shape) → first_of body s ≡ next n a → (6 ≤ n) × (n ≤ length s)
front-within body s n a h = let f = framed_next body s (frame s) n a h in frame-within s f.1 n f.3

pub tail_within : (body : Body) (s : List ℕ) (at n : ℕ) (a : Shape) → at ≤ length s → first_of body (tail at s) ≡ next n a → (6 ≤ n) × (at + n ≤ length s)
tail_within body s at n a l h =
    let w = front-within body (drop at s) n a (rw tail-is at h) in
    let d = length-drop at s in
    (omega arith, omega arith)

seen_stop : (j : ℕ) (e : Refusal) (r : Read Tree) → seen r ≡ Err e → ended j r ≡ Err e
unfolding seen ended
seen_stop j e (refused m) h = cc
seen_stop j e (got t) h = cc

seen_next : (j : ℕ) (a : Shape) (r : Read Tree) → seen r ≡ Ok a → ended j r ≡ next j a
unfolding seen ended
seen_next j a (refused m) h = cc
seen_next j a (got t) h = let e : shape_of t ≡ a = cc in ap (next j) e

pub front_broken : (body : Body) (s : List ℕ) → frame s ≡ None → first_of body s ≡ Err BadFrame
unfolding framed
front_broken body s h = rw (h, framed)

pub front_stop : (body : Body) (s : List ℕ) (k j : ℕ) (e : Refusal) → frame s ≡ whole k j → seen (body k (take (j - 6) (drop 6 s))) ≡ Err e → first_of body s ≡ Err e
unfolding framed
front_stop body s k j e h b = rw (h, framed) (seen_stop j e (body k (take (j - 6) (drop 6 s))) b)

pub front_next : (body : Body) (s : List ℕ) (k j : ℕ) (a : Shape) → frame s ≡ whole k j → seen (body k (take (j - 6) (drop 6 s))) ≡ Ok a → first_of body s ≡ next j a
unfolding framed
front_next body s k j a h b = rw (h, framed) (seen_next j a (body k (take (j - 6) (drop 6 s))) b)

-- One record, and two.

end_none : (s : List ℕ) → length s ≡ 0 → end s ≡ got none
unfolding end
end_none [] h = refl
end_none (x ∷ s) h = absurd (omega arith)

end_left : (s : List ℕ) → 0 < length s → end s ≡ refused BadFrame
unfolding end
end_left [] h = absurd (omega arith)
end_left (x ∷ s) h = refl

module _ (body : Body) (s : List ℕ) where
  pub one_stop : (e : Refusal) → first_of body s ≡ Err e → seen_one (exactly body 1 s) ≡ Err e
  unfolding exactly seen_one
  one_stop e h = ap seen_one (framed_stop body s (frame s) e (λ r. exactly body 0 r) h)

  pub one_is : (n : ℕ) (a : Shape) → first_of body s ≡ next n a → n ≡ length s → seen_one (exactly body 1 s) ≡ Ok a
  unfolding exactly seen_one also first
  one_is n a h l =
      let f = framed_next body s (frame s) n a h in
      let d : end (drop n s) ≡ got none = end_none (drop n s) (omega (arith, length-drop n s)) in
      ap seen_one (f.4 (λ r. exactly body 0 r) ∙ ap (λ (r : Read Trees). also r (λ ts. got (f.0 then ts))) d) ∙ ap Ok f.2

  pub one_left : (n : ℕ) (a : Shape) → first_of body s ≡ next n a → (n ≡ length s → ⊥) → seen_one (exactly body 1 s) ≡ Err BadFrame
  unfolding exactly seen_one also
  one_left n a h l =
      let f = framed_next body s (frame s) n a h in
      let w = front-within body s n a h in
      let d : end (drop n s) ≡ refused BadFrame = end_left (drop n s) (omega (arith, length-drop n s)) in
      ap seen_one (f.4 (λ r. exactly body 0 r) ∙ ap (λ (r : Read Trees). also r (λ ts. got (f.0 then ts))) d)

  pub two_stop : (e : Refusal) → first_of body s ≡ Err e → seen_two (exactly body 2 s) ≡ Err e
  unfolding exactly seen_two
  two_stop e h = ap seen_two (framed_stop body s (frame s) e (λ r. exactly body 1 r) h)

  then_bad : (t : Tree) (e : Refusal) (r : Read Trees) → seen_one r ≡ Err e → seen_two (also r (λ ts. got (t then ts))) ≡ Err e
  unfolding seen_one seen_two also
  then_bad t e (refused m) h = cc
  then_bad t e (got ts) h = cc

  then_is : (t : Tree) (b : Shape) (r : Read Trees) → seen_one r ≡ Ok b → seen_two (also r (λ ts. got (t then ts))) ≡ two (shape_of t) b
  unfolding seen_one seen_two also first second
  then_is t b (refused m) h = cc
  then_is t b (got ts) h = let e : shape_of (first ts) ≡ b = cc in ap (λ (x : Shape). two (shape_of t) x) e

  pub two_bad : (n : ℕ) (a : Shape) (e : Refusal) → first_of body s ≡ next n a → seen_one (exactly body 1 (tail n s)) ≡ Err e → seen_two (exactly body 2 s) ≡ Err e
  unfolding exactly
  two_bad n a e h b =
      let f = framed_next body s (frame s) n a h in
      ap seen_two (f.4 (λ r. exactly body 1 r)) ∙ then_bad f.0 e (exactly body 1 (drop n s)) (rw tail-is at b)

  pub two_are : (n : ℕ) (a b : Shape) → first_of body s ≡ next n a → seen_one (exactly body 1 (tail n s)) ≡ Ok b → seen_two (exactly body 2 s) ≡ two a b
  unfolding exactly
  two_are n a b h g =
      let f = framed_next body s (frame s) n a h in
      ap seen_two (f.4 (λ r. exactly body 1 r)) ∙ then_is f.0 b (exactly body 1 (drop n s)) (rw tail-is at g) ∙ ap (λ (x : Shape). two x b) f.2

-- Shapes.

pub plain-is : (t : Tree) → plain_shape (shape_of t) ≡ both (negated (is_interval t)) (inner t)
unfolding shape_of
plain-is t = go (inner t) (is_interval t) (is_pair t)
  where
    go : (i v p : Bool) → plain_shape (pick i (pick v Interval (pick p Pair Other)) Misplaced) ≡ both (negated v) i
    go false true p = refl
    go false false p = refl
    go true true p = refl
    go true false true = refl
    go true false false = refl

sound_is : (t : Tree) → sound_shape (shape_of t) ≡ inner t
unfolding shape_of
sound_is t = go (inner t) (is_interval t) (is_pair t)
  where
    go : (i v p : Bool) → sound_shape (pick i (pick v Interval (pick p Pair Other)) Misplaced) ≡ i
    go false v p = refl
    go true true p = refl
    go true false true = refl
    go true false false = refl

interval_shape-is : (t : Tree) → interval_shape (shape_of t) ≡ both (is_interval t) (inner t)
unfolding shape_of
interval_shape-is t = go (inner t) (is_interval t) (is_pair t)
  where
    go : (i v p : Bool) → interval_shape (pick i (pick v Interval (pick p Pair Other)) Misplaced) ≡ both v i
    go false true p = refl
    go false false p = refl
    go true true p = refl
    go true false true = refl
    go true false false = refl

pair_is : (t : Tree) → pair_shape (shape_of t) ≡ both (both (negated (is_interval t)) (is_pair t)) (inner t)
unfolding shape_of
pair_is t = go (inner t) (is_interval t) (is_pair t)
  where
    go : (i v p : Bool) → pair_shape (pick i (pick v Interval (pick p Pair Other)) Misplaced) ≡ both (both (negated v) p) i
    go false true p = refl
    go false false true = refl
    go false false false = refl
    go true true p = refl
    go true false true = refl
    go true false false = refl

-- two parts that each ask something of their own and something else
parts : (a b x y : Bool) → both (both a x) (both b y) ≡ both (both a b) (both x y)
parts false b x y = refl
parts true false false y = refl
parts true false true y = refl
parts true true false y = refl
parts true true true y = refl

fits_bools : (o : Op) (t u : Tree) → (T I B vt vu pu it iu : Bool)
    → pick T (pick I (both it iu) (both (both vt it) (both vu iu))) (both (both (negated vt) it) (pick B (both (both (negated vu) pu) iu) (both (negated vu) iu)))
    ≡ both (pick T (either I (both vt vu)) (both (negated vt) (both (negated vu) (either (negated B) pu)))) (both it iu)
fits_bools o t u true true B vt vu pu it iu = refl
fits_bools o t u true false B vt vu pu it iu = parts vt vu it iu
fits_bools o t u false I true vt vu pu it iu = parts (negated vt) (both (negated vu) pu) it iu
fits_bools o t u false I false vt vu pu it iu = parts (negated vt) (negated vu) it iu ∙ ap (λ (b : Bool). both (both (negated vt) b) (both it iu)) (last vu)
  where
    last : (v : Bool) → negated v ≡ both (negated v) true
    last true = refl
    last false = refl

fits-is : (o : Op) (t u : Tree) → fits o (shape_of t) (shape_of u) ≡ both (operands o t u) (both (inner t) (inner u))
unfolding fits operands
fits-is o t u =
    simp (sound_is, interval_shape-is, plain-is, pair_is) (fits_bools o t u (is_temporal o) (is_instant_or_interval o) (is_between o) (is_interval t) (is_interval u) (is_pair u) (inner t) (inner u))

-- Records to the end: what is left answers for the whole, with what is known of the records before it.

abbrev pub grown : Bool → ℕ → Result Items Refusal → Result Items Refusal
grown p c (Err e) = Err e
grown p c (Ok i) = every (both p i.plain) (c + i.count)

grow_then : (p : Bool) (c : ℕ) (t : Tree) (r : Read Trees) → grown p c (seen_all (also r (λ ts. got (t then ts)))) ≡ grown (both p (plain_shape (shape_of t))) (c + 1) (seen_all r)
unfolding seen_all also inner inners no_interval everywhere_in count
grow_then p c t (refused e) = refl
grow_then p c t (got ts) =
    let n : c + suc (count ts) ≡ c + 1 + count ts = omega arith in
    let one : Bool = both (negated (is_interval t)) (inner t) in
    let q : both p (inners (t then ts)) ≡ both (both p (plain_shape (shape_of t))) (inners ts) =
    ap (both p) (sym (parts (negated (is_interval t)) (no_interval ts) (inner t) (everywhere_in in_place ts)))
    ∙ regroup p one (inners ts) ∙ ap (λ (b : Bool). both (both p b) (inners ts)) (sym (plain-is t)) in
    ap (λ (b : Bool). every b (c + suc (count ts))) q ∙ ap (λ (i : ℕ). every (both (both p (plain_shape (shape_of t))) (inners ts)) i) n
  where
    regroup : (a b d : Bool) → both a (both b d) ≡ both (both a b) d
    regroup true b d = refl
    regroup false b d = refl

many-step : (body : Body) (f : ℕ) (s : List ℕ) → 0 < length s → length s ≤ f → many body f s ≡ cons body s (frame s) (λ r. many body (f - 1) r)
unfolding many
many-step body f [] h l = absurd (omega arith)
many-step body zero (x ∷ s) h l = absurd (omega arith)
many-step body (suc f) (x ∷ s) h l = let e : f ≡ suc f - 1 = omega arith in ap (λ (i : ℕ). cons body (x ∷ s) (frame (x ∷ s)) (λ r. many body i r)) e

many_none : (body : Body) (f : ℕ) (s : List ℕ) → length s ≡ 0 → many body f s ≡ got none
unfolding many end
many_none body zero [] h = refl
many_none body (suc f) [] h = refl
many_none body f (x ∷ s) h = absurd (omega arith)

module _ (body : Body) (s : List ℕ) (at f : ℕ) (p : Bool) (c : ℕ) where
  pub many_off : (e : Refusal) → at < length s → length s - at ≤ f → first_of body (tail at s) ≡ Err e → grown p c (seen_all (many body f (drop at s))) ≡ Err e
  unfolding seen_all
  many_off e l g h =
      let d = length-drop at s in
      ap (λ (r : Read Trees). grown p c (seen_all r)) (many-step body f (drop at s) (omega arith) (omega arith) ∙ framed_stop body (drop at s) (frame (drop at s)) e (λ r. many body (f - 1) r) (rw tail-is at h))

  -- q is p and d, what the code computes of the record
  pub many_on : (n : ℕ) (a : Shape) (q d : Bool) → at < length s → length s - at ≤ f → first_of body (tail at s) ≡ next n a → q ≡ both p d → d ≡ plain_shape a
      → grown p c (seen_all (many body f (drop at s))) ≡ grown q (c + 1) (seen_all (many body (f - 1) (drop (at + n) s)))
  many_on n a q d l g h eq ed =
      let len = length-drop at s in
      let w = framed_next body (drop at s) (frame (drop at s)) n a (rw tail-is at h) in
      let r : Result Items Refusal = seen_all (many body (f - 1) (drop n (drop at s))) in
      let e : both p (plain_shape (shape_of w.0)) ≡ q = ap (λ (x : Shape). both p (plain_shape x)) w.2 ∙ ap (λ (b : Bool). both p b) (sym ed) ∙ sym eq in
      ap (λ (x : Read Trees). grown p c (seen_all x)) (many-step body f (drop at s) (omega arith) (omega arith) ∙ w.4 (λ r. many body (f - 1) r))
      ∙ grow_then p c w.0 (many body (f - 1) (drop n (drop at s)))
      ∙ ap (λ (b : Bool). grown b (c + 1) r) e
      ∙ ap (λ (l : List ℕ). grown q (c + 1) (seen_all (many body (f - 1) l))) (drop-drop n at s)

  pub many-end : length s ≤ at → grown p c (seen_all (many body f (drop at s))) ≡ every p c
  unfolding seen_all inners no_interval everywhere_in count
  many-end l =
      let d = length-drop at s in
      let n : c + 0 ≡ c = omega arith in
      ap (λ (r : Read Trees). grown p c (seen_all r)) (many_none body f (drop at s) (omega arith)) ∙ ap (λ (q : Bool). every q (c + 0)) (last p) ∙ ap (λ (i : ℕ). every p i) n
    where
      last : (b : Bool) → both b true ≡ b
      last true = refl
      last false = refl

grown_start : (i : Result Items Refusal) → i ≡ grown true 0 i
grown_start (Err e) = refl
grown_start (Ok i) = let n : i.count ≡ 0 + i.count = omega arith in ap (λ (x : ℕ). every i.plain x) n

pub many_start : (body : Body) (s : List ℕ) → seen_all (items body s) ≡ grown true 0 (seen_all (many body (length s) (drop 0 s)))
many_start body s = grown_start (seen_all (items body s))

-- Kinds.

module _ (test : Op → Bool) (make : Op → Trees → Tree) (n : ℕ) (below : Body) where
  taken_stop : (o : Option Op) (e : Refusal) (f : Op → Read Tree) → taken_by test o ≡ Err e → allowed test f o ≡ refused e
  unfolding taken_by allowed
  taken_stop None e f h = cc
  taken_stop (Some o) e f h = go (test o) h
    where
      go : (b : Bool) → pick b (Ok o) (Err BadKindOrOperator) ≡ Err e → pick b (f o) (refused BadKindOrOperator) ≡ refused e
      go true q = cc
      go false q = cc

  taken_is : (o : Option Op) (p : Op) (f : Op → Read Tree) → taken_by test o ≡ Ok p → allowed test f o ≡ f p
  unfolding taken_by allowed
  taken_is None p f h = cc
  taken_is (Some o) p f h = go (test o) h
    where
      go : (b : Bool) → pick b (Ok o) (Err BadKindOrOperator) ≡ Ok p → pick b (f o) (refused BadKindOrOperator) ≡ f p
      go true q = let e : o ≡ p = cc in ap f e
      go false q = cc

  operated_stop : (s : List ℕ) (e : Refusal) → taken test s ≡ Err e → operated test make n below s ≡ refused e
  unfolding taken operated
  operated_stop s e h = go (ltb (length s) 2) h
    where
      go : (b : Bool) → pick b (Err BadField) (taken_by test (op_of (le16 s 0))) ≡ Err e → pick b (refused BadField) (allowed test (λ o. also (exactly below n (drop 2 s)) (λ ts. got (make o ts))) (op_of (le16 s 0))) ≡ refused e
      go true q = cc
      go false q = taken_stop (op_of (le16 s 0)) e (λ o. also (exactly below n (drop 2 s)) (λ ts. got (make o ts))) q

  operated-is : (s : List ℕ) (p : Op) → taken test s ≡ Ok p → operated test make n below s ≡ also (exactly below n (tail 2 s)) (λ ts. got (make p ts))
  unfolding taken operated
  operated-is s p h = go (ltb (length s) 2) h ∙ ap (λ (l : List ℕ). also (exactly below n l) (λ ts. got (make p ts))) (sym (tail-is 2 s))
    where
      go : (b : Bool) → pick b (Err BadField) (taken_by test (op_of (le16 s 0))) ≡ Ok p → pick b (refused BadField) (allowed test (λ o. also (exactly below n (drop 2 s)) (λ ts. got (make o ts))) (op_of (le16 s 0))) ≡ also (exactly below n (drop 2 s)) (λ ts. got (make p ts))
      go true q = cc
      go false q = taken_is (op_of (le16 s 0)) p (λ o. also (exactly below n (drop 2 s)) (λ ts. got (make o ts))) q

pub taken_long : (test : Op → Bool) (s : List ℕ) (p : Op) → taken test s ≡ Ok p → 2 ≤ length s
unfolding taken
taken_long test s p h = go (ltb (length s) 2) refl h
  where
    go : (b : Bool) → ltb (length s) 2 ≡ b → pick b (Err BadField) (taken_by test (op_of (le16 s 0))) ≡ Ok p → 2 ≤ length s
    go true e q = let z : ◌≡◌ {A = ℕ} 0 1 = cc in absurd (omega arith)
    go false e q = ltb-false (length s) 2 e

seen_monadic : (o : Op) (r : Read Trees) → seen (also r (λ ts. got (monadic o (first ts)))) ≡ monadic_one (seen_one r)
unfolding seen seen_one also shape_of inner inners everywhere in_place by_operator is_interval is_items is_pair
seen_monadic o (refused e) = refl
seen_monadic o (got ts) = ap (λ (b : Bool). Ok (or_misplaced b Other)) (sym (plain-is (first ts)))

seen_dyadic : (o : Op) (r : Read Trees) → seen (also r (λ ts. got (dyadic o (first ts) (second ts)))) ≡ dyadic_one o (seen_two r)
unfolding seen seen_two also shape_of inner inners everywhere in_place by_operator is_interval is_items is_pair
seen_dyadic o (refused e) = refl
seen_dyadic o (got ts) = ap (λ (b : Bool). Ok (or_misplaced b Other)) (sym (fits-is o (first ts) (second ts)))

seen_function : (n : List ℕ) (r : Read Trees) → seen (also r (λ ts. got (function n ts))) ≡ function_one (seen_all r)
unfolding seen seen_all also shape_of inner inners everywhere in_place by_operator is_interval is_items is_pair
seen_function n (refused e) = refl
seen_function n (got ts) = refl

seen_array : (r : Read Trees) → seen (also r (λ ts. got (array ts))) ≡ array_one (seen_all r)
unfolding seen seen_all also shape_of inner inners everywhere in_place by_operator is_interval is_items is_pair
seen_array (refused e) = refl
seen_array (got ts) = refl

-- two ends that may stand where no Interval may
two_plain : (a b x y : Bool) → both (both a (both b true)) (both x y) ≡ both (both a x) (both b y)
two_plain false b x y = refl
two_plain true false false y = refl
two_plain true false true y = refl
two_plain true true x y = refl

seen_interval : (r : Read Trees) → seen (also r (λ ts. got (interval (first ts) (second ts)))) ≡ interval_one (seen_two r)
unfolding seen seen_two also shape_of inner everywhere in_place by_operator no_interval is_interval is_items is_pair
seen_interval (refused e) = refl
seen_interval (got ts) =
    let t : Tree = first ts in
    let u : Tree = second ts in
    ap (λ (b : Bool). Ok (or_misplaced b Interval))
    (two_plain (negated (is_interval t)) (negated (is_interval u)) (inner t) (inner u)
    ∙ ap (λ (b : Bool). both b (both (negated (is_interval u)) (inner u))) (sym (plain-is t))
    ∙ ap (λ (b : Bool). both (plain_shape (shape_of t)) b) (sym (plain-is u)))

module _ (below : Body) (s : List ℕ) where
  pub monadic_stop : (e : Refusal) → taken takes_one s ≡ Err e → seen (read_monadic below s) ≡ Err e
  unfolding seen
  monadic_stop e h = ap seen (operated_stop takes_one (λ o ts. monadic o (first ts)) 1 below s e h)

  pub monadic_is : (o : Op) → taken takes_one s ≡ Ok o → seen (read_monadic below s) ≡ monadic_one (seen_one (exactly below 1 (tail 2 s)))
  monadic_is o h = ap seen (operated-is takes_one (λ o ts. monadic o (first ts)) 1 below s o h) ∙ seen_monadic o (exactly below 1 (tail 2 s))

  pub dyadic_stop : (e : Refusal) → taken takes_two s ≡ Err e → seen (read_dyadic below s) ≡ Err e
  unfolding seen
  dyadic_stop e h = ap seen (operated_stop takes_two (λ o ts. dyadic o (first ts) (second ts)) 2 below s e h)

  pub dyadic_is : (o : Op) → taken takes_two s ≡ Ok o → seen (read_dyadic below s) ≡ dyadic_one o (seen_two (exactly below 2 (tail 2 s)))
  dyadic_is o h = ap seen (operated-is takes_two (λ o ts. dyadic o (first ts) (second ts)) 2 below s o h) ∙ seen_dyadic o (exactly below 2 (tail 2 s))

  pub function_stop : named_at s 0 ≡ false → seen (read_function below s) ≡ Err BadField
  unfolding read_function seen
  function_stop h = simp h

  pub function_is : (n : ℕ) → named_at s 0 ≡ true → n ≡ get_or s 0 0 → seen (read_function below s) ≡ function_one (seen_all (items below (tail (1 + n) s)))
  unfolding read_function
  function_is n h e =
      let d : drop (past s 0) s ≡ tail (1 + n) s = ap (λ (i : ℕ). drop (1 + i) s) (sym e) ∙ sym (tail-is (1 + n) s) in
      simp h (seen_function (name_at s 0) (items below (drop (past s 0) s)) ∙ ap (λ (l : List ℕ). function_one (seen_all (items below l))) d)

  pub array_is : seen (read_array below s) ≡ array_one (seen_all (items below s))
  array_is = seen_array (items below s)

  pub interval_is : seen (read_interval below s) ≡ interval_one (seen_two (exactly below 2 s))
  interval_is = seen_interval (exactly below 2 s)

pub named-within : (s : List ℕ) → named_at s 0 ≡ true → 1 + get_or s 0 0 ≤ length s
unfolding named_at
named-within s h = leb-true (past s 0) (length s) (both_true (leb (past s 0) (length s)) (name (name_at s 0)) h).0

-- A level.

pub node-zero : (levels k : ℕ) (s : List ℕ) → levels ≡ 0 → seen (node levels k s) ≡ Err TooDeep
unfolding node seen
node-zero zero k s h = refl
node-zero (suc n) k s h = absurd (omega arith)

node-step : (levels k : ℕ) (s : List ℕ) → (levels ≡ 0 → ⊥) → node levels k s ≡ read_kind (node (levels - 1)) k s
unfolding node
node-step zero k s h = absurd (h refl)
node-step (suc n) k s h = let e : n ≡ suc n - 1 = omega arith in ap (λ (i : ℕ). read_kind (node i) k s) e

pub node_as : (levels k n : ℕ) (s : List ℕ) → (levels ≡ 0 → ⊥) → k ≡ n → seen (node levels k s) ≡ seen (read_kind (node (levels - 1)) n s)
node_as levels k n s h e = ap (λ (i : ℕ). seen (node levels i s)) e ∙ ap seen (node-step levels n s h)

-- a kind without records
leaf-seen : (right : List ℕ → Bool) (make : List ℕ → Tree) (s : List ℕ) (b : Bool) → shape_of (make s) ≡ Other → b ≡ right s → leaf_one b ≡ seen (leaf right make s)
unfolding seen
leaf-seen right make s b h e = ap leaf_one e ∙ go (right s)
  where
    go : (d : Bool) → leaf_one d ≡ seen (pick d (got (make s)) (refused BadField))
    go true = ap Ok (sym h)
    go false = refl

module _ (levels k : ℕ) (s : List ℕ) (b : Bool) (h : levels ≡ 0 → ⊥) where
  pub node_null : k ≡ 0 → b ≡ eqb (length s) 0 → leaf_one b ≡ seen (node levels k s)
  unfolding choose kinds shape_of inner everywhere in_place by_operator no_interval is_interval is_items is_pair empty_body
  node_null e q = leaf-seen empty_body (λ s. null) s b refl q ∙ sym (node_as levels k 0 s h e)

  pub node_unbounded : k ≡ 1 → b ≡ eqb (length s) 0 → leaf_one b ≡ seen (node levels k s)
  unfolding choose kinds shape_of inner everywhere in_place by_operator no_interval is_interval is_items is_pair empty_body
  node_unbounded e q = leaf-seen empty_body (λ s. unbounded) s b refl q ∙ sym (node_as levels k 1 s h e)

  pub node_bool : k ≡ 2 → b ≡ bool_body s → leaf_one b ≡ seen (node levels k s)
  unfolding choose kinds shape_of inner everywhere in_place by_operator no_interval is_interval is_items is_pair
  node_bool e q = leaf-seen bool_body (λ s. bool (eqb (get_or s 0 0) 1)) s b refl q ∙ sym (node_as levels k 2 s h e)

  pub node_num : k ≡ 3 → b ≡ num_body s → leaf_one b ≡ seen (node levels k s)
  unfolding choose kinds shape_of inner everywhere in_place by_operator no_interval is_interval is_items is_pair
  node_num e q = leaf-seen num_body (λ s. num (mantissa s 0) (get_or s 8 0)) s b refl q ∙ sym (node_as levels k 3 s h e)

  pub node_str : k ≡ 4 → b ≡ str_body s → leaf_one b ≡ seen (node levels k s)
  unfolding choose kinds shape_of inner everywhere in_place by_operator no_interval is_interval is_items is_pair
  node_str e q = leaf-seen str_body (λ s. str (get_or s 0 0) (drop 1 s)) s b refl q ∙ sym (node_as levels k 4 s h e)

  pub node-date : k ≡ 5 → b ≡ date_body s → leaf_one b ≡ seen (node levels k s)
  unfolding choose kinds shape_of inner everywhere in_place by_operator no_interval is_interval is_items is_pair
  node-date e q = leaf-seen date_body (λ s. date (le16 s 0) (get_or s 2 0) (get_or s 3 0)) s b refl q ∙ sym (node_as levels k 5 s h e)

  pub node-timestamp : k ≡ 6 → b ≡ timestamp_body s → leaf_one b ≡ seen (node levels k s)
  unfolding choose kinds shape_of inner everywhere in_place by_operator no_interval is_interval is_items is_pair
  node-timestamp e q = leaf-seen timestamp_body (λ s. timestamp (le16 s 0) (get_or s 2 0) (get_or s 3 0) (get_or s 4 0) (get_or s 5 0) (get_or s 6 0)) s b refl q ∙ sym (node_as levels k 6 s h e)

  pub node_spatial : k ≡ 7 → b ≡ spatial_body s → leaf_one b ≡ seen (node levels k s)
  unfolding choose kinds shape_of inner everywhere in_place by_operator no_interval is_interval is_items is_pair
  node_spatial e q = leaf-seen spatial_body (λ s. spatial (le32 s 0) (drop 4 s)) s b refl q ∙ sym (node_as levels k 7 s h e)

  pub node_id : k ≡ 8 → b ≡ name s → leaf_one b ≡ seen (node levels k s)
  unfolding choose kinds shape_of inner everywhere in_place by_operator no_interval is_interval is_items is_pair
  node_id e q = leaf-seen name (λ s. id s) s b refl q ∙ sym (node_as levels k 8 s h e)

-- `rest` as a `match` leaves it: none of the kinds
pub node_other : (levels k : ℕ) (s : List ℕ) → (levels ≡ 0 → ⊥) → (((((((((((((Unit {0} × (k ≡ 0 → ⊥)) × (k ≡ 1 → ⊥)) × (k ≡ 2 → ⊥)) × (k ≡ 3 → ⊥)) × (k ≡ 4 → ⊥)) × (k ≡ 5 → ⊥)) × (k ≡ 6 → ⊥)) × (k ≡ 7 → ⊥)) × (k ≡ 8 → ⊥)) × (k ≡ 9 → ⊥)) × (k ≡ 10 → ⊥)) × (k ≡ 11 → ⊥)) × (k ≡ 12 → ⊥)) × (k ≡ 13 → ⊥) → seen (node levels k s) ≡ Err BadKindOrOperator
unfolding choose kinds seen
node_other levels k s h r = node_as levels k k s h refl ∙ simp (ne_eqb k 0 r.0.0.0.0.0.0.0.0.0.0.0.0.0.1, ne_eqb k 1 r.0.0.0.0.0.0.0.0.0.0.0.0.1, ne_eqb k 2 r.0.0.0.0.0.0.0.0.0.0.0.1, ne_eqb k 3 r.0.0.0.0.0.0.0.0.0.0.1, ne_eqb k 4 r.0.0.0.0.0.0.0.0.0.1, ne_eqb k 5 r.0.0.0.0.0.0.0.0.1, ne_eqb k 6 r.0.0.0.0.0.0.0.1, ne_eqb k 7 r.0.0.0.0.0.0.1, ne_eqb k 8 r.0.0.0.0.0.1, ne_eqb k 9 r.0.0.0.0.1, ne_eqb k 10 r.0.0.0.1, ne_eqb k 11 r.0.0.1, ne_eqb k 12 r.0.1, ne_eqb k 13 r.1)

-- The public calls.

pub accepted-settings : (l : Limits) (c s : List ℕ) → is_settings c ≡ false → verdict (accepted l c s) ≡ Err BadSettings
unfolding accepted settings also verdict
accepted-settings l c s h = simp h

-- behind settings that are right the tree alone decides
pub accepted_by_tree : (l : Limits) (c s : List ℕ) → is_settings c ≡ true → verdict (accepted l c s) ≡ verdict (accepted_tree l s)
unfolding settings also verdict
accepted_by_tree l c s h = ap verdict (accepted_parts l c s) ∙ simp h (go (accepted_tree l s))
  where
    go : (r : Read Tree) → verdict (also {B = Settings × Tree} r (λ t. got (settings_in c, t))) ≡ verdict r
    go (refused n) = refl
    go (got t) = refl

-- what is left to say after the walk: refusal 7, where nothing else was found
abbrev pub concluded : Result Shape Refusal → Result (Unit {0}) Refusal
concluded (Err e) = Err e
concluded (Ok a) = pick (plain_shape a) (Ok tt) (Err BadOperand)

verdict-pick : (A : Type 0) (b : Bool) (x : A) → verdict (pick b (got x) (refused BadOperand)) ≡ pick b (Ok tt) (Err BadOperand)
unfolding verdict
verdict-pick A true x = refl
verdict-pick A false x = refl

module _ (l : Limits) (s : List ℕ) where
  pub accepted_long : l.tree < length s → verdict (accepted_tree l s) ≡ Err TreeTooLong
  unfolding accepted_tree verdict
  accepted_long n = simp (lt-ltb l.tree (length s) n)

  within_limit : length s ≤ l.tree → (r : Read Trees) → exactly (node l.depth) 1 s ≡ r → verdict (accepted_tree l s) ≡ concluded (seen_one r)
  unfolding accepted_tree parse verdict also seen_one placed
  within_limit n (refused e) h = simp (le-ltb l.tree (length s) n, h)
  within_limit n (got ts) h =
      simp (le-ltb l.tree (length s) n, h) (verdict-pick _ (placed (first ts)) _ ∙ ap (λ (b : Bool). pick b (Ok tt) (Err BadOperand)) (sym (plain-is (first ts))))

  pub accepted_walk : (a : Result Shape Refusal) → length s ≤ l.tree → a ≡ seen_one (exactly (node l.depth) 1 s) → verdict (accepted_tree l s) ≡ concluded a
  accepted_walk a n e = within_limit n (exactly (node l.depth) 1 s) refl ∙ ap concluded (sym e)
