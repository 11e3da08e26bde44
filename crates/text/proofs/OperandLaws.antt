-- Where the operands of a node stand, BETWEEN's bounds, and what a temporal node's four ends are.
use Prim.Native.Nat.{ℕ, ◌+◌, ◌-◌, ◌≤◌, ◌<◌, min}
use mathlib.Core.Path.{◌≡◌, refl, ap, sym, ◌∙◌}
use mathlib.Core.List.{List, [], ◌++◌, append-nil}
use mathlib.Core.Bool.{Bool, true, false}
use native.Mathlib.Omega.{arith}
use lib.ListN.{length, get_or, drop, length-drop, drop_of_length-le}
use lib.Seq.{drop-drop, get_or-drop}
use lib.Dec.{eqb}
use borrow.Author.Tests.{eqb-true, eqb-false, ne_eqb}
use Rattle.prelude.specs.Choice.{pick, between}
use Rattle.record.specs.Record.{le16, record_of}
use Rattle.op.specs.declared.Op.{Op}
use Rattle.op.specs.Op.{op_number}
use Rattle.tree.specs.Tree.{Tree, Trees, encode, encodes, monadic, array, none, ◌then◌, kind_of}
use Rattle.tree.specs.Tests.{first, second, ends_of, is_items, children}
use Rattle.operand.specs.declared.Operand as operand
use Rattle.operand.specs.Ends.{unfold_expressions}
use Rattle.text.specs.EndWords.{IsOperand, Are}
use Rattle.text.specs.FormWords.{twin, twin_of, under_of, items_of, operand_of}
use Rattle.text.specs.NodeWords.{Bound, gone, item}
use Rattle.text.specs.RecordWords.{Stands, EndOf, sound, sounds}
use Rattle.text.proofs.RecordLaws.{body_of, beyond, ends_at, size_of}
use Rattle.text.proofs.LiteralLaws.{body_at}
use Rattle.text.proofs.EndLaws.{stands_kind, stands_part, both_first, both-second}
use Rattle.text.proofs.NodeLaws.{is-twin}
use Rattle.emit.specs.EmitLaws.{no_bytes}
use Rattle.tree.specs.TestsLaws.{OfKind, of_monadic, of_array, kind-is}

monadic_of : (x : Tree) → kind_of x ≡ 9 → (o : Op) × ((t : Tree) × (x ≡ monadic o t))
monadic_of x e = go x (kind-is 9 x e)
  where
    go : (u : Tree) → OfKind 9 u → (o : Op) × ((t : Tree) × (u ≡ monadic o t))
    go u (of_monadic o t) = (o, (t, refl))

items_of_lem : (x : Tree) → kind_of x ≡ 12 → (ts : Trees) × (x ≡ array ts)
items_of_lem x e = go x (kind-is 12 x e)
  where
    go : (t : Tree) → OfKind 12 t → (ts : Trees) × (t ≡ array ts)
    go t (of_array ts) = (ts, refl)

no_items : (x : Tree) → (kind_of x ≡ 12 → ⊥) → items_of x ≡ none
unfolding items_of is_items
no_items x e = ap (λ (b : Bool). pick b (children x) none) (ne_eqb (kind_of x) 12 e)

-- the operand of a monadic node that stands at p
under_at : (s : List ℕ) (p : ℕ) (o : Op) (t : Tree) (rest : List ℕ) → drop p s ≡ encode (monadic o t) ++ rest → drop (p + 8) s ≡ encode t ++ rest
unfolding encode record_of
under_at s p o t rest at = sym (drop-drop 8 p s) ∙ ap (λ (l : List ℕ). drop 8 l) at

size_under : (o : Op) (t : Tree) → length (encode (monadic o t)) ≡ 8 + length (encode t)
size_under o t = let e = size_of (monadic o t) in omega arith

pub operand_stands : (s : List ℕ) (o : Op) (t : Tree) → s ≡ encode (monadic o t) → sound t ≡ true → Stands s 8 (length s) t
operand_stands s o t e f =
    let l : length s ≡ 8 + length (encode t) = ap length e ∙ size_under o t in
    record {
      rest = [];
      there = under_at s 0 o t [] (e ∙ sym (append-nil (encode (monadic o t))));
      past = l;
      starts = omega arith;
      inside = omega arith;
      fit = f;
    }

inner_at : (s : List ℕ) (o : Op) (t : Tree) → s ≡ encode (monadic o t) → le16 s 14 ≡ le16 (encode t) 6
inner_at s o t e =
    let d : drop 8 s ≡ encode t = under_at s 0 o t [] (e ∙ sym (append-nil (encode (monadic o t)))) ∙ append-nil (encode t) in
    let a : get_or s 14 0 ≡ get_or (encode t) 6 0 = sym (get_or-drop 8 s 6 0) ∙ ap (λ (l : List ℕ). get_or l 6 0) d in
    let b : get_or s 15 0 ≡ get_or (encode t) 7 0 = sym (get_or-drop 8 s 7 0) ∙ ap (λ (l : List ℕ). get_or l 7 0) d in
    omega arith

nine : (a b c d f h : Bool) (k : ℕ) → pick a false (pick b false (pick c false (pick (eqb k 9) (pick d f h) false))) ≡ true → k ≡ 9
nine true b c d f h k e = absurd (let z : ◌≡◌ {A = ℕ} 0 1 = cc in let v : ⊥ = omega arith in v)
nine false true c d f h k e = absurd (let z : ◌≡◌ {A = ℕ} 0 1 = cc in let v : ⊥ = omega arith in v)
nine false false true d f h k e = absurd (let z : ◌≡◌ {A = ℕ} 0 1 = cc in let v : ⊥ = omega arith in v)
nine false false false d f h k e = go (eqb k 9) refl e
  where
    go : (b : Bool) → eqb k 9 ≡ b → pick b (pick d f h) false ≡ true → k ≡ 9
    go true p q = eqb-true k 9 p
    go false p q = absurd (let z : ◌≡◌ {A = ℕ} 0 1 = cc in let v : ⊥ = omega arith in v)

module _ (s : List ℕ) (op kind inner : ℕ) (b : Bool) (k : kind ≡ le16 s 12) (i : inner ≡ le16 s 14) (w : b ≡ twin_of op kind inner) (o : Op) (t : Tree) (e : s ≡ encode (monadic o t)) (f : sound t ≡ true) (n : op ≡ op_number o) where
  stands : Stands s 8 (length s) t
  stands = operand_stands s o t e f

  kinds : kind ≡ kind_of t
  kinds = k ∙ stands_kind stands

  pub twins : twin o t ≡ b
  twins =
      is-twin o t
      ∙ ap (λ (x : ℕ). twin_of x (kind_of t) (le16 (encode t) 6)) (sym n)
      ∙ ap (λ (x : ℕ). twin_of op x (le16 (encode t) 6)) (sym kinds)
      ∙ ap (λ (x : ℕ). twin_of op kind x) (sym (i ∙ inner_at s o t e))
      ∙ sym w

  -- the operand that is written
  pub under_stands : (a : ℕ) → a ≡ pick b (min 16 (length s)) 8 → Stands s a (length s) (operand_of o t)
  unfolding operand_of under_of sound first
  under_stands a z = rw twins (go b refl z)
    where
      go : (c : Bool) → b ≡ c → a ≡ pick c (min 16 (length s)) 8 → Stands s a (length s) (pick c (under_of t) t)
      go false q y = rw y stands
      go true q y =
          let m = monadic_of t (sym kinds ∙ nine (between 51 op 52) (eqb op 7) (eqb op 1) (eqb op 16) (eqb inner 17) (eqb inner 16) kind (sym w ∙ q)) in
          let u = m.1.0 in
          let tu : t ≡ monadic m.0 u = m.1.1 in
          let d : drop 8 s ≡ encode (monadic m.0 u) ++ stands.rest = stands.there ∙ ap (λ (x : Tree). encode x ++ stands.rest) tu in
          let l : length s ≡ 8 + length (encode t) = stands.past in
          let l2 : length (encode t) ≡ 8 + length (encode u) = ap (λ (x : Tree). length (encode x)) tu ∙ size_under m.0 u in
          let aa : a ≡ 16 = omega arith in
          let uu : under_of t ≡ u = ap under_of tu in
          rw uu
          (record {
            rest = stands.rest;
            there = ap (λ (x : ℕ). drop x s) aa ∙ under_at s 8 m.0 u stands.rest d;
            past = omega arith;
            starts = omega arith;
            inside = omega arith;
            fit = sym (ap sound tu) ∙ f;
          })

-- BETWEEN's bounds: the items of an array that ends where s does

record Items (s : List ℕ) (p : ℕ) (u : Tree) : Type 0 where
  pub ts : Trees
  pub named : items_of u ≡ ts
  pub there : drop p s ≡ encodes ts
  pub fit : sounds ts ≡ true

items_stand : {s : List ℕ} {m p k : ℕ} {u : Tree} → Stands s m (length s) u → k ≡ le16 s (m + 4) → k ≡ 12 → p ≡ min (m + 6) (length s) → Items s p u
unfolding items_of sound is_items
items_stand {s} {m} {p} {k} {u} h e q l =
    let w = items_of_lem u (sym (stands_kind h) ∙ sym e ∙ q) in
    let en = ends_at s m u h.rest h.there h.inside in
    let r : h.rest ≡ [] = no_bytes h.rest (omega (arith, h.past)) in
    let z = size_of u in
    let pp : p ≡ m + 6 = omega (arith, h.past) in
    record {
      ts = w.0;
      named = ap items_of w.1;
      there = ap (λ (y : ℕ). drop y s) pp ∙ body_at s m u h.rest h.there ∙ ap (λ (y : List ℕ). body_of u ++ y) r ∙ append-nil (body_of u) ∙ ap body_of w.1;
      fit = sym (ap sound w.1) ∙ h.fit;
    }

-- an empty range
stays : {s : List ℕ} {p q : ℕ} → EndOf s p q → length s ≤ p → p ≡ q
stays n h = omega (arith, n.low, n.high)

empty_there : (s : List ℕ) (p : ℕ) → drop p s ≡ [] → p ≤ length s → length s ≤ p
empty_there s p d h = let l : length s - p ≡ 0 = sym (length-drop p s) ∙ ap length d in omega arith

-- the first of some records that stand to the end of s
bound_at : {s : List ℕ} {p z : ℕ} (ts : Trees) → drop p s ≡ encodes ts → sounds ts ≡ true → 0 < p → p ≤ length s → EndOf s p z → Bound s p z (first ts)
unfolding first encodes sounds
bound_at {s} {p} none d f a b n = gone (stays n (empty_there s p d b))
bound_at {s} {p} {z} (x then ts) d f a b n =
    let fit = both_first (sound x) (sounds ts) f in
    let st : Stands s p z x = record { rest = encodes ts; there = d; past = n.exact x (encodes ts) d; starts = a; inside = b; fit = fit } in
    item x (stands_part st).1 fit

-- the records after it
record Behind (s : List ℕ) (z : ℕ) (ts : Trees) : Type 0 where
  pub rest : Trees
  pub there : drop z s ≡ encodes rest
  pub fit : sounds rest ≡ true
  pub named : second ts ≡ first rest

behind : {s : List ℕ} {p z : ℕ} (ts : Trees) → drop p s ≡ encodes ts → sounds ts ≡ true → p ≤ length s → EndOf s p z → Behind s z ts
unfolding first second encodes sounds
behind {s} {p} none d f b n = record { rest = none; there = ap (λ (y : ℕ). drop y s) (sym (stays n (empty_there s p d b))) ∙ d; fit = refl; named = refl }
behind {s} {p} {z} (x then ts) d f b n = record {
  rest = ts;
  there = ap (λ (y : ℕ). drop y s) (n.exact x (encodes ts) d) ∙ beyond s p x (encodes ts) d;
  fit = both-second (sound x) (sounds ts) f;
  named = refl;
}

both_bounds : {s : List ℕ} {p q z : ℕ} {u : Tree} → Items s p u → 0 < p → p ≤ length s → EndOf s p q → EndOf s q z → Bound s p q (first (items_of u)) × Bound s q z (second (items_of u))
both_bounds {s} {p} {q} {z} i a b n o =
    let w = behind i.ts i.there i.fit b n in (
      rw i.named (bound_at i.ts i.there i.fit a b n),
      rw (i.named, w.named) (bound_at w.rest w.there w.fit (let v : 0 < q = omega (arith, n.low) in v) n.high o),
    )

pub bounds : {s : List ℕ} {m p q z : ℕ} {u : Tree} → Stands s m (length s) u → p ≡ pick (eqb (le16 s (m + 4)) 12) (min (m + 6) (length s)) (length s) → EndOf s p q → EndOf s q z
    → Bound s p q (first (items_of u)) × Bound s q z (second (items_of u))
unfolding encodes sounds
bounds {s} {m} {p} {q} {z} {u} h e n o = go (eqb (le16 s (m + 4)) 12) refl e
  where
    go : (b : Bool) → eqb (le16 s (m + 4)) 12 ≡ b → p ≡ pick b (min (m + 6) (length s)) (length s) → Bound s p q (first (items_of u)) × Bound s q z (second (items_of u))
    go true k y = both_bounds (items_stand h refl (eqb-true _ _ k) y) (let v : 0 < p = omega (arith, h.starts, h.inside) in v) (let v : p ≤ length s = omega arith in v) n o
    go false k y =
        let l : length s ≤ p = omega arith in
        both_bounds
        (record { ts = none; named = no_items u (λ w. eqb-false _ _ k (stands_kind h ∙ w)); there = drop_of_length-le s l; fit = refl })
        (let v : 0 < p = omega (arith, h.starts, h.inside) in v)
        (let v : p ≤ length s = omega arith in v)
        n
        o

-- A temporal node's ends.

pub temporal_ends : {s : List ℕ} {t u : Tree} (a c : operand.Operand) → IsOperand s a t → IsOperand s c u → Are s (unfold_expressions a c) (ends_of t u)
unfolding ends_of unfold_expressions
temporal_ends a c x y = record { is0 = x.starts; is1 = x.stops; is2 = y.starts; is3 = y.stops }
