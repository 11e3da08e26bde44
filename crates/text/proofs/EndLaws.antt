-- What an end and an operand in the bytes are, by the kind of the record that stands there.
use Prim.Native.Nat.{ℕ, ◌+◌, ◌-◌, ◌≤◌, min}
use mathlib.Core.Path.{◌≡◌, refl, ap, sym, ◌∙◌, subst}
use mathlib.Core.List.{List, ◌++◌, append_assoc}
use mathlib.Core.Bool.{Bool, true, false}
use native.Mathlib.Omega.{arith}
use lib.ListN.{length, drop, length-append}
use Rattle.prelude.specs.Choice.{both, pick}
use Rattle.record.specs.Record.{le16}
use Rattle.tree.specs.Tree.{Tree, encode, null, unbounded, interval, kind_of}
use Rattle.tree.specs.Tests.{is_interval, is_id, start_of, stop_of, first, second, children}
use Rattle.operand.specs.declared.End as end
use Rattle.operand.specs.declared.End.TheVariants.{Column, Instant, Other, Open, Null}
use Rattle.operand.specs.declared.Operand.TheVariants.{Single, Interval}
use Rattle.text.specs.EndWords.{Is, IsOperand}
use Rattle.text.specs.RecordWords.{Inside, part, Stands, EndOf, sound}
use Rattle.text.proofs.RecordLaws.{body_of, kind_at, beyond, part_at, ends_at, size_of, long_at}
use Rattle.text.proofs.LiteralLaws.{id_no, id_true, body_at}
use Rattle.tree.specs.TestsLaws.{OfKind, of_null, of_unbounded, of_interval, kind-is}
use borrow.Author.Tests.{ne_eqb}
use lib.Dec.{eqb}

never : {A : Type 0} → ⊥ → A
never v = absurd v

pub stands_kind : {s : List ℕ} {a z : ℕ} {x : Tree} → Stands s a z x → le16 s (a + 4) ≡ kind_of x
stands_kind {s} {a} {z} {x} h = kind_at s a x h.rest h.there

-- a record has its six bytes
pub stands_long : {s : List ℕ} {a z : ℕ} {x : Tree} → Stands s a z x → 6 ≤ length s - a
stands_long {s} {a} {z} {x} h = long_at s a x h.rest h.there

pub at_six : (a n : ℕ) → 6 ≤ n - a → a + 6 ≡ min (a + 6) n
at_six a n h = omega arith

pub stands_part : {s : List ℕ} {a z : ℕ} {x : Tree} → Stands s a z x → Inside s a z × (part s a z ≡ encode x)
stands_part {s} {a} {z} {x} h =
    let e = ends_at s a x h.rest h.there h.inside in (
      record { starts = h.starts; order = omega arith; ends = omega arith },
      ap (λ (n : ℕ). part s a n) h.past ∙ part_at s a x h.rest h.there,
    )

null_of : (x : Tree) → kind_of x ≡ 0 → x ≡ null
null_of x e = go x (kind-is 0 x e)
  where
    go : (t : Tree) → OfKind 0 t → t ≡ null
    go t of_null = refl

open_of : (x : Tree) → kind_of x ≡ 1 → x ≡ unbounded
open_of x e = go x (kind-is 1 x e)
  where
    go : (t : Tree) → OfKind 1 t → t ≡ unbounded
    go t of_unbounded = refl

pub interval_of : (x : Tree) → kind_of x ≡ 13 → (p : Tree) × ((q : Tree) × (x ≡ interval p q))
interval_of x e = go x (kind-is 13 x e)
  where
    go : (t : Tree) → OfKind 13 t → (p : Tree) × ((q : Tree) × (t ≡ interval p q))
    go t (of_interval p q) = (p, (q, refl))

record Alone (x : Tree) : Type 0 where
  pub plain : is_interval x ≡ false
  pub starts : start_of x ≡ x
  pub stops : stop_of x ≡ null

alone : (x : Tree) → (kind_of x ≡ 13 → ⊥) → Alone x
unfolding is_interval start_of stop_of
alone x e =
    let p : is_interval x ≡ false = ne_eqb (kind_of x) 13 e in
    record {
      plain = p;
      starts = ap (λ (b : Bool). pick b (first (children x)) x) p;
      stops = ap (λ (b : Bool). pick b (second (children x)) null) p;
    }

pub null_is : (s : List ℕ) → Is s Null null
unfolding is_id sound
null_is s = record { column = refl; opened = refl; fit = refl; here = refl }

module _ {s : List ℕ} {a z k : ℕ} {x : Tree} (h : Stands s a z x) (e : k ≡ le16 s (a + 4)) where
  kind : k ≡ kind_of x
  kind = e ∙ stands_kind h

  closed : (k ≡ 1 → ⊥) → false ≡ eqb (kind_of x) 1
  closed q = sym (ne_eqb (kind_of x) 1 (λ y. q (kind ∙ y)))

  pub as_null : k ≡ 0 → Is s Null x
  as_null q = record { column = sym (id_no x (λ y. let w = kind in let v : ⊥ = omega arith in v)); opened = closed (λ y. let v : ⊥ = omega arith in v); fit = h.fit; here = null_of x (sym kind ∙ q) }

  pub as_open : k ≡ 1 → Is s Open x
  as_open q = record { column = sym (id_no x (λ y. let w = kind in let v : ⊥ = omega arith in v)); opened = sym (ap (λ (n : ℕ). eqb n 1) (sym kind ∙ q)); fit = h.fit; here = open_of x (sym kind ∙ q) }

  pub as_column : k ≡ 8 → Is s (Column a z) x
  as_column q = record { column = sym (id_true x (sym kind ∙ q)); opened = closed (λ y. let v : ⊥ = omega arith in v); fit = h.fit; here = stands_part h }

  pub as_instant : (k ≡ 1 → ⊥) → (k ≡ 8 → ⊥) → Is s (Instant a z) x
  as_instant p q = record { column = sym (id_no x (λ y. q (kind ∙ y))); opened = closed p; fit = h.fit; here = stands_part h }

  pub as_other : (k ≡ 1 → ⊥) → (k ≡ 8 → ⊥) → Is s (Other a z) x
  as_other p q = record { column = sym (id_no x (λ y. q (kind ∙ y))); opened = closed p; fit = h.fit; here = stands_part h }

  pub single : (k ≡ 13 → ⊥) → (o : end.End) → Is s o x → IsOperand s (Single o) x
  single q o i =
      let w = alone x (λ y. q (kind ∙ y)) in
      record {
        split = sym w.plain;
        starts = subst (λ (y : Tree). Is s o y) (sym w.starts) i;
        stops = subst (λ (y : Tree). Is s Null y) (sym w.stops) (null_is s);
      }

pub both_first : (a b : Bool) → both a b ≡ true → a ≡ true
both_first true b e = refl
both_first false b e = e

pub both-second : (a b : Bool) → both a b ≡ true → b ≡ true
both-second true b e = e
both-second false b e = absurd (let z : ◌≡◌ {A = ℕ} 0 1 = cc in let v : ⊥ = omega arith in v)

-- the two ends of an interval
pub record Halves (s : List ℕ) (p m z : ℕ) (x : Tree) : Type 0 where
  pub first : Tree
  pub second : Tree
  pub whole : x ≡ interval first second
  pub one : Stands s p m first
  pub two : Stands s m z second

pub halves : {s : List ℕ} {a z k p m : ℕ} {x : Tree} → Stands s a z x → k ≡ le16 s (a + 4) → k ≡ 13 → p ≡ min (a + 6) (length s) → EndOf s p m → Halves s p m z x
unfolding sound
halves {s} {a} {z} {k} {p} {m} {x} h e q l n =
    let w = interval_of x (sym (stands_kind h) ∙ sym e ∙ q) in
    let P = w.0 in
    let Q = w.1.0 in
    let xs : x ≡ interval P Q = w.1.1 in
    let f : both (sound P) (sound Q) ≡ true = sym (ap sound xs) ∙ h.fit in
    let b : drop (a + 6) s ≡ encode P ++ (encode Q ++ h.rest) =
    body_at s a x h.rest h.there ∙ ap (λ (y : Tree). body_of y ++ h.rest) xs ∙ append_assoc (encode P) (encode Q) h.rest in
    let len : length (encode x) ≡ 6 + (length (encode P) + length (encode Q)) = size_of x ∙ ap (λ (y : Tree). 6 + length (body_of y)) xs ∙ ap (λ (y : ℕ). 6 + y) (length-append (encode P) (encode Q)) in
    let en = ends_at s a x h.rest h.there h.inside in
    let pp : p ≡ a + 6 = omega arith in
    let d : drop p s ≡ encode P ++ (encode Q ++ h.rest) = ap (λ (y : ℕ). drop y s) pp ∙ b in
    let mm : m ≡ p + length (encode P) = n.exact P (encode Q ++ h.rest) d in
    record {
      first = P;
      second = Q;
      whole = xs;
      one = record { rest = encode Q ++ h.rest; there = d; past = mm; starts = omega arith; inside = omega arith; fit = both_first (sound P) (sound Q) f };
      two = record {
        rest = h.rest;
        there = ap (λ (y : ℕ). drop y s) mm ∙ beyond s p P (encode Q ++ h.rest) d;
        past = h.past ∙ (let v : a + length (encode x) ≡ m + length (encode Q) = omega arith in v);
        starts = omega arith;
        inside = omega arith;
        fit = both-second (sound P) (sound Q) f;
      };
    }

pub interval_is : {s : List ℕ} {p m z : ℕ} {x : Tree} {e f : end.End} (h : Halves s p m z x) → Is s e h.first → Is s f h.second → IsOperand s (Interval e f) x
unfolding is_interval start_of stop_of first second
interval_is {s} {p} {m} {z} {x} {e} {f} h i j = record {
  split = sym (ap is_interval h.whole);
  starts = subst (λ (y : Tree). Is s e (start_of y)) (sym h.whole) i;
  stops = subst (λ (y : Tree). Is s f (stop_of y)) (sym h.whole) j;
}
