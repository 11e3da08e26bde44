-- `is_literal` over records that lie one after the other: what is left to look at, as a list of trees.
use Prim.Native.Nat.{ℕ, ◌+◌, ◌-◌, ◌≤◌, ◌<◌}
use mathlib.Core.Path.{◌≡◌, refl, ap, sym, ◌∙◌}
use mathlib.Core.List.{List, [], ◌++◌, append_assoc, append-nil}
use mathlib.Core.Bool.{Bool, true, false}
use native.Mathlib.Omega.{arith}
use lib.ListN.{length, drop, length-append, length-drop, drop_of_length-le}
use lib.Seq.{drop-drop}
use Rattle.prelude.specs.Choice.{both, either, between}
use Rattle.record.specs.Record.{le16, record_of}
use Rattle.tree.specs.Tree.{Tree, Trees, encode, encodes, null, unbounded, bool, num, str, date, timestamp, spatial, id, monadic, dyadic, function, array, interval, none, ◌then◌, kind_of}
use Rattle.tree.specs.Tests.{is_literal, all_literal, is_id, is_literal_or_id, everywhere_in, everywhere}
use Rattle.text.specs.RecordWords.{EndOf}
use Rattle.text.proofs.RecordLaws.{body_of, shape, kind_at, beyond, long, long_at}
use Rattle.tree.specs.TestsLaws.{OfKind, of_array, kind-is}
use borrow.Author.Tests.{eq-eqb, ne_eqb}
use Rattle.prelude.specs.ChoiceLaws.{between_true}
use Rattle.tree.specs.EncodeLaws.{between_is}

never : {A : Type 0} → ⊥ → A
never v = absurd v

abbrev join : Trees → Trees → Trees
join none us = us
join (t then ts) us = t then join ts us

encodes_join : (ts us : Trees) → encodes (join ts us) ≡ encodes ts ++ encodes us
unfolding encodes
encodes_join none us = refl
encodes_join (t then ts) us = ap (λ (l : List ℕ). encode t ++ l) (encodes_join ts us) ∙ sym (append_assoc (encode t) (encodes ts) (encodes us))

both_assoc : (a b c : Bool) → both a (both b c) ≡ both (both a b) c
both_assoc true b c = refl
both_assoc false b c = refl

both_true : (a : Bool) → both a true ≡ a
both_true true = refl
both_true false = refl

literal_join : (ts us : Trees) → all_literal (join ts us) ≡ both (all_literal ts) (all_literal us)
unfolding all_literal everywhere_in everywhere is_literal
literal_join none us = refl
literal_join (t then ts) us = ap (λ (b : Bool). both (is_literal t) b) (literal_join ts us) ∙ both_assoc (is_literal t) (all_literal ts) (all_literal us)

-- what the kind decides

literal_kind : (u : Tree) → (kind_of u ≡ 12 → ⊥) → is_literal u ≡ between 2 (kind_of u) 7
unfolding is_literal everywhere
literal_kind null g = refl
literal_kind unbounded g = refl
literal_kind (bool b) g = refl
literal_kind (num m s) g = refl
literal_kind (str f s) g = refl
literal_kind (date y m d) g = refl
literal_kind (timestamp y m d k i s) g = refl
literal_kind (spatial n s) g = refl
literal_kind (id s) g = refl
literal_kind (monadic o t) g = refl
literal_kind (dyadic o t v) g = refl
literal_kind (function n ts) g = refl
literal_kind (array ts) g = never (g refl)
literal_kind (interval t v) g = refl

lit_yes : (u : Tree) → 2 ≤ kind_of u → kind_of u ≤ 7 → is_literal u ≡ true
lit_yes u h g = literal_kind u (λ e. omega arith) ∙ between_is 2 (kind_of u) 7 h g

lit_no : (u : Tree) → (2 ≤ kind_of u → kind_of u ≤ 7 → ⊥) → (kind_of u ≡ 12 → ⊥) → is_literal u ≡ false
lit_no u h g = literal_kind u g ∙ go (between 2 (kind_of u) 7) refl
  where
    go : (b : Bool) → between 2 (kind_of u) 7 ≡ b → b ≡ false
    go true e = let r = between_true 2 (kind_of u) 7 e in never (h r.0 r.1)
    go false e = refl

id_yes : (u : Tree) → kind_of u ≡ 8 → is_id u ≡ true
unfolding is_id
id_yes u h = eq-eqb (kind_of u) 8 h

pub id_no : (u : Tree) → (kind_of u ≡ 8 → ⊥) → is_id u ≡ false
unfolding is_id
id_no u h = ne_eqb (kind_of u) 8 h

array_of : (u : Tree) → kind_of u ≡ 12 → (ts : Trees) × (u ≡ array ts)
array_of u h = go u (kind-is 12 u h)
  where
    go : (t : Tree) → OfKind 12 t → (ts : Trees) × (t ≡ array ts)
    go t (of_array ts) = (ts, refl)

-- the body of the record at p
pub body_at : (s : List ℕ) (p : ℕ) (x : Tree) (rest : List ℕ) → drop p s ≡ encode x ++ rest → drop (p + 6) s ≡ body_of x ++ rest
unfolding record_of
body_at s p x rest at =
    sym (drop-drop 6 p s) ∙ ap (λ (l : List ℕ). drop 6 l) (at ∙ ap (λ (l : List ℕ). l ++ rest) (shape x))

-- The trees that are left to look at from p on.
pub record Left (s : List ℕ) (p : ℕ) (t : Tree) : Type 0 where
  pub us : Trees
  pub there : drop p s ≡ encodes us
  pub same : is_literal t ≡ all_literal us

pub left_start : (s : List ℕ) (t : Tree) → s ≡ encode t → Left s 0 t
unfolding encodes all_literal everywhere_in everywhere is_literal
left_start s t e = record { us = t then none; there = e ∙ sym (append-nil (encode t)); same = sym (both_true (is_literal t)) }

pub left_end : {s : List ℕ} {p : ℕ} {t : Tree} → length s ≤ p → Left s p t → true ≡ is_literal t
unfolding encodes all_literal everywhere_in everywhere is_literal
left_end {s} {p} {t} h l = go l.us l.there l.same
  where
    go : (us : Trees) → drop p s ≡ encodes us → is_literal t ≡ all_literal us → true ≡ is_literal t
    go none e q = sym q
    go (u then us) e q =
        let a : length (encode u) + length (encodes us) ≡ 0 = sym (length-append (encode u) (encodes us)) ∙ ap length (sym e ∙ drop_of_length-le s h) in
        let b = long u in
        absurd (let v : ⊥ = omega arith in v)

-- the first of them, where there is one
pub record Front (s : List ℕ) (p : ℕ) (t : Tree) : Type 0 where
  pub u : Tree
  pub vs : Trees
  pub at : drop p s ≡ encode u ++ encodes vs
  pub same : is_literal t ≡ both (is_literal u) (all_literal vs)

front : {s : List ℕ} {p : ℕ} {t : Tree} → p < length s → Left s p t → Front s p t
unfolding encodes all_literal everywhere_in everywhere is_literal
front {s} {p} {t} h l = go l.us l.there l.same
  where
    go : (us : Trees) → drop p s ≡ encodes us → is_literal t ≡ all_literal us → Front s p t
    go none e q =
        let a : length s - p ≡ 0 = sym (length-drop p s) ∙ ap length e in
        absurd (let v : ⊥ = omega arith in v)
    go (u then us) e q = record { u = u; vs = us; at = e; same = q }

-- what is left has room for a record
pub left_long : {s : List ℕ} {p : ℕ} {t : Tree} → p < length s → Left s p t → 6 ≤ length s - p
left_long {s} {p} h l = let f = front h l in long_at s p f.u (encodes f.vs) f.at

pub left_array : {s : List ℕ} {p k : ℕ} {t : Tree} → p < length s → k ≡ le16 s (p + 4) → k ≡ 12 → Left s p t → Left s (p + 6) t
unfolding is_literal everywhere all_literal everywhere_in
left_array {s} {p} {k} {t} h e q l =
    let f = front h l in
    let a : kind_of f.u ≡ 12 = sym (kind_at s p f.u (encodes f.vs) f.at) ∙ sym e ∙ q in
    let w = array_of f.u a in
    let b : drop (p + 6) s ≡ encodes w.0 ++ encodes f.vs =
    body_at s p f.u (encodes f.vs) f.at ∙ ap (λ (x : Tree). body_of x ++ encodes f.vs) w.1 in
    record {
      us = join w.0 f.vs;
      there = b ∙ sym (encodes_join w.0 f.vs);
      same = f.same ∙ ap (λ (x : Tree). both (is_literal x) (all_literal f.vs)) w.1 ∙ sym (literal_join w.0 f.vs);
    }

pub left_next : {s : List ℕ} {p k r : ℕ} {t : Tree} → p < length s → k ≡ le16 s (p + 4) → 2 ≤ k → k ≤ 7 → EndOf s p r → Left s p t → Left s r t
left_next {s} {p} {k} {r} {t} h e a b z l =
    let f = front h l in
    let q : kind_of f.u ≡ k = sym (kind_at s p f.u (encodes f.vs) f.at) ∙ sym e in
    let w : is_literal f.u ≡ true = lit_yes f.u (omega arith) (omega arith) in
    let n : r ≡ p + length (encode f.u) = z.exact f.u (encodes f.vs) f.at in
    record {
      us = f.vs;
      there = ap (λ (x : ℕ). drop x s) n ∙ beyond s p f.u (encodes f.vs) f.at;
      same = f.same ∙ ap (λ (x : Bool). both x (all_literal f.vs)) w;
    }

pub left_not : {s : List ℕ} {p k : ℕ} {t : Tree} → p < length s → k ≡ le16 s (p + 4) → (k ≡ 12 → ⊥) → (2 ≤ k → k ≤ 7 → ⊥) → Left s p t → false ≡ is_literal t
left_not {s} {p} {k} {t} h e a b l =
    let f = front h l in
    let q : kind_of f.u ≡ k = sym (kind_at s p f.u (encodes f.vs) f.at) ∙ sym e in
    let w : is_literal f.u ≡ false = lit_no f.u (λ x y. b (omega arith) (omega arith)) (λ x. a (sym q ∙ x)) in
    sym (f.same ∙ ap (λ (x : Bool). both x (all_literal f.vs)) w)

-- the record of t as a whole
whole : (s : List ℕ) (t : Tree) → s ≡ encode t → drop 0 s ≡ encode t ++ []
whole s t e = e ∙ sym (append-nil (encode t))

pub kind-whole : (s : List ℕ) (t : Tree) → s ≡ encode t → le16 s 4 ≡ kind_of t
kind-whole s t e = kind_at s 0 t [] (whole s t e)

-- what the kind of any tree but an array tells
pub kind_tells : (s : List ℕ) (k : ℕ) (t : Tree) → s ≡ encode t → k ≡ le16 s 4 → (k ≡ 12 → ⊥) → between 2 k 8 ≡ is_literal_or_id t
unfolding is_literal_or_id is_literal is_id everywhere
kind_tells s k t e q z = ap (λ (n : ℕ). between 2 n 8) w ∙ go t (λ y. z (w ∙ y))
  where
    w : k ≡ kind_of t
    w = q ∙ kind-whole s t e

    go : (u : Tree) → (kind_of u ≡ 12 → ⊥) → between 2 (kind_of u) 8 ≡ is_literal_or_id u
    go null v = refl
    go unbounded v = refl
    go (bool b) v = refl
    go (num m n) v = refl
    go (str f n) v = refl
    go (date y m d) v = refl
    go (timestamp y m d h i n) v = refl
    go (spatial m n) v = refl
    go (id n) v = refl
    go (monadic o x) v = refl
    go (dyadic o x y) v = refl
    go (function n ts) v = refl
    go (array ts) v = absurd (v refl)
    go (interval x y) v = refl

pub no_id : (s : List ℕ) (k : ℕ) (t : Tree) (r : Bool) → s ≡ encode t → k ≡ le16 s 4 → (k ≡ 8 → ⊥) → r ≡ is_literal t → r ≡ is_literal_or_id t
unfolding is_literal_or_id
no_id s k t r e q z w =
    let a : is_id t ≡ false = id_no t (λ x. z (q ∙ kind-whole s t e ∙ x)) in
    w ∙ go (is_literal t) (is_id t) a
  where
    go : (a b : Bool) → b ≡ false → a ≡ either a b
    go true b h = refl
    go false b h = sym h

pub id_true : (u : Tree) → kind_of u ≡ 8 → is_id u ≡ true
id_true u h = id_yes u h
