-- Laws of specs/Emit.antt and specs/LaysWords.antt: when a text is laid, and texts laid one after the other. Counting stops at the cap, so a place is
-- exact wherever the text after it has room.
use Rattle.std.specs.Prelude.{ℕ, suc, ◌+◌, ◌≤◌, ◌<◌, min, ◌≡◌, refl, List, [], ◌∷◌, ◌++◌, Bool, true, false, length, take, drop, get_or, set}
use Rattle.std.proofs.Common.{ap, sym, ◌∙◌, subst, add-zero, add-one, arith, length-append, take-suc, length-take-le, lt-ltb, le-ltb, ltb-true, ltb-false}
use Rattle.std.proofs.lemmas.List.Edits.{sets, sets-eq}
use Rattle.std.proofs.Math.Seq.{length-sets}
use Rattle.prelude.specs.Choice.{pick}
use Rattle.emit.specs.Emit.{ended, lacks, placed, Puts}
use Rattle.emit.specs.LaysWords.{Lays}

-- ---- a run of bytes

pub sets_append : (t u l : List ℕ) (i : ℕ) → sets (sets l i t) (i + length t) u ≡ sets l i (t ++ u)
sets_append [] u l i = rw add-zero
sets_append (a ∷ t) u l i =
    let e : i + suc (length t) ≡ suc i + length t = omega arith in
    ap (λ (k : ℕ). sets (sets (set l i a) (suc i) t) k u) e ∙ sets_append t u (set l i a) (suc i)

-- three runs one after the other
pub length_three : (t u v : List ℕ) → length (t ++ (u ++ v)) ≡ (length t + length u) + length v
length_three t u v =
    let e : length (t ++ (u ++ v)) ≡ length t + length (u ++ v) = length-append t (u ++ v) in
    let f : length (u ++ v) ≡ length u + length v = length-append u v in
    omega arith

pub sets_three : (t u v l : List ℕ) (i : ℕ) → sets (sets (sets l i t) (i + length t) u) ((i + length t) + length u) v ≡ sets l i (t ++ (u ++ v))
sets_three t u v l i = sets_append u v (sets l i t) (i + length t) ∙ sets_append t (u ++ v) l i

-- one more byte
pub sets_more : (s l : List ℕ) (i k : ℕ) → k < length s → sets l i (take (k + 1) s) ≡ set (sets l i (take k s)) (i + k) (get_or s k 0)
sets_more s l i k h =
    rw (add-one, take-suc s k 0)
    (sym (sets_append (take k s) (get_or s k 0 ∷ []) l i)
    ∙ ap (λ (j : ℕ). set (sets l i (take k s)) (i + j) (get_or s k 0)) (length-take-le k s (omega arith)))

-- ---- a text that has room, and one that lacks it

-- n bytes from `at` lie within the first `len` bytes, below the cap
pub record Room (cap len at n : ℕ) : Type 0 where
  pub inside : at + n ≤ len
  pub counted : at + n ≤ cap

pub room : (cap len at n : ℕ) {b : Bool} → b ≡ lacks cap len at n → b ≡ false → Room cap len at n
room cap len at n e f =
    let h : at + n ≤ min len cap = ltb-false (min len cap) (at + n) (sym e ∙ f) in
    record { inside = omega arith; counted = omega arith }

pub has_room : {cap len at n : ℕ} → Room cap len at n → lacks cap len at n ≡ false
has_room {cap} {len} {at} {n} h =
    let a : at + n ≤ len = h.inside in
    let b : at + n ≤ cap = h.counted in
    le-ltb (min len cap) (at + n) (omega arith)

pub placed-fits : {cap : ℕ} (out : List ℕ) (at : ℕ) (t : List ℕ) → Room cap (length out) at (length t) → placed cap out at t ≡ sets out at t
unfolding placed
placed-fits out at t h = simp (has_room h)

pub placed_over : (cap : ℕ) (out : List ℕ) (at : ℕ) (t : List ℕ) → min (length out) cap < at + length t → placed cap out at t ≡ out
unfolding placed
placed_over cap out at t h = simp (lt-ltb (min (length out) cap) (at + length t) h)

pub length-placed : (cap : ℕ) (out : List ℕ) (at : ℕ) (t : List ℕ) → length (placed cap out at t) ≡ length out
unfolding placed
length-placed cap out at t = go (lacks cap (length out) at (length t))
  where
    go : (b : Bool) → length (pick b out (sets out at t)) ≡ length out
    go true = refl
    go false = length-sets out at t

-- an empty text changes nothing, wherever it stands
pub placed_none : (cap : ℕ) (out : List ℕ) (at : ℕ) → placed cap out at [] ≡ out
unfolding placed
placed_none cap out at = go (lacks cap (length out) at 0)
  where
    go : (b : Bool) → pick b out out ≡ out
    go true = refl
    go false = refl

pub no_bytes : (t : List ℕ) → length t ≡ 0 → t ≡ []
no_bytes [] h = refl
no_bytes (x ∷ t) h = absurd (let v : ⊥ = omega arith in v)

-- from the cap on nothing is changed
pub placed_past : (cap : ℕ) (out : List ℕ) (at : ℕ) (t : List ℕ) → cap ≤ at → placed cap out at t ≡ out
unfolding placed
placed_past cap out at t h = go (lacks cap (length out) at (length t)) refl
  where
    go : (b : Bool) → lacks cap (length out) at (length t) ≡ b → pick b out (sets out at t) ≡ out
    go true e = refl
    go false e =
        let g : at + length t ≤ min (length out) cap = ltb-false (min (length out) cap) (at + length t) e in
        ap (λ (x : List ℕ). sets out at x) (no_bytes t (omega arith))

-- ---- what a writer of one text ensures

-- the text by another name
pub puts_of : {cap at : ℕ} {t u entry exit : List ℕ} {r : ℕ} → t ≡ u → Puts cap at t entry exit r → Puts cap at u entry exit r
puts_of {cap} {at} {t} {u} {entry} {exit} {r} e x = subst (λ (y : List ℕ). Puts cap at y entry exit r) e x

-- there is no room, and the place is counted
pub puts_over : (cap at n : ℕ) (t entry : List ℕ) {r : ℕ} {b : Bool} → n ≡ length t → b ≡ lacks cap (length entry) at n → b ≡ true → r ≡ ended cap at n
    → Puts cap at t entry entry r
puts_over cap at n t entry e f g h =
    let l : min (length entry) cap < at + n = ltb-true (min (length entry) cap) (at + n) (sym f ∙ g) in
    record { laid = sym (placed_over cap entry at t (omega arith)); end = h ∙ ap (λ (k : ℕ). ended cap at k) e }

-- several writes with room for all: what is there then, and the place after it
pub record Wrote (cap : ℕ) (out : List ℕ) (at : ℕ) (t exit : List ℕ) (r : ℕ) : Type 0 where
  pub laid : exit ≡ sets out at t
  pub end : r ≡ at + length t

exact : (cap at n : ℕ) {r : ℕ} → at + n ≤ cap → r ≡ ended cap at n → r ≡ at + n
exact cap at n h e = omega (arith, e)

pub wrote_same : {cap : ℕ} {out : List ℕ} {at : ℕ} {t u exit : List ℕ} {r : ℕ} → t ≡ u → Wrote cap out at t exit r → Wrote cap out at u exit r
wrote_same {cap} {out} {at} {t} {u} e w = record { laid = w.laid ∙ ap (λ (x : List ℕ). sets out at x) e; end = w.end ∙ ap (λ (x : List ℕ). at + length x) e }

-- the first write
pub wrote : {cap : ℕ} {out : List ℕ} {at : ℕ} {t exit : List ℕ} {r : ℕ} → Room cap (length out) at (length t) → Puts cap at t out exit r → Wrote cap out at t exit r
wrote {cap} {out} {at} {t} h p = record { laid = p.laid ∙ placed-fits out at t h; end = exact cap at (length t) h.counted p.end }

-- one more write
pub wrote_then : {cap : ℕ} {out : List ℕ} {at : ℕ} {t mid exit : List ℕ} {q r : ℕ} (u : List ℕ) → Room cap (length out) at (length t + length u)
    → Wrote cap out at t mid q → Puts cap q u mid exit r → Wrote cap out at (t ++ u) exit r
wrote_then {cap} {out} {at} {t} {mid} {exit} {q} {r} u h w p =
    let g : length (t ++ u) ≡ length t + length u = length-append t u in
    let n : length mid ≡ length out = ap length w.laid ∙ length-sets out at t in
    let z : q ≡ at + length t = w.end in
    let i : at + (length t + length u) ≤ length out = h.inside in
    let j : at + (length t + length u) ≤ cap = h.counted in
    let k : Room cap (length mid) q (length u) = record { inside = omega arith; counted = omega arith } in
    record {
      laid = p.laid ∙ placed-fits mid q u k ∙ rw (z, w.laid) (sets_append t u out at);
      end = exact cap q (length u) k.counted p.end ∙ (let y : q + length u ≡ at + length (t ++ u) = omega arith in y);
    }

-- what they do as one
pub wrote_puts : {cap : ℕ} {out : List ℕ} {at : ℕ} {t exit : List ℕ} {r : ℕ} → Room cap (length out) at (length t) → Wrote cap out at t exit r → Puts cap at t out exit r
wrote_puts {cap} {out} {at} {t} h w =
    let j : at + length t ≤ cap = h.counted in
    record { laid = w.laid ∙ sym (placed-fits out at t h); end = w.end ∙ (let y : at + length t ≡ min (at + length t) cap = omega arith in y) }

-- ---- several writes, with room or without

-- one write
pub lays : {cap at : ℕ} {t entry exit : List ℕ} {r : ℕ} → Puts cap at t entry exit r → Lays cap at t entry exit r
lays {cap} {at} {t} {entry} p = record {
  place = p.end;
  kept = ap length p.laid ∙ length-placed cap entry at t;
  laid = λ h g. p.laid ∙ placed-fits entry at t (record { inside = h; counted = g });
}

-- nothing is written
pub lays_none : {cap at : ℕ} {l : List ℕ} {r : ℕ} → r ≡ ended cap at 0 → Lays cap at [] l l r
lays_none e = record { place = e; kept = refl; laid = λ h g. refl }

-- the text by another name
pub lays_of : {cap at : ℕ} {t u entry exit : List ℕ} {r : ℕ} → t ≡ u → Lays cap at t entry exit r → Lays cap at u entry exit r
lays_of {cap} {at} {t} {u} {entry} {exit} {r} e x = subst (λ (y : List ℕ). Lays cap at y entry exit r) e x

twice : (cap a b : ℕ) → ended cap (min a cap) b ≡ ended cap a b
twice cap a b = omega arith

-- two steps
pub lays_then : {cap at : ℕ} {t u l m n : List ℕ} {p r : ℕ} → Lays cap at t l m p → Lays cap p u m n r → Lays cap at (t ++ u) l n r
lays_then {cap} {at} {t} {u} {l} {m} {n} {p} {r} x y = record {
  place =
      y.place
      ∙ ap (λ (k : ℕ). ended cap k (length u)) x.place
      ∙ twice cap (at + length t) (length u)
      ∙ ap (λ (k : ℕ). min k cap) (let z : (at + length t) + length u ≡ at + length (t ++ u) = rw length-append (omega arith) in z);
  kept = y.kept ∙ x.kept;
  laid = λ h g.
      let w : length (t ++ u) ≡ length t + length u = length-append t u in
      let q : p ≡ at + length t = exact cap at (length t) (omega arith) x.place in
      let k : length m ≡ length l = x.kept in
      let a : m ≡ sets l at t = x.laid (omega arith) (omega arith) in
      y.laid (omega arith) (omega arith) ∙ rw (q, a) (sets_append t u l at);
}

-- from the cap on nothing is written
pub lays_past : {cap at : ℕ} (t l : List ℕ) → cap ≤ at → Lays cap at t l l cap
lays_past {cap} {at} t l a = record {
  place = omega arith;
  kept = refl;
  laid = λ h g. ap (λ (x : List ℕ). sets l at x) (sym (no_bytes t (omega arith)));
}

-- a text at the front that has room: it, then the bytes past it
pub sets_front : (out t : List ℕ) → length t ≤ length out → sets out 0 t ≡ t ++ drop (length t) out
sets_front out t h = sets-eq t out 0 (omega arith) ∙ ap (λ (k : ℕ). t ++ drop k out) (let z : 0 + length t ≡ length t = omega arith in z)
