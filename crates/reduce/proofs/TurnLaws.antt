-- What is written of a Monadic whose operand is reduced.
use Prim.Native.Nat.{ℕ, ◌+◌, ◌-◌, ◌≤◌, ◌<◌}
use mathlib.Core.Path.{◌≡◌, refl, sym, ap, ◌∙◌}
use mathlib.Core.List.{List, [], ◌∷◌, ◌++◌}
use mathlib.Core.Bool.{Bool, true, false, false≢true}
use native.Mathlib.Omega.{arith}
use lib.Dec.{eqb}
use lib.IntN.{ℤ, nat_abs, neg_ℤ}
use lib.ListN.{length, drop, get_or}
use lib.Seq.{sets, drop-drop, get_or-drop}
use Rattle.prelude.specs.Choice.{pick, some}
use Rattle.record.specs.Record.{le, le64, record_of}
use Rattle.op.specs.declared.Op.{Op}
use Rattle.op.specs.declared.Op.TheVariants.{CaseI, AccentI}
use Rattle.op.specs.Op.{op_number, one_of}
use Rattle.tree.specs.Limits.{mantissa_limit}
use Rattle.tree.specs.Tree.{Tree, null, unbounded, bool, num, str, date, timestamp, spatial, id, monadic, dyadic, function, array, interval, twos, encode}
use Rattle.tree.specs.GoodWords.{Good}
use Rattle.tree.specs.ByteLaws.{le64-le, twos-low}
use Rattle.tree.specs.TestsLaws.{OfKind, of_num}
use Rattle.reduce.specs.declared.Operand.{Operand}
use Rattle.reduce.specs.declared.Sort.{Sort}
use Rattle.reduce.specs.declared.Sort.TheVariants as sort
use Rattle.reduce.specs.declared.Turn.{Turn}
use Rattle.reduce.specs.declared.Turn.TheVariants.{Keep, ToNull, ToBool, Stay, Negate, NoCase, NoAccent}
use Rattle.reduce.specs.Sort.{sort_number, sort_of}
use Rattle.reduce.specs.Rules.{turn}
use Rattle.reduce.specs.Reduced.{minus, turned}
use Rattle.reduce.specs.ReducedLaws.{monadic_size}
use Rattle.reduce.specs.WalkWords.{Holds, Kept, Writes, operand, done_at, head_of, written}
use Rattle.reduce.proofs.RuleLaws.{op_apart}
use Rattle.reduce.proofs.WayLaws.{negate_sort, turns}
use Rattle.reduce.proofs.RoomLaws.{holds_stands, keep_one, fold_over}

-- Null and Bools.

over : {at end : ℕ} {l m n : List ℕ} {r : Operand} (v u : Tree) → Kept at end v l m → at + length (encode u) ≤ length m
    → (r ≡ done_at at u) × (n ≡ sets m at (encode u)) → Writes at u l n r
over v u p h w = record { answers = w.0; holds = rw w.1 (fold_over u p.holds h) }

pub turned_null : {at end : ℕ} {l m n : List ℕ} {c : Turn} {r : Operand} (o : Op) (v : Tree) → c ≡ ToNull → Kept at end v l m → at + 6 ≤ length m
    → (r ≡ done_at at null) × (n ≡ sets m at (encode null)) → Writes at (turned c o v) l n r
unfolding turned encode record_of
turned_null o v e p h w = rw e (over v null p h w)

pub turned_bool : {at end : ℕ} {l m n : List ℕ} {c : Turn} {r : Operand} (o : Op) (v : Tree) (x : Bool) → c ≡ ToBool x → Kept at end v l m → at + 7 ≤ length m
    → (r ≡ done_at at (bool x)) × (n ≡ sets m at (encode (bool x))) → Writes at (turned c o v) l n r
unfolding turned encode record_of
turned_bool o v x e p h w = rw e (over v (bool x) p h w)

-- The Num behind `at`.

pub is_num : (t : Tree) → sort_number (sort_of t) ≡ 4 → OfKind 3 t
unfolding sort_of
is_num null e = absurd (let v : ⊥ = omega (arith, e) in v)
is_num unbounded e = absurd (let v : ⊥ = omega (arith, e) in v)
is_num (bool true) e = absurd (let v : ⊥ = omega (arith, e) in v)
is_num (bool false) e = absurd (let v : ⊥ = omega (arith, e) in v)
is_num (num m s) e = of_num m s
is_num (str f s) e = absurd (let v : ⊥ = omega (arith, e) in v)
is_num (date y m d) e = absurd (let v : ⊥ = omega (arith, e) in v)
is_num (timestamp y m d h i s) e = absurd (let v : ⊥ = omega (arith, e) in v)
is_num (spatial n s) e = absurd (let v : ⊥ = omega (arith, e) in v)
is_num (id s) e = absurd (let v : ⊥ = omega (arith, e) in v)
is_num (monadic o t) e = absurd (go (one_of o (CaseI ∷ [])) (one_of o (AccentI ∷ [])) e)
  where
    go : (a b : Bool) → sort_number (pick a sort.CaseI (pick b sort.AccentI sort.Other)) ≡ 4 → ⊥
    go true b e = omega (arith, e)
    go false true e = omega (arith, e)
    go false false e = omega (arith, e)
is_num (dyadic o t u) e = absurd (let v : ⊥ = omega (arith, e) in v)
is_num (function n ts) e = absurd (let v : ⊥ = omega (arith, e) in v)
is_num (array ts) e = absurd (let v : ⊥ = omega (arith, e) in v)
is_num (interval t u) e = absurd (let v : ⊥ = omega (arith, e) in v)

-- eight bytes that stand at i
le64_at : (s t : List ℕ) (i : ℕ) → drop i s ≡ t → le64 s i ≡ le64 t 0
le64_at s t i e =
    let at : (k j : ℕ) → j ≡ i + k → get_or s j 0 ≡ get_or t k 0 = λ k j q. ap (λ (x : ℕ). get_or s x 0) q ∙ sym (get_or-drop i s k 0) ∙ ap (λ (l : List ℕ). get_or l k 0) e in
    rw (
      at 0 i (omega arith),
      at 1 (i + 1) refl,
      at 2 (i + 2) refl,
      at 3 (i + 2 + 1) (omega arith),
      at 4 (i + 4) refl,
      at 5 (i + 4 + 1) (omega arith),
      at 6 (i + 4 + 2) (omega arith),
      at 7 (i + 4 + 2 + 1) (omega arith),
    )
    refl

num_mantissa : (m : ℤ) (s at : ℕ) (room rest : List ℕ) → nat_abs m ≤ mantissa_limit → drop (at + 8) room ≡ encode (num m s) ++ rest → le64 room (at + 14) ≡ twos m
unfolding encode record_of
num_mantissa m s at room rest h e =
    let i : at + 14 ≡ at + 8 + 6 = omega arith in
    let d : drop (at + 14) room ≡ le 8 (twos m) ++ ((s ∷ []) ++ rest) = ap (λ (k : ℕ). drop k room) i ∙ sym (drop-drop 6 (at + 8) room) ∙ ap (λ (l : List ℕ). drop 6 l) e in
    le64_at room (le 8 (twos m) ++ ((s ∷ []) ++ rest)) (at + 14) d ∙ le64-le (twos m) ((s ∷ []) ++ rest) (twos-low m (omega (arith, h)))

num_scale : (m : ℤ) (s at : ℕ) (room rest : List ℕ) → drop (at + 8) room ≡ encode (num m s) ++ rest → get_or room (at + 22) 0 ≡ s
unfolding encode record_of
num_scale m s at room rest e =
    let i : at + 22 ≡ at + 8 + 14 = omega arith in
    ap (λ (k : ℕ). get_or room k 0) i ∙ sym (get_or-drop (at + 8) room 14 0) ∙ ap (λ (l : List ℕ). get_or l 14 0) e

num_length : (m : ℤ) (s : ℕ) → length (encode (num m s)) ≡ 15
unfolding encode record_of
num_length m s = refl

-- what is read of it, and what is written
pub negated_num : {at n q x : ℕ} {l m e : List ℕ} {r : Operand} (v : Tree) (k : ℕ) → Holds (at + 8) (encode v) l m → Good v k → sort_number (sort_of v) ≡ 4 → at + 23 ≤ length m
    → q ≡ le64 m (at + 14) → ((z : ℤ) → nat_abs z ≤ mantissa_limit → q ≡ twos z → n ≡ twos (neg_ℤ z)) → (x ≡ get_or m (at + 22) 0) × (x < 256)
    → ((z : ℤ) → n ≡ twos z → (r ≡ done_at at (num z x)) × (e ≡ sets m at (encode (num z x)))) → Writes at (minus v) l e r
unfolding minus Good
negated_num {at} {n} {q} {x} {l} {m} {e} {r} v k h g f room eq opp ex put = go (is_num v f) h g
  where
    go : {v : Tree} → OfKind 3 v → Holds (at + 8) (encode v) l m → Good v k → Writes at (minus v) l e r
    go (of_num z s) h g =
        let rest : List ℕ = drop (at + 8 + length (encode (num z s))) m in
        let stands : drop (at + 8) m ≡ encode (num z s) ++ rest = holds_stands h in
        let scale : x ≡ s = ex.0 ∙ num_scale z s at m rest stands in
        let two : n ≡ twos (neg_ℤ z) = opp z g.1 (eq ∙ num_mantissa z s at m rest g.1 stands) in
        let w = put (neg_ℤ z) two in
        let fits : at + length (encode (num (neg_ℤ z) s)) ≤ length m = omega (arith, room, num_length (neg_ℤ z) s) in
        rw (← scale) (record { answers = w.0; holds = rw w.1 (fold_over (num (neg_ℤ z) x) h (rw scale fits)) })

-- Negate is asked of a Num alone.

pub turned_negate : {at end : ℕ} {l m n : List ℕ} {c : Turn} {r : Operand} (o : Op) (v : Tree) (k : ℕ) → c ≡ Negate → Kept at end v l m → Good v k → c ≡ turn o (sort_of v)
    → ((v : Tree) (k : ℕ) (l : List ℕ) → Holds (at + 8) (encode v) l m → Good v k → sort_number (sort_of v) ≡ 4 → Writes at (minus v) l n r) → Writes at (turned c o v) l n r
unfolding turned
turned_negate {at} {end} {l} o v k e p g t f = rw e (f v k l p.holds g (negate_sort (op_number o) (sort_number (sort_of v)) (turns o (sort_of v)) (sym t ∙ e)))

-- What is kept.

pub kept_arm : (c : Turn) → (c ≡ ToNull → ⊥) → ((b : Bool) → c ≡ ToBool b → ⊥) → (c ≡ Negate → ⊥) → written c ≡ true → c ≡ Keep
kept_arm Keep f g h e = refl
kept_arm ToNull f g h e = absurd (f refl)
kept_arm (ToBool b) f g h e = absurd (g b refl)
kept_arm Negate f g h e = absurd (h refl)
kept_arm Stay f g h e = absurd (false≢true e)
kept_arm NoCase f g h e = absurd (false≢true e)
kept_arm NoAccent f g h e = absurd (false≢true e)

pub kept_case : {o : Op} (v : Tree) → o ≡ CaseI → sort.CaseI ≡ sort_of (monadic o v)
unfolding sort_of some
kept_case v e = rw e refl

pub kept_accent : {o : Op} (v : Tree) → o ≡ AccentI → sort.AccentI ≡ sort_of (monadic o v)
unfolding sort_of some
kept_accent v e = rw e refl

pub kept_other : {o : Op} (v : Tree) → (o ≡ CaseI → ⊥) → (o ≡ AccentI → ⊥) → sort.Other ≡ sort_of (monadic o v)
unfolding sort_of some
kept_other {o} v n m = simp (op_apart o CaseI n, op_apart o AccentI m)

monadic_done : (at end : ℕ) (o : Op) (v : Tree) {q : Sort} → end ≡ at + 8 + length (encode v) → q ≡ sort_of (monadic o v) → operand end q ≡ done_at at (monadic o v)
unfolding done_at
monadic_done at end o v {q} e f =
    let z : end ≡ at + length (encode (monadic o v)) = omega (arith, e, monadic_size o v) in
    ap (λ (i : ℕ). operand i q) z ∙ ap (λ (i : Sort). operand (at + length (encode (monadic o v))) i) f

pub turned_kept : {at end : ℕ} {q : Sort} {l m n : List ℕ} {c : Turn} (o : Op) (v : Tree) → c ≡ Keep → Kept at end v l m → q ≡ sort_of (monadic o v)
    → n ≡ sets m at (head_of 9 (op_number o) (end - at - 8)) → Writes at (turned c o v) l n (operand end q)
unfolding turned
turned_kept {at} {end} {q} {l} {m} o v e p s w =
    let z : end - at - 8 ≡ length (encode v) = omega (arith, p.stops) in
    rw e (record { answers = monadic_done at end o v p.stops s; holds = rw (w, z) (keep_one o v p.holds) })
