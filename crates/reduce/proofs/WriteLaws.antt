-- Writing records byte by byte: what `put` lays is a record's encoding, or its head.
use Prim.Native.Nat.{ℕ, zero, suc, ◌+◌, ◌-◌, ◌/◌, ◌%◌, ◌≤◌, ◌<◌}
use mathlib.Core.Path.{◌≡◌, refl, ap, ◌∙◌}
use mathlib.Core.List.{List, [], ◌∷◌, ◌++◌}
use mathlib.Core.Bool.{Bool, true, false}
use native.Mathlib.Omega.{arith}
use lib.ListN.{length, take, drop, length-append, length-drop}
use lib.Seq.{sets, take_all}
use lib.IntN.{ℤ, pos, negsuc, neg_ℤ, nat_abs}
use Rattle.record.specs.Record.{record_of}
use Rattle.op.specs.declared.Op.{Op}
use Rattle.op.specs.Op.{op_number}
use Rattle.emit.specs.Emit.{count_limit, Puts}
use Rattle.emit.specs.EmitLaws.{wrote}
use Rattle.tree.specs.Limits.{mantissa_limit, tree_limit}
use Rattle.tree.specs.Tree.{Tree, twos, null, bool, num, str, dyadic, encode}
use Rattle.tree.specs.Parse.{got}
use Rattle.std.specs.Prelude.{Result, Ok, Err}
use Rattle.std.specs.Int.{from_bool}
use Rattle.refusal.specs.declared.Refusal.{Refusal}
use Rattle.refusal.specs.declared.Refusal.TheVariants.{ConstantOperands}
use Rattle.reduce.specs.declared.Operand.{Operand}
use Rattle.reduce.specs.declared.Sort.TheVariants as sort
use Rattle.reduce.specs.declared.Meet.{Meet}
use Rattle.reduce.specs.declared.Meet.TheVariants.{Keeps, MeetNull, MeetBool, Clash}
use Rattle.reduce.specs.Sort.{sort_of}
use Rattle.reduce.specs.Reduced.{met}
use Rattle.reduce.specs.WalkWords.{Meets, fails, done, Pair, operand, done_at, head_of, num_of}
use Rattle.reduce.proofs.RoomLaws.{keep_pair, fold_over}

-- a text that has room below the cap is laid whole
pub put_whole : {at : ℕ} (s l : List ℕ) {m : List ℕ} {r : ℕ} → at + length s ≤ length l → length l ≤ tree_limit → Puts count_limit at s l m r
    → (r ≡ at + length s) × (m ≡ sets l at s)
put_whole {at} s l h k p =
    let w = wrote (record { inside = h; counted = let z : at + length s ≤ count_limit = omega arith in z }) p in
    (w.end, w.laid)

-- Null and Bools.

pub null_written : {r : ℕ} (at : ℕ) (l : List ℕ) {m : List ℕ} → (r ≡ at + 6) × (m ≡ sets l at (2 ∷ 0 ∷ 0 ∷ 0 ∷ 0 ∷ 0 ∷ []))
    → (operand r sort.Null ≡ done_at at null) × (m ≡ sets l at (encode null))
unfolding done_at encode record_of sort_of
null_written at l p = (ap (λ (i : ℕ). operand i sort.Null) p.0, p.1)

pub bool_written : {r x : ℕ} {b : Bool} (at : ℕ) (l : List ℕ) {m : List ℕ} → x ≡ from_bool b → (r ≡ at + 7) × (m ≡ sets l at (3 ∷ 0 ∷ 0 ∷ 0 ∷ 2 ∷ 0 ∷ x ∷ []))
    → (operand r (sort.Bool b) ≡ done_at at (bool b)) × (m ≡ sets l at (encode (bool b)))
unfolding done_at encode record_of sort_of
bool_written {b = true} at l e p = (ap (λ (i : ℕ). operand i (sort.Bool true)) p.0, p.1 ∙ rw e refl)
bool_written {b = false} at l e p = (ap (λ (i : ℕ). operand i (sort.Bool false)) p.0, p.1 ∙ rw e refl)

-- A Num.

pub num_written : {r : Operand} (at n s : ℕ) (l : List ℕ) {m : List ℕ} (k : ℤ) → n ≡ twos k → (r ≡ operand (at + 15) sort.Num) × (m ≡ sets l at (num_of n s))
    → (r ≡ done_at at (num k s)) × (m ≡ sets l at (encode (num k s)))
unfolding done_at encode record_of sort_of
num_written at n s l k e p = (p.0, p.1 ∙ rw (← e) refl)

pub opposite_is : {n r : ℕ} (m : ℤ) → nat_abs m ≤ mantissa_limit → n ≡ twos m → (r + n) % 18446744073709551616 ≡ 0 → r < 18446744073709551616 → r ≡ twos (neg_ℤ m)
unfolding twos
opposite_is (pos zero) h e f g = omega (arith, e, f, g)
opposite_is (pos (suc k)) h e f g = omega (arith, e, f, g, h)
opposite_is (negsuc k) h e f g = omega (arith, e, f, g, h)

-- A Str.

pub str_written : {at r : ℕ} (f g : ℕ) (x s l : List ℕ) {m : List ℕ} → s ≡ encode (str f x) → at + length s ≤ length l → length l ≤ tree_limit
    → Puts count_limit at (take 6 s ++ ((g ∷ []) ++ take (length s - 7) (drop 7 s))) l m r → (operand r sort.Str ≡ done_at at (str g x)) × (m ≡ sets l at (encode (str g x)))
unfolding done_at encode record_of sort_of
str_written {at} f g x s l e j k p =
    let b : List ℕ = take 6 s ++ ((g ∷ []) ++ take (length s - 7) (drop 7 s)) in
    let d : take (length s - 7) (drop 7 s) ≡ drop 7 s = take_all (length s - 7) (drop 7 s) (rw length-drop (omega arith)) in
    let t : b ≡ encode (str g x) = ap (λ (w : List ℕ). take 6 s ++ ((g ∷ []) ++ w)) d ∙ rw e refl in
    let q : at + length b ≤ length l = omega (arith, j, ap length t, ap length e) in
    let w = put_whole b l q k p in
    (ap (λ (i : ℕ). operand i sort.Str) (w.0 ∙ ap (λ (u : List ℕ). at + length u) t), w.1 ∙ ap (λ (u : List ℕ). sets l at u) t)

-- What a Dyadic becomes.

pub met-clash : {at end : ℕ} {l m : List ℕ} {c : Meet} (o : Op) (a b : Tree) → c ≡ Clash → Pair at end a b l m → Meets at (met c o a b) l m (Err ConstantOperands)
unfolding met
met-clash o a b e p = rw e (fails ConstantOperands refl refl p.holds.kept)

over : {at end : ℕ} {l m n : List ℕ} {r : Operand} (a b u : Tree) → Pair at end a b l m → at + length (encode u) ≤ length m
    → (r ≡ done_at at u) × (n ≡ sets m at (encode u)) → Meets at (got u) l n (Ok r)
over {at} {end} {l} {r = r} a b u p h w = done u r refl refl (record { answers = w.0; holds = rw w.1 (fold_over u p.holds h) })

pub met_null : {at end : ℕ} {l m n : List ℕ} {c : Meet} {r : Operand} (o : Op) (a b : Tree) → c ≡ MeetNull → Pair at end a b l m → at + 6 ≤ length m
    → (r ≡ done_at at null) × (n ≡ sets m at (encode null)) → Meets at (met c o a b) l n (Ok r)
unfolding met encode record_of
met_null o a b e p h w = rw e (over a b null p h w)

pub met_bool : {at end : ℕ} {l m n : List ℕ} {c : Meet} {r : Operand} (o : Op) (a b : Tree) (x : Bool) → c ≡ MeetBool x → Pair at end a b l m → at + 7 ≤ length m
    → (r ≡ done_at at (bool x)) × (n ≡ sets m at (encode (bool x))) → Meets at (met c o a b) l n (Ok r)
unfolding met encode record_of
met_bool o a b x e p h w = rw e (over a b (bool x) p h w)

dyadic_length : (o : Op) (a b : Tree) → length (encode (dyadic o a b)) ≡ 8 + (length (encode a) + length (encode b))
unfolding encode record_of
dyadic_length o a b = omega (arith, length-append (encode a) (encode b))

dyadic_done : (at end : ℕ) (o : Op) (a b : Tree) → end ≡ at + 8 + length (encode a) + length (encode b) → operand end sort.Other ≡ done_at at (dyadic o a b)
unfolding done_at sort_of
dyadic_done at end o a b e =
    let z : end ≡ at + length (encode (dyadic o a b)) = omega (arith, dyadic_length o a b) in
    ap (λ (i : ℕ). operand i sort.Other) z

pub met_kept : {at end : ℕ} {l m n : List ℕ} {c : Meet} (o : Op) (a b : Tree) → c ≡ Keeps → Pair at end a b l m
    → n ≡ sets m at (head_of 10 (op_number o) (end - at - 8)) → Meets at (met c o a b) l n (Ok (operand end sort.Other))
unfolding met
met_kept {at} {end} {l} {m} o a b e p w =
    let z : end - at - 8 ≡ length (encode a ++ encode b) = omega (arith, p.stops, length-append (encode a) (encode b)) in
    rw e (done (dyadic o a b) (operand end sort.Other) refl refl (record { answers = dyadic_done at end o a b p.stops; holds = rw (w, z) (keep_pair o a b p.holds) }))
