-- Laws of parse, first half: bytes that parse as a tree are the tree's own, and the tree is good. By induction on the levels; each list of
-- records by its frames, each kind by its row of the table.
use Rattle.std.specs.Prelude.{◌≡◌, refl, ◌⊎◌, Bool, true, false, nat_abs, ltb, leb, eqb, Option, None, Some}
use Rattle.std.proofs.Math.Path.{ap, sym, subst}
use Rattle.std.proofs.Common.{◌∙◌, inl, inr, arith, take-append-drop, drop_of_length-le, drop-drop}
use Rattle.std.proofs.Math.Logic.{⊎_elim}
use mathlib.Core.List.{List, [], ◌∷◌, ◌++◌, append-nil}
use Prim.Native.Nat.{ℕ, zero, suc, ◌+◌, ◌-◌, ◌≤◌, ◌<◌}
use Rattle.std.proofs.Math.ListN.{length, get_or, take, drop, length-drop}
use Rattle.std.proofs.Math.Seq.{length-take-le}
use borrow.Author.Tests.{ltb-false, eqb-true, leb-true}
use Rattle.refusal.specs.declared.Refusal.{Refusal}
use Rattle.refusal.specs.declared.Refusal.TheVariants.{BadFrame, TooDeep, BadKindOrOperator, BadField}
use Rattle.record.specs.declared.Frame.{Frame}
use Rattle.record.specs.Record.{le16, le32, frame, le, record_of, le64, whole}
use Rattle.record.specs.FrameLaws.{frame-whole}
use Rattle.prelude.specs.Choice.{pick, both, between, all}
use Rattle.charset.specs.Charset.{name, spatial_byte}
use Rattle.string.specs.Utf8.{valid}
use Rattle.civil.specs.Civil.{valid_date, valid_time}
use Rattle.op.specs.declared.Op.{Op}
use Rattle.op.specs.Op.{op_number, op_of}
use Rattle.op.specs.OpLaws.{of_number}
use Rattle.charset.specs.Named.{name_at, past, named_at}
use Rattle.tree.specs.Limits.{mantissa_limit, scale_limit, flags_limit, text_limit}
use Rattle.tree.specs.Tree.{Tree, Trees, null, unbounded, bool, num, str, date, timestamp, spatial, id, monadic, dyadic, function, array, interval, none, ◌then◌, twos, date_bytes, counted, encode, encodes, Bytes}
use Rattle.tree.specs.Parse.{Read, refused, got, also, Body, cons, end, exactly, many, items, mantissa, empty_body, bool_body, num_body, str_body, date_body, timestamp_body, spatial_body, leaf, takes_one, takes_two, allowed, operated, read_monadic, read_dyadic, read_function, read_array, read_interval, Row, row, choose, kinds, node, parse}
use Rattle.tree.specs.Tests.{first, second, count}
use Rattle.tree.specs.GoodWords.{Good, AllGood}
use Rattle.tree.specs.ByteLaws.{bytes_drop, bytes_take, byte_at, reads-drop, le_at, reads_all, twos-signed}

-- Taking a reading apart.

pub split : {A : Type 0} (b : Bool) (x y z : A) → pick b x y ≡ z → ((b ≡ true) × (x ≡ z)) ⊎ ((b ≡ false) × (y ≡ z))
split true x y z h = inl (refl, h)
split false x y z h = inr (refl, h)

pub both_true : (a b : Bool) → both a b ≡ true → (a ≡ true) × (b ≡ true)
both_true true b h = (refl, h)
both_true false b h = let z : ◌≡◌ {A = ℕ} 0 1 = cc in absurd (omega arith)

pub not_got : {A : Type 0} {P : Type 0} (n : Refusal) (a : A) → refused n ≡ got a → P
not_got n a h = let z : ◌≡◌ {A = ℕ} 0 1 = cc in absurd (omega arith)

pub also_got : {A B : Type 0} (r : Read A) (f : A → Read B) (b : B) → also r f ≡ got b → (a : A) × (r ≡ got a) × (f a ≡ got b)
unfolding also
also_got (refused n) f b h = not_got n b h
also_got (got a) f b h = (a, refl, h)

pub within : (a n b : ℕ) → between a n b ≡ true → (a ≤ n) × (n ≤ b)
within a n b e = let p = both_true (leb a n) (leb n b) e in (leb-true a n p.0, leb-true n b p.1)

drop_all : (s : List ℕ) (n : ℕ) → length s ≤ n → drop n s ≡ []
drop_all s n l = drop_of_length-le s l

-- a record's bytes are its length, its kind and its body
pub frame_record : (s : List ℕ) (k e : ℕ) → Bytes s → frame s ≡ whole k e → s ≡ record_of k (take (e - 6) (drop 6 s)) ++ drop e s
unfolding record_of
frame_record s k e h f =
    let w = frame-whole s k e f in
    let m : ℕ = e - 6 in
    let b : List ℕ = take m (drop 6 s) in
    let n : length b ≡ m = length-take-le m (drop 6 s) (omega (arith, length-drop 6 s)) in
    let p : s ≡ le 4 (length b + 2) ++ drop 4 s = le_at 4 0 (length b + 2) s h (omega arith) (omega arith) in
    let q : drop 4 s ≡ le 2 k ++ drop 6 s = le_at 2 4 k s h (omega arith) (omega arith) in
    let g : 6 + m ≡ e = omega arith in
    let o : drop 6 s ≡ b ++ drop e s = sym (take-append-drop m (drop 6 s)) ∙ ap (λ (l : List ℕ). b ++ l) (drop-drop m 6 s ∙ ap (λ (i : ℕ). drop i s) g) in
    p ∙ ap (λ (l : List ℕ). le 4 (length b + 2) ++ l) (q ∙ ap (λ (l : List ℕ). le 2 k ++ l) o)

-- Lists of records.

abbrev pub Sound : ℕ → Body → Type 0
Sound n body = (k : ℕ) (s : List ℕ) (t : Tree) → Bytes s → body k s ≡ got t → (record_of k s ≡ encode t) × Good t n

abbrev pub Reads : ℕ → (List ℕ → Read Trees) → Type 0
Reads n more = (s : List ℕ) (ts : Trees) → Bytes s → more s ≡ got ts → (s ≡ encodes ts) × AllGood ts n

cons_sound : (n : ℕ) (body : Body) (more : List ℕ → Read Trees) → Sound n body → Reads n more → (s : List ℕ) (f : Option Frame) → frame s ≡ f → (ts : Trees) → Bytes s → cons body s f more ≡ got ts → (s ≡ encodes ts) × AllGood ts n
unfolding cons encodes AllGood
cons_sound n body more S M s None g ts h c = not_got BadFrame ts c
cons_sound n body more S M s (Some f) g ts h c =
    let p = also_got (body f.kind (take (f.end - 6) (drop 6 s))) (λ t. also (more (drop f.end s)) (λ us. got (t then us))) ts c in
    let q = also_got (more (drop f.end s)) (λ us. got (p.0 then us)) ts p.2 in
    let z : p.0 then q.0 ≡ ts = cc q.2 in
    let x = S f.kind (take (f.end - 6) (drop 6 s)) p.0 (bytes_take (f.end - 6) (drop 6 s) (bytes_drop 6 s h)) p.1 in
    let y = M (drop f.end s) q.0 (bytes_drop f.end s h) q.1 in
    let w : Good p.0 n × AllGood q.0 n = (x.1, y.1) in (
      frame_record s f.kind f.end h g ∙ ap (λ (l : List ℕ). l ++ drop f.end s) x.0 ∙ ap (λ (l : List ℕ). encode p.0 ++ l) y.0 ∙ ap (λ (l : Trees). encodes l) z,
      subst (λ (l : Trees). AllGood l n) z w,
    )

end_sound : (n : ℕ) → Reads n end
unfolding end encodes AllGood
end_sound n [] ts h c = let z : none ≡ ts = cc in (ap (λ (l : Trees). encodes l) z, subst (λ (l : Trees). AllGood l n) z tt)
end_sound n (x ∷ s) ts h c = not_got BadFrame ts c

exactly_sound : (n : ℕ) (body : Body) → Sound n body → (m : ℕ) → Reads n (exactly body m)
unfolding exactly
exactly_sound n body S zero s ts h c = end_sound n s ts h c
exactly_sound n body S (suc m) s ts h c = cons_sound n body (λ r. exactly body m r) S (exactly_sound n body S m) s (frame s) refl ts h c

many_sound : (n : ℕ) (body : Body) → Sound n body → (f : ℕ) → Reads n (many body f)
unfolding many encodes AllGood
many_sound n body S zero s ts h c = end_sound n s ts h c
many_sound n body S (suc f) [] ts h c = let z : none ≡ ts = cc in (ap (λ (l : Trees). encodes l) z, subst (λ (l : Trees). AllGood l n) z tt)
many_sound n body S (suc f) (x ∷ s) ts h c = cons_sound n body (λ r. many body f r) S (many_sound n body S f) (x ∷ s) (frame (x ∷ s)) refl ts h c

cons-count : (body : Body) (more : List ℕ → Read Trees) (n : ℕ) (s : List ℕ) (f : Option Frame) (ts : Trees) → ((r : List ℕ) (us : Trees) → more r ≡ got us → count us ≡ n) → cons body s f more ≡ got ts → count ts ≡ suc n
unfolding cons count
cons-count body more n s None ts M c = not_got BadFrame ts c
cons-count body more n s (Some f) ts M c =
    let p = also_got (body f.kind (take (f.end - 6) (drop 6 s))) (λ t. also (more (drop f.end s)) (λ us. got (t then us))) ts c in
    let q = also_got (more (drop f.end s)) (λ us. got (p.0 then us)) ts p.2 in
    let z : ts ≡ p.0 then q.0 = cc q.2 in
    ap (λ (l : Trees). count l) z ∙ ap suc (M (drop f.end s) q.0 q.1)

end-count : (s : List ℕ) (ts : Trees) → end s ≡ got ts → count ts ≡ 0
unfolding end count
end-count [] ts c = let z : ts ≡ none = cc in ap (λ (l : Trees). count l) z
end-count (x ∷ s) ts c = not_got BadFrame ts c

pub exactly-count : (body : Body) (n : ℕ) (s : List ℕ) (ts : Trees) → exactly body n s ≡ got ts → count ts ≡ n
unfolding exactly
exactly-count body zero s ts c = end-count s ts c
exactly-count body (suc n) s ts c = cons-count body (λ r. exactly body n r) n s (frame s) ts (λ r us d. exactly-count body n r us d) c

one_is : (n : ℕ) (ts : Trees) → count ts ≡ 1 → AllGood ts n → (encodes ts ≡ encode (first ts)) × Good (first ts) n
unfolding count first encodes AllGood
one_is n none c g = absurd (omega arith)
one_is n (t then none) c g = (append-nil (encode t), g.0)
one_is n (t then (u then ts)) c g = absurd (omega arith)

two_are : (n : ℕ) (ts : Trees) → count ts ≡ 2 → AllGood ts n → (encodes ts ≡ encode (first ts) ++ encode (second ts)) × Good (first ts) n × Good (second ts) n
unfolding count first second encodes AllGood
two_are n none c g = absurd (omega arith)
two_are n (t then none) c g = absurd (omega arith)
two_are n (t then (u then none)) c g = (ap (λ (l : List ℕ). encode t ++ l) (append-nil (encode u)), g.0, g.1.0)
two_are n (t then (u then (v then ts))) c g = absurd (omega arith)

-- Kinds without records.

abbrev RowSound : ℕ → Row → Type 0
RowSound n r = (s : List ℕ) (t : Tree) → Bytes s → r.read s ≡ got t → (record_of r.kind s ≡ encode t) × Good t n

leaf_sound : (n k : ℕ) (right : List ℕ → Bool) (make : List ℕ → Tree) → ((s : List ℕ) → Bytes s → right s ≡ true → (record_of k s ≡ encode (make s)) × Good (make s) n) → RowSound n (row k (leaf right make))
leaf_sound n k right make f s t h c =
    ⊎_elim
    (λ w. let z : make s ≡ t = cc w.1 in subst (λ (u : Tree). (record_of k s ≡ encode u) × Good u n) z (f s h w.0))
    (λ w. not_got BadField t w.1)
    (split (right s) (got (make s)) (refused BadField) (got t) c)

nil_is : (s : List ℕ) → empty_body s ≡ true → s ≡ []
unfolding empty_body
nil_is s e = reads_all 0 s (eqb-true (length s) 0 e)

null_sound : (n : ℕ) → 0 < n → (s : List ℕ) → Bytes s → empty_body s ≡ true → (record_of 0 s ≡ encode null) × Good null n
unfolding encode Good
null_sound n l s h e = (ap (λ (b : List ℕ). record_of 0 b) (nil_is s e), l)

unbounded_sound : (n : ℕ) → 0 < n → (s : List ℕ) → Bytes s → empty_body s ≡ true → (record_of 1 s ≡ encode unbounded) × Good unbounded n
unfolding encode Good
unbounded_sound n l s h e = (ap (λ (b : List ℕ). record_of 1 b) (nil_is s e), l)

bit_is : (x : ℕ) → x ≤ 1 → x ≡ pick (eqb x 1) 1 0
bit_is zero h = refl
bit_is (suc zero) h = refl
bit_is (suc (suc x)) h = absurd (omega arith)

bool_sound : (n : ℕ) → 0 < n → (s : List ℕ) → Bytes s → bool_body s ≡ true → (record_of 2 s ≡ encode (bool (eqb (get_or s 0 0) 1))) × Good (bool (eqb (get_or s 0 0) 1)) n
unfolding bool_body encode Good
bool_sound n l s h e =
    let p = both_true (eqb (length s) 1) (leb (get_or s 0 0) 1) e in
    let q : get_or s 0 0 ≡ pick (eqb (get_or s 0 0) 1) 1 0 = bit_is (get_or s 0 0) (leb-true (get_or s 0 0) 1 p.1) in (
      ap (λ (b : List ℕ). record_of 2 b) (reads_all 1 s (eqb-true (length s) 1 p.0) ∙ ap (λ (x : ℕ). x ∷ []) q),
      l,
    )

num_sound : (n : ℕ) → 0 < n → (s : List ℕ) → Bytes s → num_body s ≡ true → (record_of 3 s ≡ encode (num (mantissa s 0) (get_or s 8 0))) × Good (num (mantissa s 0) (get_or s 8 0)) n
unfolding num_body encode Good
num_sound n l s h e =
    let p = both_true (eqb (length s) 9) (both (leb (nat_abs (mantissa s 0)) mantissa_limit) (leb (get_or s 8 0) scale_limit)) e in
    let q = both_true (leb (nat_abs (mantissa s 0)) mantissa_limit) (leb (get_or s 8 0) scale_limit) p.1 in
    let w : length s ≡ 9 = eqb-true (length s) 9 p.0 in
    let b : le64 s 0 < 18446744073709551616 =
    omega (arith, byte_at s 0 h, byte_at s 1 h, byte_at s 2 h, byte_at s 3 h, byte_at s 4 h, byte_at s 5 h, byte_at s 6 h, byte_at s 7 h) in
    let x : twos (mantissa s 0) ≡ le64 s 0 = twos-signed (le64 s 0) b in
    let y : s ≡ le 8 (twos (mantissa s 0)) ++ drop 8 s = le_at 8 0 (twos (mantissa s 0)) s h (omega arith) (x ∙ omega arith) in
    let z : drop 8 s ≡ get_or s 8 0 ∷ [] = reads-drop 1 8 s (omega arith) ∙ ap (λ (r : List ℕ). get_or s 8 0 ∷ r) (drop_all s 9 (omega arith)) in (
      ap (λ (b : List ℕ). record_of 3 b) (y ∙ ap (λ (r : List ℕ). le 8 (twos (mantissa s 0)) ++ r) z),
      (l, leb-true (nat_abs (mantissa s 0)) mantissa_limit q.0, leb-true (get_or s 8 0) scale_limit q.1),
    )

str_sound : (n : ℕ) → 0 < n → (s : List ℕ) → Bytes s → str_body s ≡ true → (record_of 4 s ≡ encode (str (get_or s 0 0) (drop 1 s))) × Good (str (get_or s 0 0) (drop 1 s)) n
unfolding str_body encode Good
str_sound n l s h e =
    let p = both_true (between 1 (length s) (1 + text_limit)) (both (leb (get_or s 0 0) flags_limit) (valid (drop 1 s))) e in
    let q = both_true (leb (get_or s 0 0) flags_limit) (valid (drop 1 s)) p.1 in
    let w = within 1 (length s) (1 + text_limit) p.0 in (
      ap (λ (b : List ℕ). record_of 4 b) (reads-drop 1 0 s (omega arith)),
      (l, leb-true (get_or s 0 0) flags_limit q.0, omega (arith, length-drop 1 s), q.1),
    )

-- the bytes of a date at the front of s
date-bytes : (s : List ℕ) → Bytes s → 4 ≤ length s → s ≡ date_bytes (le16 s 0) (get_or s 2 0) (get_or s 3 0) ++ drop 4 s
unfolding date_bytes
date-bytes s h l = le_at 2 0 (le16 s 0) s h (omega arith) (omega arith) ∙ ap (λ (r : List ℕ). le 2 (le16 s 0) ++ r) (reads-drop 2 2 s (omega arith))

date_sound : (n : ℕ) → 0 < n → (s : List ℕ) → Bytes s → date_body s ≡ true → (record_of 5 s ≡ encode (date (le16 s 0) (get_or s 2 0) (get_or s 3 0))) × Good (date (le16 s 0) (get_or s 2 0) (get_or s 3 0)) n
unfolding date_body encode Good
date_sound n l s h e =
    let p = both_true (eqb (length s) 4) (valid_date (le16 s 0) (get_or s 2 0) (get_or s 3 0)) e in
    let w : length s ≡ 4 = eqb-true (length s) 4 p.0 in
    let b : List ℕ = date_bytes (le16 s 0) (get_or s 2 0) (get_or s 3 0) in (
      ap (λ (r : List ℕ). record_of 5 r) (date-bytes s h (omega arith) ∙ ap (λ (r : List ℕ). b ++ r) (drop_all s 4 (omega arith)) ∙ append-nil b),
      (l, p.1),
    )

timestamp_sound : (n : ℕ) → 0 < n → (s : List ℕ) → Bytes s → timestamp_body s ≡ true → (record_of 6 s ≡ encode (timestamp (le16 s 0) (get_or s 2 0) (get_or s 3 0) (get_or s 4 0) (get_or s 5 0) (get_or s 6 0))) × Good (timestamp (le16 s 0) (get_or s 2 0) (get_or s 3 0) (get_or s 4 0) (get_or s 5 0) (get_or s 6 0)) n
unfolding timestamp_body encode Good
timestamp_sound n l s h e =
    let p = both_true (eqb (length s) 7) (both (valid_date (le16 s 0) (get_or s 2 0) (get_or s 3 0)) (valid_time (get_or s 4 0) (get_or s 5 0) (get_or s 6 0))) e in
    let q = both_true (valid_date (le16 s 0) (get_or s 2 0) (get_or s 3 0)) (valid_time (get_or s 4 0) (get_or s 5 0) (get_or s 6 0)) p.1 in
    let w : length s ≡ 7 = eqb-true (length s) 7 p.0 in
    let b : List ℕ = date_bytes (le16 s 0) (get_or s 2 0) (get_or s 3 0) in
    let z : drop 4 s ≡ get_or s 4 0 ∷ (get_or s 5 0 ∷ (get_or s 6 0 ∷ [])) = reads-drop 3 4 s (omega arith) ∙ ap (λ (r : List ℕ). get_or s 4 0 ∷ (get_or s 5 0 ∷ (get_or s 6 0 ∷ r))) (drop_all s 7 (omega arith)) in (
      ap (λ (r : List ℕ). record_of 6 r) (date-bytes s h (omega arith) ∙ ap (λ (r : List ℕ). b ++ r) z),
      (l, q.0, q.1),
    )

spatial_sound : (n : ℕ) → 0 < n → (s : List ℕ) → Bytes s → spatial_body s ≡ true → (record_of 7 s ≡ encode (spatial (le32 s 0) (drop 4 s))) × Good (spatial (le32 s 0) (drop 4 s)) n
unfolding spatial_body encode Good
spatial_sound n l s h e =
    let p = both_true (between 5 (length s) (4 + text_limit)) (all spatial_byte (drop 4 s)) e in
    let w = within 5 (length s) (4 + text_limit) p.0 in (
      ap (λ (r : List ℕ). record_of 7 r) (le_at 4 0 (le32 s 0) s h (omega arith) (omega arith)),
      (l, omega (arith, byte_at s 0 h, byte_at s 1 h, byte_at s 2 h, byte_at s 3 h), omega (arith, length-drop 4 s), omega (arith, length-drop 4 s), p.1),
    )

id_sound : (n : ℕ) → 0 < n → (s : List ℕ) → Bytes s → name s ≡ true → (record_of 8 s ≡ encode (id s)) × Good (id s) n
unfolding encode Good
id_sound n l s h e = (refl, (l, e))

-- Kinds with records.

allowed_got : {A : Type 0} (test : Op → Bool) (f : Op → Read A) (o : Option Op) (a : A) → allowed test f o ≡ got a → (p : Op) × (o ≡ Some p) × (test p ≡ true) × (f p ≡ got a)
unfolding allowed
allowed_got test f None a c = not_got BadKindOrOperator a c
allowed_got test f (Some p) a c =
    ⊎_elim
    (λ w. (p, refl, w.0, w.1))
    (λ w. not_got BadKindOrOperator a w.1)
    (split (test p) (f p) (refused BadKindOrOperator) (got a) c)

-- an operator and m records
operated_sound : (n : ℕ) (test : Op → Bool) (make : Op → Trees → Tree) (m : ℕ) (below : Body) → Sound n below → (s : List ℕ) (t : Tree) → Bytes s → operated test make m below s ≡ got t
    → (o : Op) × (ts : Trees) × (t ≡ make o ts) × (test o ≡ true) × (count ts ≡ m) × (s ≡ le 2 (op_number o) ++ encodes ts) × AllGood ts n
unfolding operated
operated_sound n test make m below S s t h c =
    ⊎_elim
    (λ v. not_got BadField t v.1)
    (λ v. let a = allowed_got test (λ o. also (exactly below m (drop 2 s)) (λ ts. got (make o ts))) (op_of (le16 s 0)) t v.1 in
    let p = also_got (exactly below m (drop 2 s)) (λ ts. got (make a.0 ts)) t a.3 in
    let z : t ≡ make a.0 p.0 = cc p.2 in
    let r = exactly_sound n below S m (drop 2 s) p.0 (bytes_drop 2 s h) p.1 in
    let x : s ≡ le 2 (le16 s 0) ++ drop 2 s = le_at 2 0 (le16 s 0) s h (ltb-false (length s) 2 v.0) (omega arith) in
    let y : le16 s 0 ≡ op_number a.0 = of_number (le16 s 0) a.0 a.1 in (
      a.0,
      p.0,
      z,
      a.2,
      exactly-count below m (drop 2 s) p.0 p.1,
      x ∙ ap (λ (i : ℕ). le 2 i ++ drop 2 s) y ∙ ap (λ (l : List ℕ). le 2 (op_number a.0) ++ l) r.0,
      r.1,
    ))
    (split (ltb (length s) 2) (refused BadField) (allowed test (λ o. also (exactly below m (drop 2 s)) (λ ts. got (make o ts))) (op_of (le16 s 0))) (got t) c)

module _ (n : ℕ) (low : 0 < n) (below : Body) (S : Sound (n - 1) below) where
  monadic_sound : RowSound n (row 9 (read_monadic below))
  unfolding encode Good
  monadic_sound s t h c =
      let p = operated_sound (n - 1) takes_one (λ o ts. monadic o (first ts)) 1 below S s t h c in
      let q = one_is (n - 1) p.1 p.4 p.6 in
      let g : (record_of 9 s ≡ encode (monadic p.0 (first p.1))) × Good (monadic p.0 (first p.1)) n =
      (ap (λ (l : List ℕ). record_of 9 l) (p.5 ∙ ap (λ (l : List ℕ). le 2 (op_number p.0) ++ l) q.0), (low, p.3, q.1)) in
      subst (λ (u : Tree). (record_of 9 s ≡ encode u) × Good u n) (sym p.2) g

  dyadic_sound : RowSound n (row 10 (read_dyadic below))
  unfolding encode Good
  dyadic_sound s t h c =
      let p = operated_sound (n - 1) takes_two (λ o ts. dyadic o (first ts) (second ts)) 2 below S s t h c in
      let q = two_are (n - 1) p.1 p.4 p.6 in
      let g : (record_of 10 s ≡ encode (dyadic p.0 (first p.1) (second p.1))) × Good (dyadic p.0 (first p.1) (second p.1)) n =
      (ap (λ (l : List ℕ). record_of 10 l) (p.5 ∙ ap (λ (l : List ℕ). le 2 (op_number p.0) ++ l) q.0), (low, p.3, q.1, q.2)) in
      subst (λ (u : Tree). (record_of 10 s ≡ encode u) × Good u n) (sym p.2) g

  -- the length byte and the name stand in front of what follows them
  named-bytes : (s : List ℕ) → named_at s 0 ≡ true → (s ≡ counted (name_at s 0) ++ drop (past s 0) s) × (name (name_at s 0) ≡ true)
  unfolding named_at counted
  named-bytes s e =
      let p = both_true (leb (past s 0) (length s)) (name (name_at s 0)) e in
      let l : 0 + 1 + get_or s 0 0 ≤ length s = leb-true (past s 0) (length s) p.0 in
      let m : ℕ = get_or s 0 0 in
      let k : length (take m (drop 1 s)) ≡ m = length-take-le m (drop 1 s) (omega (arith, length-drop 1 s)) in
      let d : drop 1 s ≡ take m (drop 1 s) ++ drop (past s 0) s = sym (take-append-drop m (drop 1 s)) ∙ ap (λ (r : List ℕ). take m (drop 1 s) ++ r) (drop-drop m 1 s) in (
        reads-drop 1 0 s (omega arith) ∙ ap (λ (r : List ℕ). m ∷ r) d ∙ ap (λ (i : ℕ). i ∷ (take m (drop 1 s) ++ drop (past s 0) s)) (sym k),
        p.1,
      )

  function_sound : RowSound n (row 11 (read_function below))
  unfolding read_function encode Good
  function_sound s t h c =
      ⊎_elim
      (λ w. let p = also_got (items below (drop (past s 0) s)) (λ ts. got (function (name_at s 0) ts)) t w.1 in
      let z : function (name_at s 0) p.0 ≡ t = cc p.2 in
      let r = many_sound (n - 1) below S (length (drop (past s 0) s)) (drop (past s 0) s) p.0 (bytes_drop (past s 0) s h) p.1 in
      let b = named-bytes s w.0 in
      let g : (record_of 11 s ≡ encode (function (name_at s 0) p.0)) × Good (function (name_at s 0) p.0) n =
      (ap (λ (l : List ℕ). record_of 11 l) (b.0 ∙ ap (λ (l : List ℕ). counted (name_at s 0) ++ l) r.0), (low, b.1, r.1)) in
      subst (λ (u : Tree). (record_of 11 s ≡ encode u) × Good u n) z g)
      (λ w. not_got BadField t w.1)
      (split (named_at s 0) (also (items below (drop (past s 0) s)) (λ ts. got (function (name_at s 0) ts))) (refused BadField) (got t) c)

  array_sound : RowSound n (row 12 (read_array below))
  unfolding encode Good
  array_sound s t h c =
      let p = also_got (many below (length s) s) (λ ts. got (array ts)) t c in
      let z : array p.0 ≡ t = cc p.2 in
      let r = many_sound (n - 1) below S (length s) s p.0 h p.1 in
      let g : (record_of 12 s ≡ encode (array p.0)) × Good (array p.0) n = (ap (λ (l : List ℕ). record_of 12 l) r.0, (low, r.1)) in
      subst (λ (u : Tree). (record_of 12 s ≡ encode u) × Good u n) z g

  interval_sound : RowSound n (row 13 (read_interval below))
  unfolding encode Good
  interval_sound s t h c =
      let p = also_got (exactly below 2 s) (λ ts. got (interval (first ts) (second ts))) t c in
      let z : interval (first p.0) (second p.0) ≡ t = cc p.2 in
      let r = exactly_sound (n - 1) below S 2 s p.0 h p.1 in
      let q = two_are (n - 1) p.0 (exactly-count below 2 s p.0 p.1) r.1 in
      let g : (record_of 13 s ≡ encode (interval (first p.0) (second p.0))) × Good (interval (first p.0) (second p.0)) n =
      (ap (λ (l : List ℕ). record_of 13 l) (r.0 ∙ q.0), (low, q.1, q.2)) in
      subst (λ (u : Tree). (record_of 13 s ≡ encode u) × Good u n) z g

-- The table.

infixr 40 ◌besides◌
data AllSound (n : ℕ) : List Row → Type 0 where
  done : AllSound n []
  ◌besides◌ : {r : Row} {rs : List Row} → RowSound n r → AllSound n rs → AllSound n (r ∷ rs)

choose_sound : (n : ℕ) (rs : List Row) → AllSound n rs → (k : ℕ) (s : List ℕ) (t : Tree) → Bytes s → choose k s rs ≡ got t → (record_of k s ≡ encode t) × Good t n
unfolding choose
choose_sound n [] done k s t h c = not_got BadKindOrOperator t c
choose_sound n (r ∷ rs) (A besides B) k s t h c =
    ⊎_elim
    (λ w. let g = A s t h w.1 in (ap (λ (i : ℕ). record_of i s) (eqb-true k r.kind w.0) ∙ g.0, g.1))
    (λ w. choose_sound n rs B k s t h w.1)
    (split (eqb k r.kind) (r.read s) (choose k s rs) (got t) c)

kinds_sound : (n : ℕ) → 0 < n → (below : Body) → Sound (n - 1) below → AllSound n (kinds below)
unfolding kinds
kinds_sound n l below S =
    leaf_sound n 0 empty_body (λ s. null) (null_sound n l)
    besides leaf_sound n 1 empty_body (λ s. unbounded) (unbounded_sound n l)
    besides leaf_sound n 2 bool_body (λ s. bool (eqb (get_or s 0 0) 1)) (bool_sound n l)
    besides leaf_sound n 3 num_body (λ s. num (mantissa s 0) (get_or s 8 0)) (num_sound n l)
    besides leaf_sound n 4 str_body (λ s. str (get_or s 0 0) (drop 1 s)) (str_sound n l)
    besides leaf_sound n 5 date_body (λ s. date (le16 s 0) (get_or s 2 0) (get_or s 3 0)) (date_sound n l)
    besides leaf_sound n 6 timestamp_body (λ s. timestamp (le16 s 0) (get_or s 2 0) (get_or s 3 0) (get_or s 4 0) (get_or s 5 0) (get_or s 6 0)) (timestamp_sound n l)
    besides leaf_sound n 7 spatial_body (λ s. spatial (le32 s 0) (drop 4 s)) (spatial_sound n l)
    besides leaf_sound n 8 name (λ s. id s) (id_sound n l)
    besides monadic_sound n l below S
    besides dyadic_sound n l below S
    besides function_sound n l below S
    besides array_sound n l below S
    besides interval_sound n l below S
    besides done

pub node_sound : (levels : ℕ) → Sound levels (node levels)
unfolding node
node_sound zero k s t h c = not_got TooDeep t c
node_sound (suc n) k s t h c =
    let e : n ≡ suc n - 1 = omega arith in
    let S : Sound (suc n - 1) (λ j b. node n j b) = subst (λ (m : ℕ). Sound m (λ j b. node n j b)) e (node_sound n) in
    choose_sound (suc n) (kinds (λ j b. node n j b)) (kinds_sound (suc n) (omega arith) (λ j b. node n j b) S) k s t h c

-- what is parsed is what was written, and is good
pub parse_sound : (n : ℕ) (s : List ℕ) (t : Tree) → Bytes s → parse n s ≡ got t → (s ≡ encode t) × Good t n
unfolding parse
parse_sound n s t h c =
    let p = also_got (exactly (node n) 1 s) (λ ts. got (first ts)) t c in
    let z : first p.0 ≡ t = cc p.2 in
    let r = exactly_sound n (node n) (node_sound n) 1 s p.0 h p.1 in
    let q = one_is n p.0 (exactly-count (node n) 1 s p.0 p.1) r.1 in
    (r.0 ∙ q.0 ∙ ap (λ (u : Tree). encode u) z, subst (λ (u : Tree). Good u n) z q.1)

pub parse_encode : (n : ℕ) (s : List ℕ) (t : Tree) → Bytes s → parse n s ≡ got t → s ≡ encode t
parse_encode n s t h c = (parse_sound n s t h c).0

pub parse_good : (n : ℕ) (s : List ℕ) (t : Tree) → Bytes s → parse n s ≡ got t → Good t n
parse_good n s t h c = (parse_sound n s t h c).1

-- two byte strings that parse as one tree are one, whatever their levels
pub parse_injective : (n m : ℕ) (s u : List ℕ) (t : Tree) → Bytes s → Bytes u → parse n s ≡ got t → parse m u ≡ got t → s ≡ u
parse_injective n m s u t h g c d = parse_encode n s t h c ∙ sym (parse_encode m u t g d)

-- and bytes parse as one tree only
pub parse_unique : (n : ℕ) (s : List ℕ) (t u : Tree) → parse n s ≡ got t → parse n s ≡ got u → t ≡ u
parse_unique n s t u c d = cc
