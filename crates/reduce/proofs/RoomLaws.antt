-- The room in which the reduced records are written: laws of `Holds`. Of what comes behind a record nothing is said, so a node that becomes Null or a Bool
-- simply writes over its operands.
use Prim.Native.Nat.{ℕ, zero, suc, ◌+◌, ◌≤◌}
use mathlib.Core.Path.{◌≡◌, refl, sym, ap, ◌∙◌}
use mathlib.Core.List.{List, [], ◌∷◌, ◌++◌, append_assoc}
use native.Mathlib.Omega.{arith}
use lib.ListN.{length, take, drop, length-append, take-append-drop}
use lib.Seq.{sets, sets-eq, length-sets, take_at, drop_at, length-take-le}
use Rattle.record.specs.Record.{record_of}
use Rattle.op.specs.declared.Op.{Op}
use Rattle.op.specs.Op.{op_number}
use Rattle.tree.specs.Tree.{Tree, Trees, monadic, dyadic, function, array, interval, counted, encode, encodes}
use Rattle.reduce.specs.WalkWords.{Holds, frame_of, head_of}

-- nothing before `at` was touched
pub record Before (at : ℕ) (entry exit : List ℕ) : Type 0 where
  pub kept : length exit ≡ length entry
  pub front : take at exit ≡ take at entry

take_of_take : (a k : ℕ) (m : List ℕ) → a ≤ k → take a (take k m) ≡ take a m
take_of_take zero k m h = refl
take_of_take (suc a) zero m h = absurd (omega arith)
take_of_take (suc a) (suc k) [] h = refl
take_of_take (suc a) (suc k) (x ∷ m) h = ap (λ (r : List ℕ). x ∷ r) (take_of_take a k m (omega arith))

pub before_none : (at : ℕ) (l : List ℕ) → Before at l l
before_none at l = record { kept = refl; front = refl }

pub before_less : (at n : ℕ) (l m : List ℕ) → Before (at + n) l m → Before at l m
before_less at n l m b =
    record { kept = b.kept; front = sym (take_of_take at (at + n) m (omega arith)) ∙ ap (λ (x : List ℕ). take at x) b.front ∙ take_of_take at (at + n) l (omega arith) }

pub before_then : {at : ℕ} {l m n : List ℕ} → Before at l m → Before at m n → Before at l n
before_then b c = record { kept = c.kept ∙ b.kept; front = c.front ∙ b.front }

-- a step leaves what stands before it
pub holds_before : {at : ℕ} {x l m : List ℕ} → Holds at x l m → Before at l m
holds_before {at} {x} {l} {m} h =
    let k : at ≤ length l = omega (arith, h.fits) in
    record {
      kept = h.kept;
      front = sym (take_of_take at (at + length x) m (omega arith)) ∙ ap (λ (y : List ℕ). take at y) h.front ∙ take_at (take at l) x at (length-take-le at l k);
    }

-- and leaves x there
pub holds_stands : {at : ℕ} {x l m : List ℕ} → Holds at x l m → drop at m ≡ x ++ drop (at + length x) m
holds_stands {at} {x} {l} {m} h =
    let k : at ≤ length l = omega (arith, h.fits) in
    let n : ℕ = at + length x in
    let whole : m ≡ take at l ++ (x ++ drop n m) = sym (take-append-drop n m) ∙ ap (λ (z : List ℕ). z ++ drop n m) h.front ∙ append_assoc (take at l) x (drop n m) in
    ap (λ (z : List ℕ). drop at z) whole ∙ drop_at (take at l) (x ++ drop n m) at (length-take-le at l k)

-- writing x at its place
pub holds_sets : (at : ℕ) (x l : List ℕ) → at + length x ≤ length l → Holds at x l (sets l at x)
holds_sets at x l h =
    let k : at ≤ length l = omega arith in
    let f : List ℕ = take at l in
    let r : List ℕ = drop (at + length x) l in
    let e : length (f ++ x) ≡ at + length x = length-append f x ∙ ap (λ (i : ℕ). i + length x) (length-take-le at l k) in
    record {
      kept = length-sets l at x;
      fits = h;
      front = ap (λ (y : List ℕ). take (at + length x) y) (sets-eq x l at h) ∙ take_at (f ++ x) r (at + length x) e;
    }

-- one step behind the other
pub holds_then : {at : ℕ} {x y l m n : List ℕ} → Holds at x l m → Holds (at + length x) y m n → Holds at (x ++ y) l n
holds_then {at} {x} {y} {l} {m} {n} h k =
    let e : at + length (x ++ y) ≡ at + length x + length y = omega (arith, length-append x y) in
    record {
      kept = k.kept ∙ h.kept;
      fits = omega (arith, length-append x y, k.fits, h.kept);
      front = ap (λ (i : ℕ). take i n) e ∙ k.front ∙ ap (λ (z : List ℕ). z ++ y) h.front ∙ append_assoc (take at l) x y;
    }

-- steps behind `at` are undone by a step at `at`
pub holds_over : {at : ℕ} {x l m n : List ℕ} → Before at l m → Holds at x m n → Holds at x l n
holds_over {at} {x} {l} {m} {n} b h =
    record {
      kept = h.kept ∙ b.kept;
      fits = omega (arith, h.fits, b.kept);
      front = h.front ∙ ap (λ (z : List ℕ). z ++ x) b.front;
    }

-- a head is written last, into the room that was left for it
pub holds_head : {at : ℕ} {y l m : List ℕ} (h : List ℕ) → Holds (at + length h) y l m → Holds at (h ++ y) l (sets m at h)
holds_head {at} {y} {l} {m} h k =
    let n : ℕ = at + length h + length y in
    let low : at + length h ≤ length l = omega (arith, k.fits) in
    let room : at + length h ≤ length m = omega (arith, k.fits, k.kept) in
    let r : List ℕ = drop n m in
    let b : Before (at + length h) l m = holds_before k in
    let rest : drop (at + length h) m ≡ y ++ r = holds_stands k in
    let first : take at m ≡ take at l = (before_less at (length h) l m b).front in
    let f : List ℕ = take at l in
    let s : sets m at h ≡ (f ++ (h ++ y)) ++ r =
    sets-eq h m at room ∙ ap (λ (z : List ℕ). (z ++ h) ++ drop (at + length h) m) first ∙ ap (λ (z : List ℕ). (f ++ h) ++ z) rest
    ∙ sym (append_assoc (f ++ h) y r) ∙ ap (λ (z : List ℕ). z ++ r) (append_assoc f h y) in
    let k2 : at ≤ length l = omega arith in
    let e : length (f ++ (h ++ y)) ≡ at + length (h ++ y) = length-append f (h ++ y) ∙ ap (λ (i : ℕ). i + length (h ++ y)) (length-take-le at l k2) in
    record {
      kept = length-sets m at h ∙ k.kept;
      fits = omega (arith, length-append h y, k.fits);
      front = ap (λ (z : List ℕ). take (at + length (h ++ y)) z) s ∙ take_at (f ++ (h ++ y)) r (at + length (h ++ y)) e;
    }

-- Nodes.

head_encodes_one : (o : Op) (v : Tree) → head_of 9 (op_number o) (length (encode v)) ++ encode v ≡ encode (monadic o v)
unfolding encode record_of
head_encodes_one o v = refl

head_encodes_two : (o : Op) (a b : Tree) → head_of 10 (op_number o) (length (encode a ++ encode b)) ++ (encode a ++ encode b) ≡ encode (dyadic o a b)
unfolding encode record_of
head_encodes_two o a b = refl

holds_as : {at : ℕ} {x y l m : List ℕ} → x ≡ y → Holds at x l m → Holds at y l m
holds_as e h = rw (← e) h

-- the node is kept: its operands are written 8 bytes behind its place, then its head
pub keep_one : {at : ℕ} {l m : List ℕ} (o : Op) (v : Tree) → Holds (at + 8) (encode v) l m → Holds at (encode (monadic o v)) l (sets m at (head_of 9 (op_number o) (length (encode v))))
keep_one o v h = holds_as (head_encodes_one o v) (holds_head (head_of 9 (op_number o) (length (encode v))) h)

pub keep_pair : {at : ℕ} {l m : List ℕ} (o : Op) (a b : Tree) → Holds (at + 8) (encode a ++ encode b) l m
    → Holds at (encode (dyadic o a b)) l (sets m at (head_of 10 (op_number o) (length (encode a ++ encode b))))
keep_pair o a b h = holds_as (head_encodes_two o a b) (holds_head (head_of 10 (op_number o) (length (encode a ++ encode b))) h)

pub keep_two : {at : ℕ} {l m n : List ℕ} (o : Op) (a b : Tree) → Holds (at + 8) (encode a) l m → Holds (at + 8 + length (encode a)) (encode b) m n
    → Holds at (encode (dyadic o a b)) l (sets n at (head_of 10 (op_number o) (length (encode a ++ encode b))))
keep_two o a b h k = keep_pair o a b (holds_then h k)

-- the node becomes u, a Null, a Bool or a Num: u is written over its operands, the bytes x
pub fold_over : {at : ℕ} {x l m : List ℕ} (u : Tree) → Holds (at + 8) x l m → at + length (encode u) ≤ length m → Holds at (encode u) l (sets m at (encode u))
fold_over {at} {x} {l} {m} u h r = holds_over (before_less at 8 l m (holds_before h)) (holds_sets at (encode u) m r)

pub fold_two : {at : ℕ} {l m n : List ℕ} (a b u : Tree) → Holds (at + 8) (encode a) l m → Holds (at + 8 + length (encode a)) (encode b) m n → at + length (encode u) ≤ length n
    → Holds at (encode u) l (sets n at (encode u))
fold_two a b u h k r = fold_over u (holds_then h k) r

frame_encodes : (k : ℕ) (x : List ℕ) → frame_of k (length x) ++ x ≡ record_of k x
unfolding record_of
frame_encodes k x = refl

-- a Function's, Array's or Interval's record: its body is written 6 bytes behind its place, then its frame
pub keep_record : {at : ℕ} {l m : List ℕ} (k : ℕ) (x : List ℕ) → Holds (at + 6) x l m → Holds at (record_of k x) l (sets m at (frame_of k (length x)))
keep_record k x h = holds_as (frame_encodes k x) (holds_head (frame_of k (length x)) h)

pub keep_interval : {at : ℕ} {l m n : List ℕ} (a b : Tree) → Holds (at + 6) (encode a) l m → Holds (at + 6 + length (encode a)) (encode b) m n
    → Holds at (encode (interval a b)) l (sets n at (frame_of 13 (length (encode a ++ encode b))))
unfolding encode
keep_interval a b h k = keep_record 13 (encode a ++ encode b) (holds_then h k)

pub keep_array : {at : ℕ} {l m : List ℕ} (us : Trees) → Holds (at + 6) (encodes us) l m → Holds at (encode (array us)) l (sets m at (frame_of 12 (length (encodes us))))
unfolding encode
keep_array us h = keep_record 12 (encodes us) h

pub keep_function : {at : ℕ} {l m n : List ℕ} (s : List ℕ) (us : Trees) → Holds (at + 6) (counted s) l m → Holds (at + 6 + length (counted s)) (encodes us) m n
    → Holds at (encode (function s us)) l (sets n at (frame_of 11 (length (counted s ++ encodes us))))
unfolding encode
keep_function s us h k = keep_record 11 (counted s ++ encodes us) (holds_then h k)
