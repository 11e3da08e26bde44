-- What a record says of its tree: its kind, its operator, where its operands stand.
use Prim.Native.Nat.{ℕ, ◌+◌, ◌-◌, ◌*◌, ◌≤◌, ◌<◌}
use mathlib.Core.Path.{◌≡◌, refl, ap, sym, ◌∙◌}
use mathlib.Core.List.{List, ◌++◌}
use native.Mathlib.Omega.{arith}
use lib.ListN.{length, get_or, take, drop, length-drop}
use lib.Seq.{get_or-drop, drop-drop, take_at, drop_at, take_all, length-take-le}
use mathlib.Core.Bool.{Bool}
use lib.IntN.{ℤ}
use Rattle.record.specs.Record.{le16, le32, record_of}
use Rattle.op.specs.declared.Op.{Op}
use Rattle.op.specs.Op.{op_number}
use Rattle.op.specs.OpLaws.{number-below}
use Rattle.tree.specs.ByteLaws.{le16-le}
use Rattle.tree.specs.Tree.{Tree, encode, null, unbounded, bool, num, str, date, timestamp, spatial, id, monadic, dyadic, function, array, interval, kind_of}
use Rattle.tree.specs.GoodWords.{Good}
use Rattle.reduce.specs.ReducedLaws.{monadic_size, dyadic_size}

-- the bytes of s from a to z, as a slice hands them on
abbrev pub part : List ℕ → ℕ → ℕ → List ℕ
part s a z = take (z - a) (drop a s)

kind_read : (t : Tree) → le16 (encode t) 4 ≡ kind_of t
unfolding encode record_of
kind_read null = omega arith
kind_read unbounded = omega arith
kind_read (bool b) = omega arith
kind_read (num m s) = omega arith
kind_read (str f s) = omega arith
kind_read (date y m d) = omega arith
kind_read (timestamp y m d h i s) = omega arith
kind_read (spatial n s) = omega arith
kind_read (id s) = omega arith
kind_read (monadic o t) = omega arith
kind_read (dyadic o t u) = omega arith
kind_read (function n ts) = omega arith
kind_read (array ts) = omega arith
kind_read (interval t u) = omega arith

pub kind_of_lem : (s : List ℕ) (t : Tree) → s ≡ encode t → le16 s 4 ≡ kind_of t
kind_of_lem s t e = ap (λ (l : List ℕ). le16 l 4) e ∙ kind_read t

-- A tree without operands.

pub data IsLeaf : Tree → Type 0 where
  leaf_null : IsLeaf null
  leaf_unbounded : IsLeaf unbounded
  leaf_bool : (b : Bool) → IsLeaf (bool b)
  leaf_num : (m : ℤ) (s : ℕ) → IsLeaf (num m s)
  leaf_str : (f : ℕ) (s : List ℕ) → IsLeaf (str f s)
  leaf-date : (y m d : ℕ) → IsLeaf (date y m d)
  leaf-timestamp : (y m d h i s : ℕ) → IsLeaf (timestamp y m d h i s)
  leaf_spatial : (n : ℕ) (s : List ℕ) → IsLeaf (spatial n s)
  leaf_id : (s : List ℕ) → IsLeaf (id s)

pub is_leaf : (t : Tree) → kind_of t < 9 → IsLeaf t
is_leaf null e = leaf_null
is_leaf unbounded e = leaf_unbounded
is_leaf (bool b) e = leaf_bool b
is_leaf (num m s) e = leaf_num m s
is_leaf (str f s) e = leaf_str f s
is_leaf (date y m d) e = leaf-date y m d
is_leaf (timestamp y m d h i s) e = leaf-timestamp y m d h i s
is_leaf (spatial n s) e = leaf_spatial n s
is_leaf (id s) e = leaf_id s
is_leaf (monadic o t) e = absurd (let v : ⊥ = omega arith in v)
is_leaf (dyadic o t u) e = absurd (let v : ⊥ = omega arith in v)
is_leaf (function n ts) e = absurd (let v : ⊥ = omega arith in v)
is_leaf (array ts) e = absurd (let v : ⊥ = omega arith in v)
is_leaf (interval t u) e = absurd (let v : ⊥ = omega arith in v)

-- A Monadic.

one_op_is : (o : Op) (t : Tree) → le16 (encode (monadic o t)) 6 ≡ op_number o
unfolding encode record_of
one_op_is o t = le16-le (op_number o) (omega (arith, number-below o))

pub one_op : (s : List ℕ) (o : Op) (t : Tree) → s ≡ encode (monadic o t) → le16 s 6 ≡ op_number o
one_op s o t e = ap (λ (l : List ℕ). le16 l 6) e ∙ one_op_is o t

pub one_size : (s : List ℕ) (o : Op) (t : Tree) → s ≡ encode (monadic o t) → length s ≡ 8 + length (encode t)
one_size s o t e = ap length e ∙ monadic_size o t

one_part_is : (o : Op) (t : Tree) → take (length (encode (monadic o t)) - 8) (drop 8 (encode (monadic o t))) ≡ encode t
unfolding encode record_of
one_part_is o t = take_all (length (encode (monadic o t)) - 8) (encode t) (omega (arith, monadic_size o t))

pub one_part : (s : List ℕ) (o : Op) (t : Tree) → s ≡ encode (monadic o t) → part s 8 (length s) ≡ encode t
one_part s o t e = ap (λ (l : List ℕ). take (length l - 8) (drop 8 l)) e ∙ one_part_is o t

pub one_good : (o : Op) (t : Tree) (n : ℕ) → Good (monadic o t) n → Good t (n - 1)
unfolding Good
one_good o t n g = g.2

-- A Dyadic.

two_op_is : (o : Op) (t u : Tree) → le16 (encode (dyadic o t u)) 6 ≡ op_number o
unfolding encode record_of
two_op_is o t u = le16-le (op_number o) (omega (arith, number-below o))

pub two_op : (s : List ℕ) (o : Op) (t u : Tree) → s ≡ encode (dyadic o t u) → le16 s 6 ≡ op_number o
two_op s o t u e = ap (λ (l : List ℕ). le16 l 6) e ∙ two_op_is o t u

pub two_size : (s : List ℕ) (o : Op) (t u : Tree) → s ≡ encode (dyadic o t u) → length s ≡ 8 + (length (encode t) + length (encode u))
two_size s o t u e = ap length e ∙ dyadic_size o t u

two_rest_is : (o : Op) (t u : Tree) → drop 8 (encode (dyadic o t u)) ≡ encode t ++ encode u
unfolding encode record_of
two_rest_is o t u = refl

two_rest : (s : List ℕ) (o : Op) (t u : Tree) → s ≡ encode (dyadic o t u) → drop 8 s ≡ encode t ++ encode u
two_rest s o t u e = ap (λ (l : List ℕ). drop 8 l) e ∙ two_rest_is o t u

pub two_good : (o : Op) (t u : Tree) (n : ℕ) → Good (dyadic o t u) n → Good t (n - 1) × Good u (n - 1)
unfolding Good
two_good o t u n g = (g.2, g.3)

sized : (t : Tree) (rest : List ℕ) → length (encode t) < 4294967296 → le32 (encode t ++ rest) 0 + 4 ≡ length (encode t)
unfolding encode record_of
sized null rest h = omega arith
sized unbounded rest h = omega arith
sized (bool b) rest h = omega arith
sized (num m s) rest h = omega arith
sized (str f s) rest h = omega arith
sized (date y m d) rest h = omega arith
sized (timestamp y m d h i s) rest l = omega arith
sized (spatial n s) rest h = omega arith
sized (id s) rest h = omega arith
sized (monadic o t) rest h = omega arith
sized (dyadic o t u) rest h = omega arith
sized (function n ts) rest h = omega arith
sized (array ts) rest h = omega arith
sized (interval t u) rest h = omega arith

-- The record at p, more following it: its length, and its bytes.
pub size_at : (s : List ℕ) (p : ℕ) (t : Tree) (rest : List ℕ) → drop p s ≡ encode t ++ rest → length (encode t) < 4294967296 → le32 s p + 4 ≡ length (encode t)
size_at s p t rest e h =
    let b : (i : ℕ) → get_or s (p + i) 0 ≡ get_or (encode t ++ rest) i 0 = λ i. sym (get_or-drop p s i 0) ∙ ap (λ (l : List ℕ). get_or l i 0) e in
    let z : p + 0 ≡ p = omega arith in
    let y : p + 2 + 1 ≡ p + 3 = omega arith in
    ap (λ (i : ℕ). get_or s i 0 + get_or s (p + 1) 0 * 256 + le16 s (p + 2) * 65536 + 4) (sym z)
    ∙ ap (λ (i : ℕ). get_or s (p + 0) 0 + get_or s (p + 1) 0 * 256 + (get_or s (p + 2) 0 + get_or s i 0 * 256) * 65536 + 4) y
    ∙ go t rest h (b 0) (b 1) (b 2) (b 3)
  where
    go : (t : Tree) (rest : List ℕ) → length (encode t) < 4294967296 → {a b c d : ℕ} → a ≡ get_or (encode t ++ rest) 0 0 → b ≡ get_or (encode t ++ rest) 1 0 → c ≡ get_or (encode t ++ rest) 2 0 → d ≡ get_or (encode t ++ rest) 3 0
        → a + b * 256 + (c + d * 256) * 65536 + 4 ≡ length (encode t)
    go t rest h e f g i = rw (e, f, g, i) (sized t rest h)

pub part_at : (s : List ℕ) (p z : ℕ) (t : Tree) (rest : List ℕ) → drop p s ≡ encode t ++ rest → z ≡ p + length (encode t) → part s p z ≡ encode t
part_at s p z t rest e q =
    let n : z - p ≡ length (encode t) = omega arith in
    ap (λ (i : ℕ). take i (drop p s)) n ∙ ap (λ (l : List ℕ). take (length (encode t)) l) e ∙ take_at (encode t) rest (length (encode t)) refl

pub beyond : (s : List ℕ) (p z : ℕ) (t : Tree) (rest : List ℕ) → drop p s ≡ encode t ++ rest → z ≡ p + length (encode t) → drop z s ≡ rest
beyond s p z t rest e q =
    ap (λ (i : ℕ). drop i s) q ∙ sym (drop-drop (length (encode t)) p s) ∙ ap (λ (l : List ℕ). drop (length (encode t)) l) e ∙ drop_at (encode t) rest (length (encode t)) refl

-- so the first operand of a Dyadic, and the second
pub two_middle : (s : List ℕ) (o : Op) (t u : Tree) → s ≡ encode (dyadic o t u) → length s < 4294967296 → 12 + le32 s 8 ≡ 8 + length (encode t)
two_middle s o t u e h =
    let k = two_size s o t u e in
    let z = size_at s 8 t (encode u) (two_rest s o t u e) (omega arith) in
    omega arith

pub two_first : (s : List ℕ) (m : ℕ) (o : Op) (t u : Tree) → s ≡ encode (dyadic o t u) → m ≡ 8 + length (encode t) → part s 8 m ≡ encode t
two_first s m o t u e q = part_at s 8 m t (encode u) (two_rest s o t u e) q

pub two_second : (s : List ℕ) (m : ℕ) (o : Op) (t u : Tree) → s ≡ encode (dyadic o t u) → m ≡ 8 + length (encode t) → part s m (length s) ≡ encode u
two_second s m o t u e q =
    let k = two_size s o t u e in
    let d : drop m s ≡ encode u = beyond s 8 m t (encode u) (two_rest s o t u e) q in
    let n : length s - m ≡ length (encode u) = omega arith in
    ap (λ (i : ℕ). take i (drop m s)) n ∙ ap (λ (l : List ℕ). take (length (encode u)) l) d ∙ take_all (length (encode u)) (encode u) (omega arith)

-- a part is as long as it says
pub part_length : (s : List ℕ) (a z : ℕ) → a ≤ z → z ≤ length s → length (part s a z) ≡ z - a
part_length s a z h k = length-take-le (z - a) (drop a s) (omega (arith, length-drop a s))
