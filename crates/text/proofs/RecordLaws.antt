-- Reading a record's length and kind back, where the bytes from a place on are a tree's record and more.
use Prim.Native.Nat.{ℕ, suc, ◌+◌, ◌-◌, ◌/◌, ◌%◌, ◌≤◌, ◌<◌}
use mathlib.Core.Path.{◌≡◌, refl, ap, sym, ◌∙◌}
use mathlib.Core.List.{List, [], ◌∷◌, ◌++◌}
use native.Mathlib.Omega.{arith}
use native.Mathlib.Nat.{add-zero, add-sub_cancel_left}
use lib.ListN.{length, get_or, take, drop, length-append, length-drop}
use lib.Seq.{get_or-drop, drop-drop, take_at, drop_at}
use Rattle.prelude.specs.Choice.{pick}
use Rattle.record.specs.Record.{le, le16, le32, record_of}
use Rattle.op.specs.Op.{op_number}
use Rattle.tree.specs.Tree.{Tree, encode, encodes, twos, date_bytes, counted, null, unbounded, bool, num, str, date, timestamp, spatial, id, monadic, dyadic, function, array, interval, kind_of}
use Rattle.text.specs.RecordWords.{part, EndOf}

abbrev pub body_of : Tree → List ℕ
body_of null = []
body_of unbounded = []
body_of (bool b) = pick b 1 0 ∷ []
body_of (num m s) = le 8 (twos m) ++ (s ∷ [])
body_of (str f s) = f ∷ s
body_of (date y m d) = date_bytes y m d
body_of (timestamp y m d h i s) = date_bytes y m d ++ (h ∷ (i ∷ (s ∷ [])))
body_of (spatial n s) = le 4 n ++ s
body_of (id s) = s
body_of (monadic o t) = le 2 (op_number o) ++ encode t
body_of (dyadic o t u) = le 2 (op_number o) ++ (encode t ++ encode u)
body_of (function n ts) = counted n ++ encodes ts
body_of (array ts) = encodes ts
body_of (interval t u) = encode t ++ encode u

pub shape : (t : Tree) → encode t ≡ record_of (kind_of t) (body_of t)
unfolding encode
shape null = refl
shape unbounded = refl
shape (bool b) = refl
shape (num m s) = refl
shape (str f s) = refl
shape (date y m d) = refl
shape (timestamp y m d h i s) = refl
shape (spatial n s) = refl
shape (id s) = refl
shape (monadic o t) = refl
shape (dyadic o t u) = refl
shape (function n ts) = refl
shape (array ts) = refl
shape (interval t u) = refl

pub kind-low : (t : Tree) → kind_of t < 14
kind-low null = omega arith
kind-low unbounded = omega arith
kind-low (bool b) = omega arith
kind-low (num m s) = omega arith
kind-low (str f s) = omega arith
kind-low (date y m d) = omega arith
kind-low (timestamp y m d h i s) = omega arith
kind-low (spatial n s) = omega arith
kind-low (id s) = omega arith
kind-low (monadic o t) = omega arith
kind-low (dyadic o t u) = omega arith
kind-low (function n ts) = omega arith
kind-low (array ts) = omega arith
kind-low (interval t u) = omega arith

pub size_of : (t : Tree) → length (encode t) ≡ 6 + length (body_of t)
unfolding record_of
size_of t = ap length (shape t) ∙ (let z : suc (suc (suc (suc (suc (suc (length (body_of t))))))) ≡ 6 + length (body_of t) = omega arith in z)

-- the record of x stands at p
module _ (s : List ℕ) (p : ℕ) (x : Tree) (rest : List ℕ) (at : drop p s ≡ encode x ++ rest) where
  byte : (i : ℕ) → get_or s (p + i) 0 ≡ get_or (record_of (kind_of x) (body_of x) ++ rest) i 0
  byte i = sym (get_or-drop p s i 0) ∙ ap (λ (l : List ℕ). get_or l i 0) at ∙ ap (λ (l : List ℕ). get_or (l ++ rest) i 0) (shape x)

  pub kind_at : le16 s (p + 4) ≡ kind_of x
  unfolding record_of
  kind_at =
      let a : get_or s (p + 4) 0 ≡ kind_of x % 256 = byte 4 in
      let b : get_or s (p + 4 + 1) 0 ≡ kind_of x / 256 % 256 = ap (λ (k : ℕ). get_or s k 0) (let z : p + 4 + 1 ≡ p + 5 = omega arith in z) ∙ byte 5 in
      let h = kind-low x in
      omega arith

  pub size_at : length (encode x) < 4294967296 → le32 s p + 4 ≡ length (encode x)
  unfolding record_of
  size_at h =
      let n = length (body_of x) + 2 in
      let e : length (encode x) ≡ 6 + length (body_of x) = size_of x in
      let a : get_or s p 0 ≡ n % 256 = ap (λ (k : ℕ). get_or s k 0) (sym (add-zero p)) ∙ byte 0 in
      let b : get_or s (p + 1) 0 ≡ n / 256 % 256 = byte 1 in
      let c : get_or s (p + 2) 0 ≡ n / 256 / 256 % 256 = byte 2 in
      let d : get_or s (p + 2 + 1) 0 ≡ n / 256 / 256 / 256 % 256 = ap (λ (k : ℕ). get_or s k 0) (let z : p + 2 + 1 ≡ p + 3 = omega arith in z) ∙ byte 3 in
      omega arith

  -- what follows it
  pub beyond : drop (p + length (encode x)) s ≡ rest
  beyond = sym (drop-drop (length (encode x)) p s) ∙ ap (λ (l : List ℕ). drop (length (encode x)) l) at ∙ drop_at (encode x) rest (length (encode x)) refl

  -- its bytes
  pub part_at : part s p (p + length (encode x)) ≡ encode x
  part_at =
      ap (λ (n : ℕ). take n (drop p s)) (add-sub_cancel_left p (length (encode x)))
      ∙ ap (λ (l : List ℕ). take (length (encode x)) l) at
      ∙ take_at (encode x) rest (length (encode x)) refl

  -- it lies inside s
  pub ends_at : p ≤ length s → p + length (encode x) + length rest ≡ length s
  ends_at h =
      let a : length s - p ≡ length (encode x) + length rest = sym (length-drop p s) ∙ ap length at ∙ length-append (encode x) rest in
      omega arith

pub long : (t : Tree) → 6 ≤ length (encode t)
long t = let e = size_of t in omega arith

-- where a record stands there are at least its six bytes
pub long_at : (s : List ℕ) (p : ℕ) (x : Tree) (rest : List ℕ) → drop p s ≡ encode x ++ rest → 6 ≤ length s - p
long_at s p x rest e =
    let a : length s - p ≡ length (encode x) + length rest = sym (length-drop p s) ∙ ap length e ∙ length-append (encode x) rest in
    let b = long x in
    omega arith

-- Where a record ends, by its length field.

module _ (s : List ℕ) (p n : ℕ) (e : n ≡ le32 s p) (low : p ≤ length s) (small : length s ≤ 32768) where
  fits_at : (x : Tree) (rest : List ℕ) → drop p s ≡ encode x ++ rest → (n + 4 ≡ length (encode x)) × (p + (n + 4) ≤ length s)
  fits_at x rest at =
      let a = ends_at s p x rest at low in
      let b : le32 s p + 4 ≡ length (encode x) = size_at s p x rest at (omega arith) in
      let d : n + 4 ≡ length (encode x) = ap (λ (k : ℕ). k + 4) e ∙ b in
      (d, omega arith)

  pub end_short : length s - p < 4 → EndOf s p (length s)
  end_short h = record {
    high = omega arith;
    moves = λ l. l;
    low = low;
    exact = λ x rest at. let z = fits_at x rest at in absurd (let v : ⊥ = omega arith in v);
  }

  pub end_over : (length s - p) - 4 < n → EndOf s p (length s)
  end_over h = record {
    high = omega arith;
    moves = λ l. l;
    low = low;
    exact = λ x rest at. let z = fits_at x rest at in absurd (let v : ⊥ = omega arith in v);
  }

  pub end_exact : 4 ≤ length s - p → n ≤ (length s - p) - 4 → EndOf s p (p + (4 + n))
  end_exact h g = record {
    high = omega arith;
    moves = λ l. omega arith;
    low = omega arith;
    exact = λ x rest at. let z = fits_at x rest at in let w : 4 + n ≡ length (encode x) = omega arith in ap (λ (k : ℕ). p + k) w;
  }
