-- Laws of little-endian numbers in a list of bytes, one for every width: the bytes at a place are those of the number that they hold, and back.
use Rattle.std.specs.Prelude.{◌≡◌, refl, List, [], ◌∷◌, ◌++◌, Bool, true, false, ℕ, zero, suc, ◌+◌, ◌-◌, ◌*◌, ◌/◌, ◌%◌, ◌≤◌, ◌<◌, length, get_or, take, drop, ℤ, pos, negsuc, nat_abs, ltb}
use Rattle.std.proofs.Common.{ap, sym, ◌∙◌, arith, drop_of_length-le, drop-cons, lt-ltb, le-ltb}
use Rattle.std.proofs.Math.Arith.{digits_div, digits_mod}
use Rattle.prelude.specs.Choice.{pick}
use Rattle.record.specs.Record.{le, le64, signed}
use Rattle.tree.specs.Tree.{Bytes, twos}

pub bytes_drop : (n : ℕ) (s : List ℕ) → Bytes s → Bytes (drop n s)
bytes_drop zero s h = h
bytes_drop (suc n) [] h = h
bytes_drop (suc n) (x ∷ s) h = bytes_drop n s h.1

pub bytes_take : (n : ℕ) (s : List ℕ) → Bytes s → Bytes (take n s)
bytes_take zero s h = tt
bytes_take (suc n) [] h = tt
bytes_take (suc n) (x ∷ s) h = (h.0, bytes_take n s h.1)

pub byte_at : (s : List ℕ) (i : ℕ) → Bytes s → get_or s i 0 < 256
byte_at [] i h = omega arith
byte_at (x ∷ s) zero h = h.0
byte_at (x ∷ s) (suc i) h = byte_at s i h.1

-- from what is known of a slice: each of its elements is below 256
pub bytes_of : (s : List ℕ) → ((i : ℕ) → get_or s i 0 < 256) → Bytes s
bytes_of [] f = tt
bytes_of (x ∷ s) f = (f 0, bytes_of s (λ i. f (suc i)))

-- the n bytes at i, and the number that bytes hold
abbrev pub reads : ℕ → ℕ → List ℕ → List ℕ
reads zero i s = []
reads (suc n) i s = get_or s i 0 ∷ reads n (suc i) s

abbrev pub value : List ℕ → ℕ
value [] = 0
value (x ∷ s) = value s * 256 + x

pub reads-drop : (n i : ℕ) (s : List ℕ) → i + n ≤ length s → drop i s ≡ reads n i s ++ drop (i + n) s
reads-drop zero i s h = let e : i ≡ i + 0 = omega arith in ap (λ (j : ℕ). drop j s) e
reads-drop (suc n) i s h =
    let e : suc i + n ≡ i + suc n = omega arith in
    drop-cons s i 0 (omega arith)
    ∙ ap (λ (l : List ℕ). get_or s i 0 ∷ l) (reads-drop n (suc i) s (omega arith) ∙ ap (λ (j : ℕ). reads n (suc i) s ++ drop j s) e)

pub le-digit : (n a q : ℕ) → a < 256 → le (suc n) (q * 256 + a) ≡ a ∷ le n q
le-digit n a q h = simp (digits_mod q h, digits_div q h)

le-reads : (n i : ℕ) (s : List ℕ) → Bytes s → le n (value (reads n i s)) ≡ reads n i s
le-reads zero i s h = refl
le-reads (suc n) i s h =
    le-digit n (get_or s i 0) (value (reads n (suc i) s)) (byte_at s i h) ∙ ap (λ (l : List ℕ). get_or s i 0 ∷ l) (le-reads n (suc i) s h)

-- the number x that the n bytes at i hold is written as these bytes
pub le_at : (n i x : ℕ) (s : List ℕ) → Bytes s → i + n ≤ length s → x ≡ value (reads n i s) → drop i s ≡ le n x ++ drop (i + n) s
le_at n i x s h l e = reads-drop n i s l ∙ ap (λ (r : List ℕ). r ++ drop (i + n) s) (sym (le-reads n i s h) ∙ ap (λ (j : ℕ). le n j) (sym e))

-- a list of n bytes is the bytes at 0
pub reads_all : (n : ℕ) (s : List ℕ) → length s ≡ n → s ≡ reads n 0 s ++ []
reads_all n s e =
    let l : length s ≤ 0 + n = omega arith in
    reads-drop n 0 s (omega arith) ∙ ap (λ (r : List ℕ). reads n 0 s ++ r) (drop_of_length-le s l)

-- and back: what is written in n bytes is read
pub le16-le : (n : ℕ) → n < 65536 → n % 256 + n / 256 % 256 * 256 ≡ n
le16-le n h = omega arith

pub le32-le : (n : ℕ) → n < 4294967296 → (n % 256 + n / 256 % 256 * 256) + (n / 256 / 256 % 256 + n / 256 / 256 / 256 % 256 * 256) * 65536 ≡ n
le32-le n h = omega arith

pub le64-le : (n : ℕ) (s : List ℕ) → n < 18446744073709551616 → le64 (le 8 n ++ s) 0 ≡ n
le64-le n s h = omega arith

-- Two's complement.

pub twos-signed : (n : ℕ) → n < 18446744073709551616 → twos (signed n) ≡ n
unfolding twos signed
twos-signed n h = go (ltb n 9223372036854775808) refl
  where
    go : (b : Bool) → ltb n 9223372036854775808 ≡ b → twos (pick b (pos n) (negsuc (18446744073709551615 - n))) ≡ n
    go true e = refl
    go false e = omega arith

pub signed-twos : (m : ℤ) → nat_abs m < 9223372036854775808 → signed (twos m) ≡ m
unfolding twos signed
signed-twos (pos n) h = simp (lt-ltb n 9223372036854775808 h)
signed-twos (negsuc n) h =
    let l : 9223372036854775808 ≤ 18446744073709551615 - n = omega arith in
    let e : 18446744073709551615 - (18446744073709551615 - n) ≡ n = omega arith in
    simp (le-ltb (18446744073709551615 - n) 9223372036854775808 l) (ap negsuc e)

pub twos-low : (m : ℤ) → nat_abs m < 9223372036854775808 → twos m < 18446744073709551616
unfolding twos
twos-low (pos n) h = omega arith
twos-low (negsuc n) h = omega arith
