-- Laws of specs/Literal.antt: a number's digits one at a time, how many they are, the lengths of the texts, and where open ends are
-- spelled alike: a start as one that stands alone, and in the Rust's writing every slot.
use Rattle.std.specs.Prelude.{ℕ, zero, suc, ◌+◌, ◌-◌, ◌*◌, ◌/◌, ◌%◌, ◌^◌, ◌≤◌, ◌<◌, ◌≡◌, refl, List, [], ◌∷◌, ◌++◌, Bool, true, false, length, ltb, eqb}
use Rattle.std.proofs.Common.{ap, sym, ◌∙◌, div-one, add-one, arith, length-append, lt-ltb, le-ltb, ltb-false, ltb-true, eq-eqb, ne_eqb}
use Rattle.std.proofs.Math.Nat.{pow-succ', div-div-eq-div-mul, zero-div}
use Rattle.prelude.specs.Choice.{pick}
use Rattle.prelude.specs.Bytes.{bytes}
use Rattle.literal.specs.declared.Writing.{Writing}
use Rattle.literal.specs.declared.Writing.TheVariants.{Rust, GeoPackage}
use Rattle.literal.specs.Literal.{low, digits, decimal, pointed, plain, quoted, collate, spatial_text, date, clock, after_seconds, timestamp, Slot, alone, first_end, second_end, start_slot, open_end, timestamp_text}

-- ---- digits

snoc_length : (t : List ℕ) (b : ℕ) → length (t ++ (b ∷ [])) ≡ length t + 1
snoc_length t b = length-append t (b ∷ [])

pub length-low : (w n : ℕ) → length (low w n) ≡ w
unfolding low
length-low zero n = refl
length-low (suc w) n =
    let h : length (low w (n / 10)) ≡ w = length-low w (n / 10) in
    snoc_length (low w (n / 10)) (48 + n % 10) ∙ (let e : length (low w (n / 10)) + 1 ≡ suc w = omega arith in e)

-- how many digits may be written does not matter, if they are more than enough
digits_enough : (f g n : ℕ) → n < f → n < g → digits f n ≡ digits g n
unfolding digits
digits_enough zero g n h k = absurd (let v : ⊥ = omega arith in v)
digits_enough (suc f) zero n h k = absurd (let v : ⊥ = omega arith in v)
digits_enough (suc f) (suc g) n h k =
    go (ltb n 10) refl (λ (q : 10 ≤ n). digits_enough f g (n / 10) (omega arith) (omega arith))
  where
    go : (b : Bool) → ltb n 10 ≡ b → (10 ≤ n → digits f (n / 10) ≡ digits g (n / 10))
        → pick b [] (digits f (n / 10)) ++ ((48 + n % 10) ∷ []) ≡ pick b [] (digits g (n / 10)) ++ ((48 + n % 10) ∷ [])
    go true e r = refl
    go false e r = ap (λ (l : List ℕ). l ++ ((48 + n % 10) ∷ [])) (r (ltb-false n 10 e))

-- a number below ten is one digit
pub decimal_one : (n : ℕ) → n < 10 → decimal n ≡ (48 + n % 10) ∷ []
unfolding decimal digits
decimal_one n h = simp (lt-ltb n 10 h)

-- any other is the digits of its tenth, and one more
pub decimal-more : (n : ℕ) → 10 ≤ n → decimal n ≡ decimal (n / 10) ++ ((48 + n % 10) ∷ [])
unfolding decimal digits
decimal-more n h =
    simp (le-ltb n 10 h)
    (ap (λ (l : List ℕ). l ++ ((48 + n % 10) ∷ [])) (digits_enough n (suc (n / 10)) (n / 10) (omega arith) (omega arith)))

digits_low : (f n : ℕ) → digits f n ≡ low (length (digits f n)) n
unfolding digits low
digits_low zero n = refl
digits_low (suc f) n = go (ltb n 10) (digits_low f (n / 10))
  where
    go : (b : Bool) → digits f (n / 10) ≡ low (length (digits f (n / 10))) (n / 10)
        → pick b [] (digits f (n / 10)) ++ ((48 + n % 10) ∷ []) ≡ low (length (pick b [] (digits f (n / 10)) ++ ((48 + n % 10) ∷ []))) n
    go true r = refl
    go false r =
        let e : length (digits f (n / 10) ++ ((48 + n % 10) ∷ [])) ≡ suc (length (digits f (n / 10))) =
        snoc_length (digits f (n / 10)) (48 + n % 10) ∙ add-one (length (digits f (n / 10))) in
        ap (λ (l : List ℕ). l ++ ((48 + n % 10) ∷ [])) r ∙ ap (λ (w : ℕ). low w n) (sym e)

-- the digits of n are its last ones, as many as there are
pub decimal-low : (n : ℕ) → decimal n ≡ low (length (decimal n)) n
unfolding decimal
decimal-low n = digits_low (suc n) n

digits_short : (f k n : ℕ) → n < 10 ^ suc k → length (digits f n) ≤ suc k
unfolding digits
digits_short zero k n h = omega arith
digits_short (suc f) zero n h = simp (lt-ltb n 10 h) (omega arith)
digits_short (suc f) (suc k) n h = go (ltb n 10) (digits_short f k (n / 10) (tenth n k h))
  where
    tenth : (n k : ℕ) → n < 10 ^ suc (suc k) → n / 10 < 10 ^ suc k
    tenth n k h = let e : 10 ^ suc (suc k) ≡ 10 * 10 ^ suc k = pow-succ' 10 (suc k) in omega arith

    go : (b : Bool) → length (digits f (n / 10)) ≤ suc k → length (pick b [] (digits f (n / 10)) ++ ((48 + n % 10) ∷ [])) ≤ suc (suc k)
    go true r = omega arith
    go false r = rw snoc_length (omega arith)

-- a number of 64 bits has at most 20 digits
pub decimal_short : (n : ℕ) → n < 2 ^ 64 → length (decimal n) ≤ 20
unfolding decimal
decimal_short n h = digits_short (suc n) 19 n (omega arith)

pub decimal-some : (n : ℕ) → 1 ≤ length (decimal n)
unfolding decimal digits
decimal-some n = rw snoc_length (omega arith)

-- ---- a number and its fraction

-- a tenth has one digit less, but never none
pub tenth_len : (n : ℕ) → 10 ≤ n → length (decimal (n / 10)) + 1 ≡ length (decimal n)
tenth_len n h = sym (ap length (decimal-more n h) ∙ snoc_length (decimal (n / 10)) (48 + n % 10))

one_len : (n : ℕ) → n < 10 → length (decimal n) ≡ 1
one_len n h = ap length (decimal_one n h)

shift : (n s : ℕ) → n / 10 ^ suc s ≡ n / 10 / 10 ^ s
shift n s = sym (div-div-eq-div-mul n 10 (10 ^ s) ∙ ap (λ (x : ℕ). n / x) (sym (pow-succ' 10 s)))

-- the whole part of n ÷ 10^s: what is left of n's digits, or one zero
pub whole_long : (s n : ℕ) → s < length (decimal n) → length (decimal (n / 10 ^ s)) + s ≡ length (decimal n)
whole_long zero n h = ap (λ (x : ℕ). length (decimal x) + 0) (div-one n) ∙ (let e : length (decimal n) + 0 ≡ length (decimal n) = omega arith in e)
whole_long (suc s) n h = rw (shift n s) (go (ltb n 10) refl (λ (g : s < length (decimal (n / 10))). whole_long s (n / 10) g))
  where
    go : (b : Bool) → ltb n 10 ≡ b → (s < length (decimal (n / 10)) → length (decimal (n / 10 / 10 ^ s)) + s ≡ length (decimal (n / 10)))
        → length (decimal (n / 10 / 10 ^ s)) + suc s ≡ length (decimal n)
    go true e r = absurd (let v : ⊥ = omega (arith, one_len n (ltb-true n 10 e)) in v)
    go false e r = let t = tenth_len n (ltb-false n 10 e) in omega (arith, r (omega arith))

zero-whole : (s : ℕ) → length (decimal (0 / 10 ^ s)) ≡ 1
zero-whole s = ap (λ (x : ℕ). length (decimal x)) (zero-div (10 ^ s)) ∙ one_len 0 (omega arith)

pub whole_short : (s n : ℕ) → length (decimal n) ≤ s → length (decimal (n / 10 ^ s)) ≡ 1
whole_short zero n h = absurd (let v : ⊥ = omega (arith, decimal-some n) in v)
whole_short (suc s) n h = rw (shift n s) (go (ltb n 10) refl (λ (g : length (decimal (n / 10)) ≤ s). whole_short s (n / 10) g))
  where
    go : (b : Bool) → ltb n 10 ≡ b → (length (decimal (n / 10)) ≤ s → length (decimal (n / 10 / 10 ^ s)) ≡ 1) → length (decimal (n / 10 / 10 ^ s)) ≡ 1
    go true e r =
        let z : n / 10 ≡ 0 = (let l = ltb-true n 10 e in omega arith) in
        ap (λ (x : ℕ). length (decimal (x / 10 ^ s))) z ∙ zero-whole s
    go false e r = let t = tenth_len n (ltb-false n 10 e) in r (omega arith)

pub length-pointed : (n s : ℕ) → length (pointed n s) ≡ length (decimal (n / 10 ^ s)) + (1 + s)
unfolding pointed
length-pointed n s =
    length-append (decimal (n / 10 ^ s)) (bytes "." ++ low s n)
    ∙ ap (λ (x : ℕ). length (decimal (n / 10 ^ s)) + x) (ap suc (length-low s n) ∙ (let e : suc s ≡ 1 + s = omega arith in e))

-- n ÷ 10^s as it stands: no point where there is no fraction
unfoldable pub shown : ℕ → ℕ → List ℕ
shown n s = pick (eqb s 0) (decimal n) (pointed n s)

pub shown-whole : (n : ℕ) → shown n 0 ≡ decimal n
unfolding shown
shown-whole n = refl

pub shown-pointed : (n s : ℕ) → 0 < s → shown n s ≡ pointed n s
unfolding shown
shown-pointed n s h = simp (ne_eqb s 0 (λ (e : s ≡ 0). let v : ⊥ = omega arith in v))

-- no closing zero is left
pub plain-shown : (n s : ℕ) → (n % 10 ≡ 0 → ⊥) → plain n s ≡ shown n s
unfolding shown plain
plain-shown n zero h = refl
plain-shown n (suc s) h = simp (ne_eqb (n % 10) 0 h, ne_eqb (suc s) 0 (λ (e : suc s ≡ 0). let v : ⊥ = omega arith in v))

-- no fraction is left
pub shown-plain : (n s : ℕ) → s ≡ 0 → shown n s ≡ plain n s
unfolding shown plain
shown-plain n zero e = refl
shown-plain n (suc s) e = absurd (let v : ⊥ = omega arith in v)

-- a closing zero is dropped
pub plain-drop : (n s : ℕ) → 0 < s → n % 10 ≡ 0 → plain (n / 10) (s - 1) ≡ plain n s
unfolding plain
plain-drop n zero h e = absurd (let v : ⊥ = omega arith in v)
plain-drop n (suc s) h e = (let z : suc s - 1 ≡ s = omega arith in rw z (simp (eq-eqb (n % 10) 0 e)))

-- ---- the lengths of the texts

pub length-quoted : (s : List ℕ) → length (quoted s) ≡ length s + 2
unfolding quoted
length-quoted s = ap suc (snoc_length s 39) ∙ (let e : suc (length s + 1) ≡ length s + 2 = omega arith in e)

pub length-collate : (name : List ℕ) → length (collate name) ≡ length name + 9
unfolding collate
length-collate name = omega arith

pub date_ten : (y m d : ℕ) → length (date y m d) ≡ 10
unfolding date low
date_ten y m d = refl

pub clock_eight : (hour minute second : ℕ) → length (clock hour minute second) ≡ 8
unfolding clock low
clock_eight hour minute second = refl

pub length-timestamp : (w : Writing) (y m d hour minute second : ℕ) → length (timestamp_text w y m d hour minute second) ≡ 21 + length (after_seconds w)
unfolding quoted timestamp after_seconds date clock low
length-timestamp Rust y m d hour minute second = refl
length-timestamp GeoPackage y m d hour minute second = refl

-- an open start is spelled as one that stands alone
pub start_alone : (w : Writing) (is_interval : Bool) → open_end w (start_slot is_interval) ≡ open_end w alone
unfolding open_end
start_alone w true = refl
start_alone w false = refl

-- in the Rust's writing every slot spells an open end alike
pub rust_alike : (p : Slot) → open_end Rust p ≡ open_end Rust alone
unfolding open_end
rust_alike alone = refl
rust_alike first_end = refl
rust_alike second_end = refl

pub length_spatial : (n : ℕ) (w : List ℕ) → length (spatial_text n w) ≡ length w + length (decimal n) + 21
unfolding spatial_text
length_spatial n w =
    let a = length-append (quoted w) (bytes ", " ++ (decimal n ++ bytes ")")) in
    let b = length-quoted w in
    let c = snoc_length (decimal n) 41 in
    omega arith
