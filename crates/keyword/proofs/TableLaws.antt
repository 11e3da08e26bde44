-- The look-up of reserved words. A test that no reserved word meets rules out every word that meets it: so a test computed over the list is a rule
-- about all words, for the table as for what its families say.
use Prim.Native.Nat.{ℕ, zero, suc, ◌+◌, ◌-◌, ◌*◌, ◌%◌, ◌≤◌, ◌<◌}
use mathlib.Core.Path.{◌≡◌, refl, sym, ap, ◌∙◌}
use mathlib.Core.List.{List, [], ◌∷◌}
use mathlib.Core.Bool.{Bool, true, false, false≢true}
use native.Mathlib.Nat.{suc-mul}
use native.Mathlib.Omega.{arith}
use native.Mathlib.Numerals.{unary_clauses}
use lib.Dec.{eqb, leb, ltb}
use lib.ListN.{length, get_or, take, drop}
use lib.Seq.{drop-cons, drop-drop}
use borrow.Author.Tests.{eq-eqb, ne_eqb, eqb-true, eqb-false, leb-true, ltb-false}
use Rattle.prelude.specs.Choice.{pick, both, either, negated, between, some, same}
use Rattle.prelude.specs.ChoiceLaws.{same_true}
use Rattle.word.specs.Case.{upper, uppers}
use Rattle.keyword.specs.Reserved.{reserved}
use Rattle.word.specs.CaseLaws.{upper_at, upper-length}
use Rattle.keyword.specs.TableWords.{reserved_list, place_in, count_in, cut, words_in, Lists, has_bit, mark_of, lacks, Covers}

-- neither of two tests holds
either_false : (a b : Bool) → either a b ≡ false → (a ≡ false) × (b ≡ false)
either_false true b e = absurd (false≢true (sym e))
either_false false b e = (refl, e)

-- a word that meets a test is none of those that do not meet it
none_same : (p : List ℕ → Bool) (u : List ℕ) (ws : List (List ℕ)) → p u ≡ true → some p ws ≡ false → some (same u) ws ≡ false
unfolding some
none_same p u [] h e = refl
none_same p u (w ∷ ws) h e = go (same u w) refl (none_same p u ws h (either_false (p w) (some p ws) e).1)
  where
    fails : p w ≡ false
    fails = (either_false (p w) (some p ws) e).0

    go : (b : Bool) → same u w ≡ b → some (same u) ws ≡ false → pick (same u w) true (some (same u) ws) ≡ false
    go true q k = absurd (false≢true (sym fails ∙ ap p (sym (same_true u w q)) ∙ h))
    go false q k = rw q k

-- The table.

-- the word is none of the list
abbrev missing : List (List ℕ) → List ℕ → Bool
missing ws w = negated (some (same w) ws)

-- at this length the table lacks a reserved word, has another one, or goes on past its end
abbrev pub wrong : List ℕ → ℕ → Bool
wrong table n =
    either (some (λ w. both (eqb (length w) n) (missing (words_in table n) w)) reserved_list)
    (either (some (missing reserved_list) (words_in table n))
    (ltb (length table) (place_in table n + count_in table n * n)))

-- some number below k passes
abbrev pub some_below : (ℕ → Bool) → ℕ → Bool
some_below p zero = false
some_below p (suc k) = either (p k) (some_below p k)

none_below : (p : ℕ → Bool) (k n : ℕ) → some_below p k ≡ false → n < k → p n ≡ false
none_below p zero n e h = absurd (omega arith)
none_below p (suc k) n e h = go (eqb n k) refl (λ l. none_below p k n (either_false (p k) (some_below p k) e).1 l)
  where
    go : (b : Bool) → eqb n k ≡ b → (n < k → p n ≡ false) → p n ≡ false
    go true q f = ap p (eqb-true n k q) ∙ (either_false (p k) (some_below p k) e).0
    go false q f = f (let z = eqb-false n k q in omega arith)

agree : (a b : Bool) → (a ≡ false → b ≡ false) → (b ≡ false → a ≡ false) → a ≡ b
agree true true f g = refl
agree true false f g = g refl
agree false true f g = sym (f refl)
agree false false f g = refl

-- what the test leaves at a length
module _ (table : List ℕ) (e : some_below (wrong table) 18 ≡ false) (n : ℕ) (h : n ≤ 17) where
  fails : (some (λ w. both (eqb (length w) n) (missing (words_in table n) w)) reserved_list ≡ false)
      × (either (some (missing reserved_list) (words_in table n)) (ltb (length table) (place_in table n + count_in table n * n)) ≡ false)
  fails = either_false _ _ (none_below (wrong table) 18 n e (omega arith))

  others : (some (missing reserved_list) (words_in table n) ≡ false) × (ltb (length table) (place_in table n + count_in table n * n) ≡ false)
  others = either_false _ _ fails.1

-- one test, computed over the table at all lengths, is the rule of the table
pub lists : (table : List ℕ) → 54 ≤ length table → some_below (wrong table) 18 ≡ false → Lists table
lists table l e = record { long = l; inside = λ n h. ltb-false _ _ (others table e n h).1; right = right }
  where
    right : (u : List ℕ) → length u ≤ 17 → some (same u) (words_in table (length u)) ≡ some (same u) reserved_list
    right u h =
        agree _ _
        (λ q. none_same (λ w. both (eqb (length w) (length u)) (missing (words_in table (length u)) w)) u reserved_list (rw (eq-eqb (length u) (length u) refl) (ap negated q)) (fails table e (length u) h).0)
        (λ q. none_same (missing reserved_list) u (words_in table (length u)) (ap negated q) (others table e (length u) h).0)

-- The walk over the words of one length.

-- where words are left, the next one and what is left after it lie inside
pub room : (at n left end : ℕ) → 0 < left → at + left * n ≤ end → (at + n ≤ end) × (at + n + (left - 1) * n ≤ end)
room at n zero end h k = absurd (omega arith)
room at n (suc left) end h k =
    let e = suc-mul left n in
    let d : suc left - 1 ≡ left = omega arith in
    (omega arith, rw d (omega arith))

-- a word whose first letter is another
pub other_first : (s t : List ℕ) (at : ℕ) → 1 ≤ length s → at < length t → (get_or t at 0 ≡ upper (get_or s 0 0) → ⊥) → same (uppers s) (take (length s) (drop at t)) ≡ false
other_first [] t at h k e = absurd (omega arith)
other_first (x ∷ s) t at h k e = rw (drop-cons t at 0 k, ne_eqb (upper x) (get_or t at 0) (λ q. e (sym q))) refl

-- the part of a text from `at` to `at + n`
pub part : (at n : ℕ) (t : List ℕ) → take (at + n - at) (drop at t) ≡ take n (drop at t)
part at n t = let e : at + n - at ≡ n = omega arith in ap (λ (k : ℕ). take k (drop at t)) e

pub at_first : (table s : List ℕ) → Lists table → length s ≤ 17 → some (same (uppers s)) (words_in table (length s)) ≡ reserved s
unfolding reserved
at_first table s h k =
    let e = upper-length s in
    let q : length (uppers s) ≤ 17 = omega (arith, e) in
    ap (λ n. some (same (uppers s)) (words_in table n)) (sym e) ∙ h.right (uppers s) q

pub found : (u table : List ℕ) (n at left : ℕ) → 0 < left → same u (take n (drop at table)) ≡ true → some (same u) (cut left n (drop at table)) ≡ true
unfolding some
found u table n at zero h e = absurd (omega arith)
found u table n at (suc left) h e = simp e

pub next : (u table : List ℕ) (n at left : ℕ) → 0 < left → same u (take n (drop at table)) ≡ false
    → some (same u) (cut left n (drop at table)) ≡ some (same u) (cut (left - 1) n (drop (at + n) table))
unfolding some
next u table n at zero h e = absurd (omega arith)
next u table n at (suc left) h e = simp unary_clauses (rw (e, drop-drop n at table) refl)

pub at_last : (u table : List ℕ) (n at left : ℕ) → left ≤ 0 → some (same u) (cut left n (drop at table)) ≡ false
unfolding some
at_last u table n at zero h = refl
at_last u table n at (suc left) h = absurd (omega arith)

-- The families.

some_none : (p q : List ℕ → Bool) → ((w : List ℕ) → q w ≡ false → p w ≡ false) → (ws : List (List ℕ)) → some q ws ≡ false → some p ws ≡ false
unfolding some
some_none p q h [] e = refl
some_none p q h (w ∷ ws) e =
    let k = either_false (q w) (some q ws) e in
    rw (h w k.0) (some_none p q h ws k.1)

-- the word begins with none of the letters A to W
abbrev pub strange : List ℕ → Bool
strange w = negated (between 1 (get_or w 0 0 % 32) 23)

-- a number is none of 1 to k
abbrev pub Apart : ℕ → ℕ → Type 0
Apart n zero = Unit {0}
Apart n (suc k) = Apart n k × (n ≡ suc k → ⊥)

beyond : (n k : ℕ) → Apart n k → 1 ≤ n → n ≤ k → ⊥
beyond n zero h a b = omega arith
beyond n (suc k) h a b = go (eqb n (suc k)) refl (λ l. beyond n k h.0 a l)
  where
    go : (c : Bool) → eqb n (suc k) ≡ c → (n ≤ k → ⊥) → ⊥
    go true q f = h.1 (eqb-true n (suc k) q)
    go false q f = f (let z = eqb-false n (suc k) q in omega arith)

apart : (n k : ℕ) → Apart n k → between 1 n k ≡ false
apart n k h = go (leb 1 n) refl (leb n k) refl
  where
    go : (a : Bool) → leb 1 n ≡ a → (b : Bool) → leb n k ≡ b → between 1 n k ≡ false
    go true p true q = absurd (beyond n k h (leb-true 1 n p) (leb-true n k q))
    go true p false q = rw (p, q) refl
    go false p b q = rw p refl

-- no word begins with another letter
pub no_family : (f : List ℕ → ℕ) (letter set : ℕ) → some strange reserved_list ≡ false → Apart letter 23 → Covers f letter set
no_family f letter set e h = some_none (lacks f letter set) strange other reserved_list e
  where
    other : (w : List ℕ) → strange w ≡ false → lacks f letter set w ≡ false
    other w q = go (eqb (get_or w 0 0 % 32) letter) refl
      where
        go : (b : Bool) → eqb (get_or w 0 0 % 32) letter ≡ b → lacks f letter set w ≡ false
        go true k = absurd (false≢true (sym q ∙ ap (λ (x : ℕ). negated (between 1 x 23)) (eqb-true (get_or w 0 0 % 32) letter k) ∙ ap negated (apart letter 23 h)))
        go false k = rw k refl

-- a byte is its own capital, or lies 32 above it
capital : (P : ℕ → Type 0) (b : ℕ) → P b → (97 ≤ b → P (b - 32)) → P (upper b)
unfolding upper
capital P b own below = go (leb 97 b) _ (leb-true 97 b)
  where
    go : (low high : Bool) → (low ≡ true → 97 ≤ b) → P (pick (pick low high false) (b - 32) b)
    go true true h = below (h refl)
    go true false h = own
    go false high h = own

-- a word that its family lacks is no reserved one
pub ruled_out : (f : List ℕ → ℕ) (s : List ℕ) (letter set : ℕ) → Covers f letter set → letter ≡ get_or s 0 0 % 32 → has_bit set (f (uppers s)) ≡ false → reserved s ≡ false
unfolding reserved
ruled_out f s letter set c e h =
    let q : get_or (uppers s) 0 0 % 32 ≡ letter = ap (λ (x : ℕ). x % 32) (upper_at s 0) ∙ capital (λ c. c % 32 ≡ get_or s 0 0 % 32) (get_or s 0 0) refl (λ k. omega arith) ∙ sym e in
    none_same (lacks f letter set) (uppers s) reserved_list (simp (eq-eqb _ _ q, h)) c

twice : (b n : ℕ) → (n + 2 * upper b) % 64 ≡ (n + 2 * b) % 64
twice b n = capital (λ c. (n + 2 * c) % 64 ≡ (n + 2 * b) % 64) b refl (λ h. omega arith)

-- both letter cases have the same mark
pub mark_any_case : (s : List ℕ) → mark_of (uppers s) ≡ mark_of s
unfolding mark_of
mark_any_case s = rw (upper-length s, upper_at s 1, upper_at s (length s - 1)) (both-letters (9 * length s) (get_or s 1 0) (get_or s (length s - 1) 0))
  where
    both-letters : (n x y : ℕ) → (n + 2 * (upper x + upper y)) % 64 ≡ (n + 2 * (x + y)) % 64
    both-letters n x y =
        let e : n + 2 * (upper x + upper y) ≡ n + 2 * upper y + 2 * upper x = omega arith in
        let f : n + 2 * upper y + 2 * x ≡ n + 2 * x + 2 * upper y = omega arith in
        let g : n + 2 * x + 2 * y ≡ n + 2 * (x + y) = omega arith in
        ap (λ (k : ℕ). k % 64) e ∙ twice x (n + 2 * upper y) ∙ ap (λ (k : ℕ). k % 64) f ∙ twice y (n + 2 * x) ∙ ap (λ (k : ℕ). k % 64) g

-- a word of a length that no reserved word has
pub other_length : (p : ℕ → Bool) → some (λ w. p (length w)) reserved_list ≡ false → (s : List ℕ) → p (length s) ≡ true → reserved s ≡ false
unfolding reserved
other_length p e s h = none_same (λ w. p (length w)) (uppers s) reserved_list (ap p (upper-length s) ∙ h) e
