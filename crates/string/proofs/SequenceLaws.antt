-- Laws of specs/SequenceWords.antt: a string is told from place to place, and with it every string that begins with the same bytes.
-- The steps over single bytes join to those over a sequence.
use Prim.Native.Nat.{ℕ, zero, suc, ◌+◌, ◌≤◌, ◌<◌}
use Rattle.std.specs.List.{AllWithin, HoldsAt}
use Rattle.std.specs.Option.{unwrap_or}
use Rattle.std.specs.Prelude.{◌≡◌, Option, None, Some, MatchOption, Bool, eqb, ltb, get_or, take, drop}
use Rattle.std.proofs.Math.Path.{refl, ap}
use Rattle.std.proofs.Common.{sym, ◌∙◌, subst, length-take, length-drop, take_all}
use mathlib.Core.List.{List, [], ◌∷◌}
use Rattle.std.proofs.Math.Bool.{true, false, false≢true}
use native.Mathlib.Omega.{arith}
use Rattle.std.proofs.Math.ListN.{length, get_or-eq_default}
use borrow.Author.Tests.{eq-eqb, ne_eqb}
use Rattle.prelude.specs.Choice.{pick, both, negated, between}
use Rattle.prelude.specs.ChoiceLaws.{both_true, between_true}
use Rattle.prelude.specs.Bytes.{apostrophe}
use Rattle.string.specs.Utf8.{Range, within, goes_on, valid}
use Rattle.string.specs.Quote.{closing, quoted_size}
use Rattle.string.specs.SequenceWords.{plain, more, lowest, highest, tails, due, Passes, Open, Heads, Reaches}
use Rattle.string.proofs.Utf8Laws.{plain_go, lead_go, lead_none, short}
use Rattle.string.specs.QuoteLaws.{at_place, closing_go, closing-pair, closing_stop, closing_end}

-- one step after the other
pub passes_then : {s : List ℕ} {i r q : ℕ} {d e f : List Range} → Passes s i r d e → Passes s (i + r) q e f → Passes s i (r + q) d f
passes_then {s} {i} {r} {q} {d} {e} {f} x y = record {
  inside = omega (arith, y.inside);
  same = λ m.
      let a : r + q + m ≡ r + (q + m) = omega arith in
      let b : i + r + q ≡ i + (r + q) = omega arith in
      ap (λ (k : ℕ). goes_on d (take k (drop i s))) a ∙ x.same (q + m) ∙ y.same m ∙ ap (λ (k : ℕ). goes_on f (take m (drop k s))) b;
}

pub open_then : (s : List ℕ) (i r q : ℕ) → Open s i r → Open s (i + r) q → Open s i (r + q)
open_then s i r q x y =
    let b : i + r + q ≡ i + (r + q) = omega arith in
    let z : closing (drop (i + r + q) s) ≡ closing (drop (i + (r + q)) s) = ap (λ (k : ℕ). closing (drop k s)) b in
    omega (arith, x, y, z)

-- what does not go on in any string that has these bytes there, or ends before them
abbrev pub Fails : List ℕ → ℕ → List Range → Type 0
Fails s i d = (m : ℕ) → goes_on d (take m (drop i s)) ≡ false

pub fails_short : (s : List ℕ) (i : ℕ) (d : List Range) → i ≤ length s → length s < i + length d → Fails s i d
fails_short s i d h k m = short d (take m (drop i s)) (omega (arith, length-take m (drop i s), length-drop i s))

-- the byte at a place
module _ (s : List ℕ) (i : ℕ) (h : i < length s) where
  passes_one : (d e : List Range) → ((t : List ℕ) → goes_on d (get_or s i 0 ∷ t) ≡ goes_on e t) → Passes s i 1 d e
  passes_one d e f = record {
    inside = omega arith;
    same = λ m.
        let a : 1 + m ≡ suc m = omega arith in
        ap (λ (l : List ℕ). goes_on d (take (1 + m) l)) (at_place s i h) ∙ ap (λ (k : ℕ). goes_on d (take k (get_or s i 0 ∷ drop (i + 1) s))) a ∙ f (take m (drop (i + 1) s));
  }

  pub plain_passes : plain (get_or s i 0) ≡ true → Passes s i 1 [] []
  plain_passes e = passes_one [] [] (λ t. plain_go (get_or s i 0) t e)

  pub due_passes : (r : Range) (d : List Range) → within r (get_or s i 0) ≡ true → Passes s i 1 (r ∷ d) d
  unfolding goes_on
  due_passes r d e = passes_one (r ∷ d) d (λ t. rw e)

  pub due_fails : (r : Range) (d : List Range) → within r (get_or s i 0) ≡ false → Fails s i (r ∷ d)
  unfolding goes_on
  due_fails r d e zero = refl
  due_fails r d e (suc m) = rw (at_place, e)

  pub later_fails : (r : Range) (d : List Range) → within r (get_or s i 0) ≡ true → (j : ℕ) → j ≡ i + 1 → Fails s j d → Fails s i (r ∷ d)
  unfolding goes_on
  later_fails r d e j q f zero = refl
  later_fails r d e j q f (suc m) = rw (at_place, e) (subst (λ (k : ℕ). goes_on d (take m (drop k s)) ≡ false) q (f m))

  -- a byte that is due is no apostrophe
  pub due_open : (r : Range) → within r (get_or s i 0) ≡ true → apostrophe < r.0 → Open s i 1
  due_open r e k = let b = between_true r.0 (get_or s i 0) r.1 e in closing_go s i h (λ z. omega (arith, b.0, z))

  module _ (l : get_or s i 0 < 256) (e : plain (get_or s i 0) ≡ false) where
    pub none_heads : more (get_or s i 0) ≡ 0 → Heads s i None
    none_heads q m = rw (at_place s i h) (lead_none (get_or s i 0) (take m (drop (i + 1) s)) l e q)

    module _ (k : ℕ) (q : more (get_or s i 0) ≡ suc k) where
      pub lead_passes : Passes s i 1 [] (due (get_or s i 0) (suc k))
      lead_passes = passes_one [] (due (get_or s i 0) (suc k)) (λ t. lead_go (get_or s i 0) k t l e q)

      pub fails_heads : Fails s (i + 1) (due (get_or s i 0) (suc k)) → Heads s i None
      fails_heads f m = rw (at_place s i h) (lead_go (get_or s i 0) k (take m (drop (i + 1) s)) l e q ∙ f m)

-- a sequence byte by byte: what is due after its first bytes, and that none of these is an apostrophe
high-lowest : (b : ℕ) → apostrophe < lowest b
unfolding lowest
high-lowest b = go (eqb b 0xE0) (eqb b 0xF0)
  where
    go : (p q : Bool) → apostrophe < pick p 0xA0 (pick q 0x90 0x80)
    go true q = omega arith
    go false true = omega arith
    go false false = omega arith

tails-length : (k : ℕ) → length (tails k) ≡ k
unfolding tails
tails-length zero = refl
tails-length (suc k) = ap suc (tails-length k)

pub more_most : (b : ℕ) {n : ℕ} → n ≡ more b → n ≤ 3
unfolding more
more_most b e = rw e (go (ltb b 0xC2) (ltb b 0xE0) (ltb b 0xF0) (ltb b 0xF5))
  where
    go : (p q r t : Bool) → pick p 0 (pick q 1 (pick r 2 (pick t 3 0))) ≤ 3
    go true q r t = omega arith
    go false true r t = omega arith
    go false false true t = omega arith
    go false false false true = omega arith
    go false false false false = omega arith

-- its second byte
abbrev second : List ℕ → ℕ → Bool
second s i = between (lowest (get_or s i 0)) (get_or s (i + 1) 0) (highest (get_or s i 0))

-- a byte after the second
abbrev later : List ℕ → ℕ → Bool
later s i = between 0x80 (get_or s i 0) 0xBF

module _ (s : List ℕ) (i : ℕ) (h : i < length s) (l : get_or s i 0 < 256) (e : plain (get_or s i 0) ≡ false) (k : ℕ) (q : more (get_or s i 0) ≡ suc k) where
  pub cut_heads : length s ≤ i + suc k → Heads s i None
  unfolding due
  cut_heads c =
      let n = tails-length k in
      fails_heads s i h l e k q (fails_short s (i + 1) (due (get_or s i 0) (suc k)) (omega arith) (omega (arith, n)))

  pub second_fails : i + 1 < length s → second s i ≡ false → Heads s i None
  unfolding due
  second_fails c f = fails_heads s i h l e k q (due_fails s (i + 1) c (lowest (get_or s i 0), highest (get_or s i 0)) (tails k) f)

  pub second_passes : i + 1 < length s → second s i ≡ true → Passes s i 2 [] (tails k) × Open s i 2
  unfolding due
  second_passes c f =
      let o = closing_go s i h (λ z. false≢true (sym e ∙ ap plain z)) in
      let r : Range = (lowest (get_or s i 0), highest (get_or s i 0)) in
      (passes_then (lead_passes s i h l e k q) (due_passes s (i + 1) c r (tails k) f), open_then s i 1 1 o (due_open s (i + 1) c r f (high-lowest (get_or s i 0))))

pub later_passes : (s : List ℕ) (i r k : ℕ) → Passes s i r [] (tails (suc k)) × Open s i r → i + r < length s → later s (i + r) ≡ true
    → Passes s i (r + 1) [] (tails k) × Open s i (r + 1)
unfolding tails
later_passes s i r k p c f =
    (passes_then p.0 (due_passes s (i + r) c (0x80, 0xBF) (tails k) f), open_then s i r 1 p.1 (due_open s (i + r) c (0x80, 0xBF) f (omega arith)))

module _ (s : List ℕ) (i : ℕ) (h : i < length s) (l : get_or s i 0 < 256) (e : plain (get_or s i 0) ≡ false) (c : i + 2 < length s) (f : second s i ≡ true) where
  after_two : (k : ℕ) → more (get_or s i 0) ≡ suc k → Fails s (i + 2) (tails k) → Heads s i None
  unfolding due
  after_two k q x =
      fails_heads s i h l e k q (later_fails s (i + 1) (omega arith) (lowest (get_or s i 0), highest (get_or s i 0)) (tails k) f (i + 2) (omega arith) x)

  pub third_fails : (k : ℕ) → more (get_or s i 0) ≡ suc (suc k) → later s (i + 2) ≡ false → Heads s i None
  unfolding tails
  third_fails k q g = after_two (suc k) q (due_fails s (i + 2) c (0x80, 0xBF) (tails k) g)

  pub fourth_fails : more (get_or s i 0) ≡ 3 → later s (i + 2) ≡ true → i + 3 < length s → later s (i + 3) ≡ false → Heads s i None
  unfolding tails
  fourth_fails q g d j =
      after_two 2 q (later_fails s (i + 2) c (0x80, 0xBF) (tails 1) g (i + 3) (omega arith) (due_fails s (i + 3) d (0x80, 0xBF) [] j))

-- what was found at a place
pub heads_some : (s : List ℕ) (i r : ℕ) {n : Option ℕ} → Heads s i n → n ≡ Some r → (0 < r) × Passes s i r [] [] × Open s i r
heads_some s i r h e = subst (λ (k : Option ℕ). Heads s i k) e h

pub heads_none : (s : List ℕ) (i : ℕ) {n : Option ℕ} → Heads s i n → n ≡ None → Heads s i None
heads_none s i h e = subst (λ (k : Option ℕ). Heads s i k) e h

-- a sequence that was read to its end
pub heads_of : (s : List ℕ) (i r : ℕ) → 0 < r → Passes s i r [] [] × Open s i r → Heads s i (Some r)
heads_of s i r h p = (h, p.0, p.1)

-- ---- how far a string is read

module _ {quoted : Bool} {s : List ℕ} where
  pub reaches_start : Reaches quoted s 0
  reaches_start = record {
    inside = omega arith;
    same = λ m. ap (λ (k : ℕ). goes_on [] (take k s)) (let z : 0 + m ≡ m = omega arith in z);
    unclosed = λ q. omega arith;
  }

  pub reaches_then : {i r : ℕ} → Reaches quoted s i → Passes s i r [] [] → (quoted ≡ true → Open s i r) → Reaches quoted s (i + r)
  reaches_then {i} {r} x y o = record {
    inside = y.inside;
    same = λ m. ap (λ (k : ℕ). goes_on [] (take k s)) (let z : i + r + m ≡ i + (r + m) = omega arith in z) ∙ x.same (r + m) ∙ y.same m;
    unclosed = λ q. omega (arith, x.unclosed q, o q);
  }

  module _ {i : ℕ} (x : Reaches quoted s i) where
    pub end-valid : length s ≤ i → valid s ≡ true
    unfolding valid goes_on
    end-valid h =
        ap (goes_on []) (sym (take_all (i + 0) s (omega arith))) ∙ x.same 0

    module _ (b : Heads s i None) (h : i < length s) where
      ahead : (m : ℕ) → goes_on [] (take (i + (1 + m)) s) ≡ false
      ahead m = x.same (1 + m) ∙ ap (λ (k : ℕ). goes_on [] (take k (drop i s))) (let z : 1 + m ≡ suc m = omega arith in z) ∙ b m

      pub bad_valid : valid s ≡ false
      unfolding valid
      bad_valid = ap (goes_on []) (sym (take_all (i + (1 + length s)) s (omega arith))) ∙ ahead (length s)

      pub bad_quoted : quoted ≡ true → plain (get_or s i 0) ≡ false → quoted_size s ≡ 0
      unfolding quoted_size valid
      bad_quoted q e =
          let c = closing_go s i h (λ z. false≢true (sym e ∙ ap plain z)) in
          let o = x.unclosed q in
          let n : closing s ≡ i + (1 + closing (drop (i + 1) s)) = omega (arith, c, o) in
          rw (ap (λ (k : ℕ). goes_on [] (take k s)) n ∙ ahead (closing (drop (i + 1) s))) (none (eqb (get_or s (closing s) 0) apostrophe))
        where
          none : (b : Bool) → pick (both b false) (closing s + 1) 0 ≡ 0
          none true = refl
          none false = refl

    module _ (q : quoted ≡ true) where
      pub end-quoted : length s ≤ i → quoted_size s ≡ 0
      unfolding quoted_size
      end-quoted h =
          let o = x.unclosed q in
          let c = closing_end s i h in
          let n : length s ≤ closing s = omega (arith, o, c) in
          simp (get_or-eq_default s 0 n)

      pub closed_quoted : i < length s → get_or s i 0 ≡ apostrophe → (get_or s (i + 1) 0 ≡ apostrophe → ⊥) → quoted_size s ≡ i + 1
      unfolding quoted_size valid goes_on
      closed_quoted h e f =
          let o = x.unclosed q in
          let c = closing_stop s i h e f in
          let n : closing s ≡ i = omega (arith, o, c) in
          let v : goes_on [] (take i s) ≡ true = ap (λ (k : ℕ). goes_on [] (take k s)) (let z : i ≡ i + 0 = omega arith in z) ∙ x.same 0 in
          simp (n, eq-eqb (get_or s i 0) apostrophe e, v)

-- in one answer: a quoted text's size, or 1 if a string is valid and 0 if it is not
abbrev told : List ℕ → Bool → ℕ
told s q = pick q (quoted_size s) (pick (valid s) 1 0)

module _ {quoted : Bool} {s : List ℕ} where
  module _ {i : ℕ} (x : Reaches quoted s i) where
    pub bad_told : Heads s i None → i < length s → plain (get_or s i 0) ≡ false → 0 ≡ told s quoted
    bad_told b h e = go quoted refl
      where
        go : (q : Bool) → quoted ≡ q → 0 ≡ told s q
        go true q = sym (bad_quoted x b h q e)
        go false q = rw (bad_valid x b h)

    pub closed_told : quoted ≡ true → i < length s → get_or s i 0 ≡ apostrophe → (get_or s (i + 1) 0 ≡ apostrophe → ⊥) → i + 1 ≡ told s quoted
    closed_told q h e f = rw q (sym (closed_quoted x q h e f))

    pub end-told : quoted ≡ true → length s ≤ i → 0 ≡ told s quoted
    end-told q h = rw q (sym (end-quoted x q h))

    pub valid-told : quoted ≡ false → length s ≤ i → 1 ≡ told s quoted
    valid-told q h = rw (q, end-valid x h)

pub one_tells : (v : Bool) → eqb (pick v 1 0) 1 ≡ v
one_tells true = refl
one_tells false = refl

-- and any other: an apostrophe in a quoted text, or one that is no plain byte
module _ (b : ℕ) (quoted : Bool) (e : both (plain b) (negated (both quoted (eqb b apostrophe))) ≡ false) where
  pub marks_quoted : b ≡ apostrophe → quoted ≡ true
  marks_quoted z = go quoted (sym (rw z refl) ∙ e)
    where
      go : (q : Bool) → negated (both q true) ≡ false → q ≡ true
      go true f = refl
      go false f = cc

  pub other_bytes : (b ≡ apostrophe → ⊥) → plain b ≡ false
  other_bytes f = go (plain b) quoted (sym (rw (ne_eqb b apostrophe f) refl) ∙ e)
    where
      go : (p q : Bool) → both p (negated (both q false)) ≡ false → p ≡ false
      go true true g = cc
      go true false g = cc
      go false q g = refl

-- two apostrophes
pub pair_passes : (s : List ℕ) (i : ℕ) → i + 1 < length s → get_or s i 0 ≡ apostrophe → get_or s (i + 1) 0 ≡ apostrophe → Passes s i 2 [] [] × Open s i 2
pair_passes s i h e f =
    (passes_then (plain_passes s i (omega arith) (ap plain e)) (plain_passes s (i + 1) h (ap plain f)), closing-pair s i (omega arith) e f)

-- a byte that is not taken for the end of a quoted text
pub simple_passes : (s : List ℕ) (i : ℕ) → i < length s → (quoted : Bool) → both (plain (get_or s i 0)) (negated (both quoted (eqb (get_or s i 0) apostrophe))) ≡ true
    → Passes s i 1 [] [] × (quoted ≡ true → Open s i 1)
simple_passes s i h quoted e =
    let p = both_true (plain (get_or s i 0)) (negated (both quoted (eqb (get_or s i 0) apostrophe))) e in
    (plain_passes s i h p.0, λ q. closing_go s i h (λ z. mark q z p.1))
  where
    mark : quoted ≡ true → get_or s i 0 ≡ apostrophe → negated (both quoted (eqb (get_or s i 0) apostrophe)) ≡ true → ⊥
    mark q z n = false≢true (sym (rw (q, z) refl) ∙ n)

-- a string up to the first byte that is not such a one, or to its end
module _ (quoted : Bool) (s : List ℕ) where
  abbrev pub Simple : ℕ → Type 0
  Simple b = both (plain b) (negated (both quoted (eqb b apostrophe))) ≡ true

  reaches_simple : (n : ℕ) → n ≤ length s → AllWithin Simple s 0 n → Reaches quoted s n
  reaches_simple zero h a = reaches_start
  reaches_simple (suc n) h a =
      let p = simple_passes s n (omega arith) quoted (a n 0 (omega arith) (omega arith)) in
      subst (λ (k : ℕ). Reaches quoted s k) (let e : n + 1 ≡ suc n = omega arith in e)
      (reaches_then (reaches_simple n (omega arith) (λ k d l g. a k d l (omega arith))) p.0 p.1)

  pub reaches_first : (r : Option ℕ) → MatchOption r (AllWithin Simple s 0 (length s)) (λ i. (i < length s) × HoldsAt (λ _. Unit {0}) s i × AllWithin Simple s 0 i)
      → Reaches quoted s (unwrap_or r (length s))
  reaches_first None h = reaches_simple (length s) (omega arith) h
  reaches_first (Some i) h = reaches_simple i (omega (arith, h.0)) h.2
