-- A text written with its apostrophes doubled, byte by byte: how long it is up to a place, and what one byte more lays.
use Rattle.std.proofs.Common.{count_by, cond, ◌||◌, true≢false}
use Rattle.std.specs.List.{list_any}
use Rattle.std.proofs.lemmas.List.Sums.{sum_by-cons}
use Prim.Native.Nat.{ℕ, min, ◌+◌, ◌≤◌, ◌<◌}
use mathlib.Core.Path.{◌≡◌, refl, sym, ap, ◌∙◌}
use mathlib.Core.List.{List, [], ◌∷◌, ◌++◌}
use mathlib.Core.Bool.{Bool, true, false}
use native.Mathlib.Omega.{arith}
use native.Mathlib.Numerals.{add-one}
use lib.ListN.{length, get_or, set, take, drop, length-append, take-append-drop}
use lib.Dec.{eqb}
use lib.Seq.{take-suc, take_all, sets, length-sets}
use Rattle.prelude.specs.Choice.{pick}
use Rattle.prelude.specs.Bytes.{apostrophe}
use Rattle.string.specs.Quote.{doubled}
use Rattle.string.specs.QuoteLaws.{doubled-append, doubled_mark, doubled_other}
use Rattle.literal.specs.Literal.{quoted}
use Rattle.literal.specs.LiteralLaws.{length-quoted}
use Rattle.emit.specs.Emit.{count_limit, ended, Puts}
use Rattle.emit.specs.EmitLaws.{placed_over, sets_append, Wrote}

-- one byte more for each apostrophe
pub length-doubled : (s : List ℕ) → length (doubled s) ≡ length s + count_by (λ (b : ℕ). eqb b apostrophe) s
unfolding doubled
length-doubled [] = omega arith
length-doubled (b ∷ s) = go (eqb b apostrophe) _ _ (sum_by-cons (λ (x : ℕ). cond (eqb x apostrophe) 1 0) b s) (length-doubled s)
  where
    go : (t : Bool) (n m : ℕ) → m ≡ cond t 1 0 + n → length (doubled s) ≡ length s + n → length (pick t (b ∷ (b ∷ doubled s)) (b ∷ doubled s)) ≡ length (b ∷ s) + m
    go true n m e h = omega arith
    go false n m e h = omega arith

-- a text with no apostrophe stays as it is
pub none_doubled : (s : List ℕ) → list_any (λ (b : ℕ). eqb b apostrophe) s ≡ false → doubled s ≡ s
unfolding doubled
none_doubled [] e = refl
none_doubled (b ∷ s) e = go (eqb b apostrophe) e (none_doubled s)
  where
    go : (t : Bool) → (t || list_any (λ (b : ℕ). eqb b apostrophe) s) ≡ false → (list_any (λ (b : ℕ). eqb b apostrophe) s ≡ false → doubled s ≡ s) → pick t (b ∷ (b ∷ doubled s)) (b ∷ doubled s) ≡ b ∷ s
    go true f h = absurd (true≢false f)
    go false f h = ap (λ (l : List ℕ). b ∷ l) (h f)

-- every byte is written
doubled-some : (b : ℕ) → 1 ≤ length (doubled (b ∷ []))
unfolding doubled
doubled-some b = go (eqb b apostrophe)
  where
    go : (c : Bool) → 1 ≤ length (pick c (b ∷ (b ∷ [])) (b ∷ []))
    go true = omega arith
    go false = omega arith

module _ (s : List ℕ) (i : ℕ) (h : i < length s) where
  doubled-step : doubled (take (i + 1) s) ≡ doubled (take i s) ++ doubled (get_or s i 0 ∷ [])
  doubled-step = rw (add-one, take-suc s i 0 h) (doubled-append (take i s) (get_or s i 0 ∷ []))

  pub step-length : length (doubled (take (i + 1) s)) ≡ length (doubled (take i s)) + length (doubled (get_or s i 0 ∷ []))
  step-length = ap length doubled-step ∙ length-append (doubled (take i s)) (doubled (get_or s i 0 ∷ []))

  -- it has room within the whole
  doubled-room : length (doubled (take i s)) + length (doubled (get_or s i 0 ∷ [])) ≤ length (doubled s)
  doubled-room =
      let a = ap doubled (sym (take-append-drop (i + 1) s)) ∙ doubled-append (take (i + 1) s) (drop (i + 1) s) in
      let b = ap length a ∙ length-append (doubled (take (i + 1) s)) (doubled (drop (i + 1) s)) in
      let c = step-length in
      omega (arith, b, c)

  module _ (e : get_or s i 0 ≡ apostrophe) where
    mark_length : length (doubled (take (i + 1) s)) ≡ length (doubled (take i s)) + 2
    mark_length = step-length ∙ ap (λ (l : List ℕ). length (doubled (take i s)) + length l) (doubled_mark (get_or s i 0) e)

    mark_laid : (out : List ℕ) (at : ℕ) → set (set (sets out at (doubled (take i s))) (at + length (doubled (take i s))) (get_or s i 0)) (at + length (doubled (take i s)) + 1) (get_or s i 0)
        ≡ sets out at (doubled (take (i + 1) s))
    mark_laid out at =
        ap (λ (k : ℕ). set (set (sets out at (doubled (take i s))) (at + length (doubled (take i s))) (get_or s i 0)) k (get_or s i 0)) (add-one (at + length (doubled (take i s))))
        ∙ sets_append (doubled (take i s)) (get_or s i 0 ∷ (get_or s i 0 ∷ [])) out at
        ∙ ap (λ (l : List ℕ). sets out at (doubled (take i s) ++ l)) (sym (doubled_mark (get_or s i 0) e))
        ∙ ap (sets out at) (sym doubled-step)

  module _ (f : get_or s i 0 ≡ apostrophe → ⊥) where
    other_length : length (doubled (take (i + 1) s)) ≡ length (doubled (take i s)) + 1
    other_length = step-length ∙ ap (λ (l : List ℕ). length (doubled (take i s)) + length l) (doubled_other (get_or s i 0) f)

    other_laid : (out : List ℕ) (at : ℕ) → set (sets out at (doubled (take i s))) (at + length (doubled (take i s))) (get_or s i 0) ≡ sets out at (doubled (take (i + 1) s))
    other_laid out at =
        sets_append (doubled (take i s)) (get_or s i 0 ∷ []) out at
        ∙ ap (λ (l : List ℕ). sets out at (doubled (take i s) ++ l)) (sym (doubled_other (get_or s i 0) f))
        ∙ ap (sets out at) (sym doubled-step)

-- the first i bytes of s are laid over out₀ from `at`, up to k
pub record Laid (s out₀ : List ℕ) (at : ℕ) (out : List ℕ) (i k : ℕ) : Type 0 where
  pub inside : i ≤ length s
  pub place : k ≡ at + length (doubled (take i s))
  pub bytes : out ≡ sets out₀ at (doubled (take i s))

pub laid_start : (s out : List ℕ) (at : ℕ) → Laid s out at out 0 at
unfolding doubled
laid_start s out at = record { inside = omega arith; place = omega arith; bytes = refl }

module _ {s out₀ out : List ℕ} {at i k : ℕ} (x : Laid s out₀ at out i k) where
  pub laid_length : length out ≡ length out₀
  laid_length = ap length x.bytes ∙ length-sets out₀ at (doubled (take i s))

  pub laid_end : length s ≤ i → out ≡ sets out₀ at (doubled s)
  laid_end h = x.bytes ∙ ap (λ (l : List ℕ). sets out₀ at (doubled l)) (take_all i s h)

  pub laid_place : length s ≤ i → k ≡ at + length (doubled s)
  laid_place h = x.place ∙ ap (λ (l : List ℕ). at + length (doubled l)) (take_all i s h)

  module _ (h : i < length s) where
    pub laid_room : at + length (doubled s) ≤ length out₀ → k < length out
    laid_room r =
        let n = laid_length in
        let p = x.place in
        let a = doubled-room s i h in
        let b = doubled-some (get_or s i 0) in
        omega (arith, n, p, a, b, r)

    module _ (e : get_or s i 0 ≡ apostrophe) where
      pub laid_second : at + length (doubled s) ≤ length out₀ → k + 1 < length out
      laid_second r =
          let n = laid_length in
          let p = x.place in
          let a = doubled-room s i h in
          let b = ap length (doubled_mark (get_or s i 0) e) in
          omega (arith, n, p, a, b, r)

      pub laid_mark : Laid s out₀ at (set (set out k (get_or s i 0)) (k + 1) (get_or s i 0)) (i + 1) (k + 1 + 1)
      laid_mark = record {
        inside = omega arith;
        place = let p = x.place in let a = mark_length s i h e in omega (arith, p, a);
        bytes = rw (x.bytes, x.place) (mark_laid s i h e out₀ at);
      }

    pub laid_other : (get_or s i 0 ≡ apostrophe → ⊥) → Laid s out₀ at (set out k (get_or s i 0)) (i + 1) (k + 1)
    laid_other f = record {
      inside = omega arith;
      place = let p = x.place in let a = other_length s i h f in omega (arith, p, a);
      bytes = rw (x.bytes, x.place) (other_laid s i h f out₀ at);
    }

-- ---- a text in quotes

-- how long it is, with n apostrophes, as far as a number goes
pub length-written : (s : List ℕ) (n : ℕ) {k w : ℕ} → length (doubled s) ≡ length s + n → k ≡ min (length s + n) 0xffff_ffff_ffff_ffff → w ≡ min (k + 2) 0xffff_ffff_ffff_ffff
    → w ≡ min (length (quoted (doubled s))) 0xffff_ffff_ffff_ffff
length-written s n e f g = let q = length-quoted (doubled s) in omega (arith, q, e)

-- one that is longer than any text is not written
pub too_long : (s out : List ℕ) (at : ℕ) {r : ℕ} → count_limit < length s → r ≡ ended count_limit at (length s) → Puts count_limit at (quoted (doubled s)) out out r
too_long s out at h e =
    let q = length-quoted (doubled s) in
    let l = length-doubled s in
    record { laid = sym (placed_over count_limit out at (quoted (doubled s)) (omega (arith, q, l))); end = omega (arith, e, q, l) }

-- what is laid after a text that was written
pub laid_then : {cap at : ℕ} {out t mid exit : List ℕ} {q k : ℕ} (u : List ℕ) → Wrote cap out at t mid q → exit ≡ sets mid q u → k ≡ q + length u → Wrote cap out at (t ++ u) exit k
laid_then {cap} {at} {out} {t} {mid} {exit} {q} {k} u w e f = record {
  laid = e ∙ rw (w.end, w.laid) (sets_append t u out at);
  end = let z = w.end in let l = length-append t u in omega (arith, z, l, f);
}
