-- Laws of tests chosen by tests, of the bytes of a name after its first, and of a name behind its length byte.
use Prim.Native.Nat.{ℕ, ◌+◌, ◌-◌, ◌≤◌, ◌<◌}
use mathlib.Core.Path.{◌≡◌, refl, ap, sym, ◌∙◌}
use mathlib.Core.List.{List, [], ◌∷◌}
use mathlib.Core.Bool.{Bool, true, false, ◌&&◌}
use native.Mathlib.Omega.{arith}
use lib.ListN.{length, get_or, take, drop, length-take, length-drop}
use lib.Seq.{take_all}
use borrow.Author.Tests.{le-leb, lt-leb}
use Rattle.prelude.specs.Choice.{either, all}
use Rattle.charset.specs.Charset.{digit, name_start, name_byte, name}
use Rattle.charset.specs.Named.{past, named_at}

-- the first byte of a name may stand at any place of it
pub rest_tells : (s : List ℕ) → 1 ≤ length s → name_start (get_or s 0 0) ≡ true → all name_byte (take (length s - 1) (drop 1 s)) ≡ all name_byte s
unfolding name_byte
rest_tells [] h e = absurd (let v : ⊥ = omega arith in v)
rest_tells (x ∷ s) h e =
    ap (all name_byte) (take_all (length (x ∷ s) - 1) s (omega arith))
    ∙ ap (λ (b : Bool). either b (digit x) && all name_byte s) (sym e)

module _ (s : List ℕ) (i : ℕ) where
  pub named_out : length s < past s i → named_at s i ≡ false
  unfolding named_at
  named_out h = simp (lt-leb (past s i) (length s) h)

  -- the n bytes of what stands behind the length byte, n being what it says
  pub named_in : (n : ℕ) (w : List ℕ) → n ≡ get_or s i 0 → i < length s → n ≤ length (take (length s - (i + 1)) (drop (i + 1) s))
      → w ≡ take (n - 0) (drop 0 (take (length s - (i + 1)) (drop (i + 1) s))) → name w ≡ named_at s i
  unfolding named_at
  named_in n w e l h q =
      let f : take (length s - (i + 1)) (drop (i + 1) s) ≡ drop (i + 1) s = take_all (length s - (i + 1)) (drop (i + 1) s) (omega (arith, length-drop (i + 1) s)) in
      let k : past s i ≤ length s = omega (arith, h, length-take (length s - (i + 1)) (drop (i + 1) s), length-drop (i + 1) s) in
      let m : n - 0 ≡ get_or s i 0 = omega arith in
      simp (q, f, m, le-leb (past s i) (length s) k)
