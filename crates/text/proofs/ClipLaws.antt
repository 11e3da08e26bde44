-- A part that is cut off at the end of the bytes, and where the third name of the settings stands.
use Prim.Native.Nat.{ℕ, ◌+◌, ◌-◌, ◌≤◌, ◌<◌, min}
use mathlib.Core.Path.{◌≡◌, ap, sym, ◌∙◌}
use mathlib.Core.List.{List}
use mathlib.Core.Logic.{⊎_elim}
use native.Mathlib.Omega.{arith}
use native.Mathlib.Nat.{eq-zero-or-pos}
use lib.ListN.{length, take, drop, length-drop, drop_of_length-le}
use lib.Seq.{take_all, take-nil}

pub clip_from : (s : List ℕ) (n from : ℕ) → from ≡ min n (length s) → take (length s - from) (drop from s) ≡ drop n s
clip_from s n from e =
    let w : length (drop from s) ≤ length s - from = rw length-drop (omega arith) in
    take_all (length s - from) (drop from s) w
    ∙ ⊎_elim
    (λ (z : n - length s ≡ 0). let u : from ≡ n = omega arith in ap (λ (k : ℕ). drop k s) u)
    (λ (z : 0 < n - length s). let u : length s ≤ from = omega arith in let v : length s ≤ n = omega arith in drop_of_length-le s u ∙ sym (drop_of_length-le s v))
    (eq-zero-or-pos (n - length s))

pub clip : (s : List ℕ) (a n from to : ℕ) → from ≡ min a (length s) → to ≡ min (a + n) (length s) → take (to - from) (drop from s) ≡ take n (drop a s)
clip s a n from to p q =
    ⊎_elim
    (λ (z : a - length s ≡ 0).
    let u : from ≡ a = omega arith in
    ⊎_elim
    (λ (y : (a + n) - length s ≡ 0). let v : to - from ≡ n = omega arith in rw (v, u))
    (λ (y : 0 < (a + n) - length s).
    let h : length (drop a s) ≤ to - from = rw length-drop (omega arith) in
    let k : length (drop a s) ≤ n = rw length-drop (omega arith) in
    ap (λ (x : ℕ). take (to - from) (drop x s)) u ∙ take_all (to - from) (drop a s) h ∙ sym (take_all n (drop a s) k))
    (eq-zero-or-pos ((a + n) - length s)))
    (λ (z : 0 < a - length s).
    let u : length s ≤ from = omega arith in
    let v : length s ≤ a = omega arith in
    rw (drop_of_length-le s u, drop_of_length-le s v) (take-nil (to - from) ∙ sym (take-nil n)))
    (eq-zero-or-pos (a - length s))
