-- Digits written from the last one back, and a part of a slice that is lent and comes back filled.
use Prim.Native.Nat.{ℕ, zero, suc, ◌+◌, ◌-◌, ◌/◌, ◌%◌, ◌^◌, ◌<◌, ◌≤◌}
use mathlib.Core.Path.{◌≡◌, refl, sym, ap, ◌∙◌}
use mathlib.Core.List.{List, [], ◌∷◌, ◌++◌, append_assoc, append-nil}
use native.Mathlib.Nat.{eq-zero-or-pos, pow-suc, div-div-eq-div-mul}
use mathlib.Core.Logic.{⊎_elim}
use native.Mathlib.Omega.{arith}
use lib.ListN.{length, take, drop, set, length-drop, length-append, drop_of_length-le}
use lib.IntN.{ℤ, nat_abs}
use lib.Seq.{drop-cons, lt-length-set, get_or-set_same, drop-set-lt, drop-drop, length-take-le, drop_at, sets, sets-eq, length-sets}
use borrow.Rule.Slice.PartMut.{put_mid, post_of, same_len_mid}
use Rattle.prelude.specs.Bytes.{bytes}
use Rattle.literal.specs.Literal.{low, decimal, plain, sign, num_text}
use Rattle.literal.specs.LiteralLaws.{decimal-low}
use Rattle.emit.specs.Emit.{count_limit, ended}
use Rattle.emit.specs.EmitLaws.{Room, Wrote, wrote_then, placed-fits}

pub positive : (s : ℕ) → (s ≡ 0 → ⊥) → 0 < s
positive s h = ⊎_elim (λ (e : s ≡ 0). absurd (h e)) (λ (e : 0 < s). e) (eq-zero-or-pos s)

pub drop-set : (buf : List ℕ) (j v : ℕ) → j < length buf → drop j (set buf j v) ≡ v ∷ drop (suc j) buf
drop-set buf j v h =
    drop-cons (set buf j v) j 0 (lt-length-set buf j v h)
    ∙ ap (λ (x : ℕ). x ∷ drop (suc j) (set buf j v)) (get_or-set_same buf j v 0 h)
    ∙ ap (λ (x : List ℕ). v ∷ x) (drop-set-lt (suc j) buf j v (omega arith))

-- one digit more is written, one less is left
pub low-more : (k m : ℕ) (buf : List ℕ) → 0 < k → k ≤ length buf
    → low (k - 1) (m / 10) ++ drop (k - 1) (set buf (k - 1) (48 + m % 10)) ≡ low k m ++ drop k buf
unfolding low
low-more zero m buf h l = absurd (let v : ⊥ = omega arith in v)
low-more (suc j) m buf h l =
    let z : suc j - 1 ≡ j = omega arith in
    rw z
    (ap (λ (x : List ℕ). low j (m / 10) ++ x) (drop-set buf j (48 + m % 10) (omega arith))
    ∙ sym (append_assoc (low j (m / 10)) ((48 + m % 10) ∷ []) (drop (suc j) buf)))

-- no digit is left
pub low_none : (k m : ℕ) (buf : List ℕ) → k ≡ 0 → buf ≡ low k m ++ drop k buf
unfolding low
low_none zero m buf e = refl
low_none (suc k) m buf e = absurd (let v : ⊥ = omega arith in v)

-- a tenth of a tenth
pub tenth : (n w k : ℕ) → 0 < k → k ≤ w → n / 10 ^ (w - k) / 10 ≡ n / 10 ^ (w - (k - 1))
tenth n w k h g =
    let e : w - (k - 1) ≡ suc (w - k) = omega arith in
    rw e (div-div-eq-div-mul n (10 ^ (w - k)) 10 ∙ ap (λ (x : ℕ). n / x) (sym (pow-suc 10 (w - k))))

-- ---- a part that is lent and comes back filled

pub mid_sets : (xs ys : List ℕ) (a e : ℕ) → e ≤ length xs → a + length ys ≡ e → put_mid a (e - a) xs ys ≡ sets xs a ys
mid_sets xs ys a e h p =
    let z : a + (e - a) ≡ a + length ys = omega arith in
    ap (λ (x : List ℕ). take a xs ++ (ys ++ x)) (drop-drop (e - a) a xs ∙ ap (λ (k : ℕ). drop k xs) z)
    ∙ sym (append_assoc (take a xs) ys (drop (a + length ys) xs))
    ∙ sym (sets-eq ys xs a (omega arith))

-- how long a lent part is
pub mid_length : (xs : List ℕ) (a e : ℕ) → a ≤ e → e ≤ length xs → length (take (e - a) (drop a xs)) ≡ e - a
mid_length xs a e h g = length-take-le (e - a) (drop a xs) (rw length-drop (omega arith))

-- ---- a number with a fraction: the three parts that are filled

pub filled : (p x y : List ℕ) (from point : ℕ) → from + length y ≡ length p → point + 1 ≡ from
    → x ++ post_of 0 (point - 0) (set (put_mid from (length p - from) p y) point 46) ≡ x ++ (bytes "." ++ y)
filled p x y from point h g =
    let z : point - 0 ≡ point = omega arith in
    let k : length (take from p) ≡ from = length-take-le from p (omega arith) in
    let e : length (drop from p) ≤ length p - from = rw length-drop (omega arith) in
    let q : put_mid from (length p - from) p y ≡ take from p ++ y = ap (λ (l : List ℕ). take from p ++ (y ++ l)) (drop_of_length-le (drop from p) e) ∙ ap (λ (l : List ℕ). take from p ++ l) (append-nil y) in
    let n : length (take from p ++ y) ≡ from + length y = length-append (take from p) y ∙ ap (λ (j : ℕ). j + length y) k in
    let s : suc point ≡ from = omega arith in
    rw (z, q) (ap (λ (l : List ℕ). x ++ l)
    (drop-set (take from p ++ y) point 46 (omega arith)
    ∙ ap (λ (l : List ℕ). bytes "." ++ l) (drop_at (take from p) y (suc point) (k ∙ sym s))))

pub put_length : (p y : List ℕ) (from : ℕ) → from + length y ≡ length p → length (put_mid from (length p - from) p y) ≡ length p
put_length p y from h = same_len_mid from (length p - from) p y (let k = mid_length p from (length p) (omega arith) (omega arith) in omega arith)

-- the fraction, in a part from `from` to the end
pub fraction : (p y : List ℕ) (n s from : ℕ) → s ≤ length p → from ≡ length p - s → y ≡ low (length (take (length p - from) (drop from p))) n → y ≡ low s n
fraction p y n s from h g e = e ∙ ap (λ (w : ℕ). low w n) (mid_length p from (length p) (omega arith) (omega arith) ∙ (let z : length p - from ≡ s = omega arith in z))

-- the whole part, in a part from the front
pub whole_part : (l x : List ℕ) (q point : ℕ) → point ≤ length l → point ≡ length (decimal q) → x ≡ low (length (take (point - 0) l)) q → x ≡ decimal q
whole_part l x q point h g e =
    let z : point - 0 ≡ point = omega arith in
    e ∙ ap (λ (w : ℕ). low w q) (ap (λ (w : ℕ). length (take w l)) z ∙ length-take-le point l h ∙ g) ∙ sym (decimal-low q)

-- ---- a number, from its parts

module _ (m : ℤ) (scale : ℕ) {mag : ℕ} {u : List ℕ} (e : mag ≡ nat_abs m) (f : u ≡ plain mag scale) where
  pub num_is : sign m ++ u ≡ num_text m scale
  unfolding num_text
  num_is = ap (λ (x : List ℕ). sign m ++ x) (f ∙ ap (λ (x : ℕ). plain x scale) e)

  pub num_length : length (sign m) + length u ≡ length (num_text m scale)
  num_length = sym (length-append (sign m) u) ∙ ap length num_is

-- a part that is filled after a first text
pub wrote_part : {out : List ℕ} {at : ℕ} {t mid : List ℕ} {q : ℕ} (u : List ℕ) (e : ℕ) → Room count_limit (length out) at (length t + length u)
    → Wrote count_limit out at t mid q → e ≡ q + length u → Wrote count_limit out at (t ++ u) (put_mid q (e - q) mid u) e
wrote_part {out} {at} {t} {mid} {q} u e h w f =
    let l : length mid ≡ length out = ap length w.laid ∙ length-sets out at t in
    let z : q ≡ at + length t = w.end in
    let g : e ≤ length mid = omega arith in
    let k : e ≤ count_limit = omega arith in
    wrote_then u h w
    (record {
      laid = mid_sets mid u q e g (sym f) ∙ sym (placed-fits mid q u (record { inside = omega arith; counted = omega arith }));
      end = f ∙ (let y : q + length u ≡ ended count_limit q (length u) = omega arith in y);
    })
