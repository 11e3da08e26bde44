-- A leaf's sort and its place in time, read from its record.
use Prim.Native.Nat.{ℕ, ◌+◌, ◌*◌, ◌≤◌, ◌<◌}
use mathlib.Core.Path.{◌≡◌, refl, sym, ap, ◌∙◌}
use mathlib.Core.List.{List}
use mathlib.Core.Bool.{Bool, true, false}
use lib.Dec.{eqb}
use native.Mathlib.Omega.{arith}
use lib.ListN.{length, get_or}
use lib.Seq.{sets}
use Rattle.prelude.specs.Choice.{pick, both, between}
use Rattle.record.specs.Record.{le16, record_of}
use Rattle.civil.specs.Civil.{valid_date, days_in, year_limit}
use Rattle.tree.specs.Tree.{Tree, null, unbounded, bool, num, str, date, timestamp, spatial, id, monadic, dyadic, function, array, interval, kind_of, date_bytes, encode}
use Rattle.tree.specs.Parse.{got}
use Rattle.tree.specs.GoodWords.{Good}
use Rattle.tree.specs.ByteLaws.{le16-le}
use Rattle.tree.specs.ParseLaws.{both_true, within}
use Rattle.tree.specs.TestsLaws.{OfKind, of_null, of_unbounded, of_bool, of_num, of_str, of_date, of_timestamp, of_spatial, of_id, kind-is}
use Rattle.std.specs.Prelude.{Ok}
use Rattle.reduce.specs.declared.Operand.{Operand}
use Rattle.reduce.specs.declared.Sort.{Sort}
use Rattle.reduce.specs.declared.Sort.TheVariants as sort
use Rattle.reduce.specs.Sort.{key, sort_of}
use Rattle.reduce.specs.Reduced.{reduced}
use Rattle.reduce.specs.WalkWords.{Folds, operand, done, done_at, day_key, second_key}
use Rattle.reduce.proofs.NodeLaws.{kind_of_lem, IsLeaf, leaf_null, leaf_unbounded, leaf_bool, leaf_num, leaf_str, leaf-date, leaf-timestamp, leaf_spatial, leaf_id, is_leaf}
use Rattle.reduce.proofs.RoomLaws.{holds_sets}

-- its kind

module _ {s : List ℕ} {k : ℕ} (t : Tree) (e : s ≡ encode t) (f : k ≡ le16 s 4) where
  kind_here : k ≡ kind_of t
  kind_here = f ∙ kind_of_lem s t e

  pub leaf-kind : (n : ℕ) → k ≡ n → OfKind n t
  leaf-kind n g = kind-is n t (sym kind_here ∙ g)

  pub leaf_other : (n : ℕ) → (k ≡ n → ⊥) → kind_of t ≡ n → ⊥
  leaf_other n d g = d (kind_here ∙ g)

-- its sort

pub null_sort_lem : {t : Tree} → OfKind 0 t → sort.Null ≡ sort_of t
unfolding sort_of
null_sort_lem of_null = refl

pub open_sort : {t : Tree} → OfKind 1 t → sort.Instant 0 ≡ sort_of t
unfolding sort_of
open_sort of_unbounded = refl

is_one : (b : Bool) → eqb (pick b 1 0) 1 ≡ b
is_one true = refl
is_one false = refl

pub bool_sort : {s : List ℕ} {t : Tree} {r : ℕ} → s ≡ encode t → r ≡ get_or s 6 0 → OfKind 2 t → sort.Bool (eqb r 1) ≡ sort_of t
unfolding sort_of encode record_of
bool_sort e f (of_bool b) = ap (λ (i : ℕ). sort.Bool (eqb i 1)) (f ∙ ap (λ (l : List ℕ). get_or l 6 0) e) ∙ ap sort.Bool (is_one b)

pub num_sort_lem : {t : Tree} → OfKind 3 t → sort.Num ≡ sort_of t
unfolding sort_of
num_sort_lem (of_num m s) = refl

pub str_sort_lem : {t : Tree} → OfKind 4 t → sort.Str ≡ sort_of t
unfolding sort_of
str_sort_lem (of_str f s) = refl

pub spatial_sort_lem : {t : Tree} → OfKind 7 t → sort.Spatial ≡ sort_of t
unfolding sort_of
spatial_sort_lem (of_spatial n s) = refl

pub id_sort : {t : Tree} → OfKind 8 t → sort.Other ≡ sort_of t
unfolding sort_of
id_sort (of_id s) = refl

-- its place in time

date_year : (y m d : ℕ) → valid_date y m d ≡ true → y < 65536
unfolding valid_date
date_year y m d e =
    let p = both_true (between 1 y year_limit) (both (between 1 m 12) (between 1 d (days_in y m))) e in
    omega (arith, within 1 y year_limit p.0)

pub day_read : (s : List ℕ) {a b c : ℕ} → (a ≡ le16 s 6) × (a < 65536) → (b ≡ get_or s 8 0) × (b < 256) → (c ≡ get_or s 9 0) × (c < 256)
    → ((a * 100 + b) * 100 + c ≡ day_key s) × ((a * 100 + b) * 100 + c < 656000000)
unfolding day_key
day_read s x y z = (rw (x.0, y.0, z.0) refl, omega (arith, x.1, y.1, z.1))

pub date-key : {s : List ℕ} {t : Tree} {r : ℕ} (n : ℕ) → s ≡ encode t → Good t n → r ≡ day_key s → OfKind 5 t → sort.Instant (r * 1000000) ≡ sort_of t
unfolding sort_of day_key encode record_of date_bytes Good
date-key {s} {t} {r} n e g f (of_date y m d) =
    let a : r ≡ (y * 100 + m) * 100 + d = f ∙ ap day_key e ∙ ap (λ (x : ℕ). (x * 100 + m) * 100 + d) (le16-le y (date_year y m d g.1)) in
    let b : r * 1000000 ≡ key y m d 0 0 0 = omega (arith, a) in
    ap (λ (i : ℕ). sort.Instant i) b

pub timestamp-key : {s : List ℕ} {t : Tree} {r : ℕ} (n : ℕ) → s ≡ encode t → Good t n → r ≡ second_key s → OfKind 6 t → sort.Instant r ≡ sort_of t
unfolding sort_of second_key day_key encode record_of date_bytes Good
timestamp-key {s} {t} {r} n e g f (of_timestamp y m d h i x) =
    let a : r ≡ ((((y * 100 + m) * 100 + d) * 100 + h) * 100 + i) * 100 + x =
    f ∙ ap second_key e ∙ ap (λ (z : ℕ). ((((z * 100 + m) * 100 + d) * 100 + h) * 100 + i) * 100 + x) (le16-le y (date_year y m d g.1)) in
    ap (λ (j : ℕ). sort.Instant j) a

pub second_read : (s : List ℕ) {d a b c : ℕ} → d ≡ day_key s → a ≡ get_or s 10 0 → b ≡ get_or s 11 0 → c ≡ get_or s 12 0
    → ((d * 100 + a) * 100 + b) * 100 + c ≡ second_key s
unfolding second_key
second_read s w x y z = rw (w, x, y, z) refl

-- It stays as it is.

leaf_reduced : {t : Tree} → IsLeaf t → reduced t ≡ got t
unfolding reduced
leaf_reduced leaf_null = refl
leaf_reduced leaf_unbounded = refl
leaf_reduced (leaf_bool b) = refl
leaf_reduced (leaf_num m s) = refl
leaf_reduced (leaf_str f s) = refl
leaf_reduced (leaf-date y m d) = refl
leaf_reduced (leaf-timestamp y m d h i s) = refl
leaf_reduced (leaf_spatial n s) = refl
leaf_reduced (leaf_id s) = refl

pub leaf-stays : {s l : List ℕ} {k : ℕ} (at : ℕ) (t : Tree) → s ≡ encode t → k ≡ le16 s 4 → k < 9 → at + length s ≤ length l → {m : List ℕ} {p : ℕ} {a : Sort}
    → (p ≡ at + length s) × (m ≡ sets l at s) → a ≡ sort_of t → Folds at t l m (Ok (operand p a))
unfolding done_at
leaf-stays {s} {l} {k} at t e f h r {m} {p} {a} w b =
    let leaf : IsLeaf t = is_leaf t (omega (arith, kind_here t e f)) in
    done t (operand p a) (leaf_reduced leaf) refl (record {
      answers = ap (λ (i : ℕ). operand i a) (w.0 ∙ ap (λ (x : List ℕ). at + length x) e) ∙ ap (λ (x : Sort). operand (at + length (encode t)) x) b;
      holds = rw (w.1, ← e) (holds_sets at s l r);
    })
