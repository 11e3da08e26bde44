-- Where the items of a Function, Array or Interval stand: a Function's behind its name.
use Prim.Native.Nat.{ℕ, ◌+◌}
use mathlib.Core.Path.{◌≡◌, refl, ap, ◌∙◌}
use mathlib.Core.List.{List}
use native.Mathlib.Omega.{arith}
use lib.ListN.{length, get_or}
use Rattle.record.specs.Record.{record_of}
use Rattle.tree.specs.Tree.{Tree, Trees, null, unbounded, bool, num, str, date, timestamp, spatial, id, monadic, dyadic, function, array, interval, kind_of, counted, encode}
use Rattle.tree.specs.TestsLaws.{OfKind, of_function}
use Rattle.reduce.specs.WalkWords.{name_of}

name-first : (n : List ℕ) (ts : Trees) → get_or (encode (function n ts)) 6 0 ≡ length n
unfolding encode record_of counted
name-first n ts = refl

counted_size : (n : List ℕ) → 7 + length n ≡ 6 + length (counted n)
unfolding counted
counted_size n = omega arith

pub name_size : {s : List ℕ} {t : Tree} {r : ℕ} → s ≡ encode t → r ≡ get_or s 6 0 → OfKind 11 t → 7 + r ≡ 6 + length (name_of t)
name_size e f (of_function n ts) = ap (λ (i : ℕ). 7 + i) (f ∙ ap (λ (l : List ℕ). get_or l 6 0) e ∙ name-first n ts) ∙ counted_size n

pub no_name : (t : Tree) → (kind_of t ≡ 11 → ⊥) → 6 ≡ 6 + length (name_of t)
no_name null d = refl
no_name unbounded d = refl
no_name (bool b) d = refl
no_name (num m s) d = refl
no_name (str f s) d = refl
no_name (date y m d) e = refl
no_name (timestamp y m d h i s) e = refl
no_name (spatial n s) d = refl
no_name (id s) d = refl
no_name (monadic o t) d = refl
no_name (dyadic o t u) d = refl
no_name (function n ts) d = absurd (d refl)
no_name (array ts) d = refl
no_name (interval t u) d = refl
