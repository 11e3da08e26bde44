-- Laws of specs/Choice.antt: how a loop that tests one element after the other decides `all`, and what `same` says.
use Rattle.std.specs.Prelude.{ℕ, ◌+◌, ◌≤◌, ◌<◌, ◌≡◌, refl, List, [], ◌∷◌, Bool, true, false, ◌&&◌, eqb, leb, length, get_or, drop}
use Rattle.std.proofs.Common.{ap, add-one, drop_of_length-le, drop-cons, eq-eqb, eqb-true, leb-true}
use Rattle.std.specs.Cmp.Lexicographic.{bytes_decides}
use Rattle.prelude.specs.Choice.{pick, both, between, all, some, same}

-- the element at i passes: the rest decides
pub all_next : (f : ℕ → Bool) (s : List ℕ) (i : ℕ) → i < length s → f (get_or s i 0) ≡ true → all f (drop i s) ≡ all f (drop (i + 1) s)
all_next f s i h w = rw (add-one, drop-cons s i 0) (simp w)

-- the element at i fails: so does the list
pub all_not : (f : ℕ → Bool) (s : List ℕ) (i : ℕ) → i < length s → f (get_or s i 0) ≡ false → all f (drop i s) ≡ false
all_not f s i h w = rw (drop-cons s i 0) (simp w)

-- all of a list that is not empty
pub all_true : (f : ℕ → Bool) (x : ℕ) (s : List ℕ) → all f (x ∷ s) ≡ true → (f x ≡ true) × (all f s ≡ true)
all_true f x s e = go (f x) e
  where
    go : (b : Bool) → (b && all f s) ≡ true → (b ≡ true) × (all f s ≡ true)
    go true e = (refl, e)
    go false e = let z : false ≡ true = e in (cc, cc)

-- nothing is left
pub all_end : (f : ℕ → Bool) (s : List ℕ) (i : ℕ) → length s ≤ i → all f (drop i s) ≡ true
all_end f s i h = rw drop_of_length-le refl

pub same_refl : (s : List ℕ) → same s s ≡ true
same_refl s = (bytes_decides s s).1 refl

pub same_true : (s t : List ℕ) → same s t ≡ true → s ≡ t
same_true s t = (bytes_decides s t).0

pub both_true : (a b : Bool) → both a b ≡ true → (a ≡ true) × (b ≡ true)
both_true true b e = (refl, e)
both_true false b e = let z : false ≡ true = e in (cc, cc)

pub between_true : (lo n hi : ℕ) → between lo n hi ≡ true → (lo ≤ n) × (n ≤ hi)
between_true lo n hi e = let h = both_true (leb lo n) (leb n hi) e in (leb-true lo n h.0, leb-true n hi h.1)

-- tests that agree find alike
pub some_alike : {A : Type 0} (f g : A → Bool) (xs : List A) → ((x : A) → f x ≡ g x) → some f xs ≡ some g xs
unfolding some
some_alike f g [] h = refl
some_alike f g (x ∷ xs) h = simp (h x) (ap (λ b. pick (g x) true b) (some_alike f g xs h))
