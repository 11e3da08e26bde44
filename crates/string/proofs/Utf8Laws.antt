-- Laws of specs/Utf8.antt: what may follow a first byte is one test over the table, computed at all 256 bytes.
use Rattle.std.specs.Prelude.{ℕ, zero, suc, ◌<◌, ◌≡◌, refl, List, [], ◌∷◌, Bool, true, false, eqb, length}
use Rattle.std.proofs.Common.{ap, ◌∙◌, arith, eqb-true, ne_eqb}
use Rattle.std.proofs.lemmas.Bool.{false≢true, eqb-false}
use Rattle.prelude.specs.Choice.{pick, both, some}
use Rattle.prelude.specs.ChoiceLaws.{both_true, between_true}
use Rattle.string.specs.Utf8.{Range, within, sequences, goes_on}
use Rattle.string.specs.SequenceWords.{plain, more, lowest, highest, tails, due}

-- ---- the rows that a first byte begins

-- the ranges after the first of each row that b begins
abbrev rests : ℕ → List (Range × List Range) → List (List Range)
rests b [] = []
rests b (row ∷ rows) = pick (within row.0 b) (row.1 ∷ rests b rows) (rests b rows)

by-rests : (g : List Range → Bool) (b : ℕ) (rows : List (Range × List Range)) → some (λ row. both (within row.0 b) (g row.1)) rows ≡ some g (rests b rows)
unfolding some
by-rests g b [] = refl
by-rests g b (row ∷ rows) = go (within row.0 b) (by-rests g b rows)
  where
    go : (w : Bool) → some (λ row. both (within row.0 b) (g row.1)) rows ≡ some g (rests b rows)
        → pick (both w (g row.1)) true (some (λ row. both (within row.0 b) (g row.1)) rows) ≡ some g (pick w (row.1 ∷ rests b rows) (rests b rows))
    go true e = ap (λ x. pick (g row.1) true x) e
    go false e = e

-- what the words say of them
abbrev follows : ℕ → List (List Range)
follows b = pick (plain b) ([] ∷ []) (pick (eqb (more b) 0) [] (due b (more b) ∷ []))

-- two lists are the same, by a test of their elements that tells
abbrev same_by : {A : Type 0} → (A → A → Bool) → List A → List A → Bool
same_by f [] [] = true
same_by f [] (y ∷ ys) = false
same_by f (x ∷ xs) [] = false
same_by f (x ∷ xs) (y ∷ ys) = both (f x y) (same_by f xs ys)

same_by_lem : {A : Type 0} (f : A → A → Bool) → ((x y : A) → f x y ≡ true → x ≡ y) → (xs ys : List A) → same_by f xs ys ≡ true → xs ≡ ys
same_by_lem f h [] [] e = refl
same_by_lem f h [] (y ∷ ys) e = absurd (false≢true e)
same_by_lem f h (x ∷ xs) [] e = absurd (false≢true e)
same_by_lem f h (x ∷ xs) (y ∷ ys) e =
    let p = both_true (f x y) (same_by f xs ys) e in
    let q : x ≡ y = h x y p.0 in
    let r : xs ≡ ys = same_by_lem f h xs ys p.1 in
    cc

abbrev same_range : Range → Range → Bool
same_range p q = both (eqb p.0 q.0) (eqb p.1 q.1)

same_range_lem : (p q : Range) → same_range p q ≡ true → p ≡ q
same_range_lem (a, b) (c, d) e =
    let p = both_true (eqb a c) (eqb b d) e in
    let q : a ≡ c = eqb-true a c p.0 in
    let r : b ≡ d = eqb-true b d p.1 in
    cc

abbrev same_rests : List (List Range) → List (List Range) → Bool
same_rests = same_by (same_by same_range)

same-rests : (xs ys : List (List Range)) → same_rests xs ys ≡ true → xs ≡ ys
same-rests = same_by_lem (same_by same_range) (same_by_lem same_range same_range_lem)

-- the rule of the table, at each byte below n
abbrev rule : ℕ → Bool
rule b = same_rests (rests b sequences) (follows b)

abbrev ruled : ℕ → Bool
ruled zero = true
ruled (suc n) = both (rule n) (ruled n)

rule_at : (n b : ℕ) → ruled n ≡ true → b < n → rule b ≡ true
rule_at zero b e h = absurd (omega arith)
rule_at (suc n) b e h =
    let p = both_true (rule n) (ruled n) e in
    go (eqb b n) refl p.0 (λ k. rule_at n b p.1 k)
  where
    go : (c : Bool) → eqb b n ≡ c → rule n ≡ true → (b < n → rule b ≡ true) → rule b ≡ true
    go true q x f = ap rule (eqb-true b n q) ∙ x
    go false q x f = f (let z = eqb-false b n q in omega (arith, z))

all-bytes : ruled 256 ≡ true
unfolding sequences more lowest highest tails due
all-bytes = refl

first : (b : ℕ) (s : List ℕ) → b < 256 → goes_on [] (b ∷ s) ≡ some (λ d. goes_on d s) (follows b)
unfolding goes_on
first b s h = by-rests (λ d. goes_on d s) b sequences ∙ ap (some (λ d. goes_on d s)) (same-rests (rests b sequences) (follows b) (rule_at 256 b all-bytes h))

whole : (x : Bool) → pick x true false ≡ x
whole true = refl
whole false = refl

-- a byte that is a sequence by itself, the first byte of a longer one, and a byte that begins none
pub plain_go : (b : ℕ) (s : List ℕ) → plain b ≡ true → goes_on [] (b ∷ s) ≡ goes_on [] s
unfolding some
plain_go b s e = first b s (omega (arith, (between_true 0x20 b 0x7E e).1)) ∙ rw e (whole (goes_on [] s))

pub lead_go : (b k : ℕ) (s : List ℕ) → b < 256 → plain b ≡ false → more b ≡ suc k → goes_on [] (b ∷ s) ≡ goes_on (due b (suc k)) s
unfolding some
lead_go b k s h e q = first b s h ∙ rw (e, q, ne_eqb (suc k) 0 (λ z. omega arith)) (whole (goes_on (due b (suc k)) s))

pub lead_none : (b : ℕ) (s : List ℕ) → b < 256 → plain b ≡ false → more b ≡ 0 → goes_on [] (b ∷ s) ≡ false
unfolding some
lead_none b s h e q = first b s h ∙ rw (e, q)

-- too few bytes for what is due
pub short : (d : List Range) (l : List ℕ) → length l < length d → goes_on d l ≡ false
unfolding goes_on
short [] l h = absurd (omega arith)
short (r ∷ d) [] h = refl
short (r ∷ d) (b ∷ l) h = go (within r b) (short d l (omega arith))
  where
    go : (w : Bool) → goes_on d l ≡ false → both w (goes_on d l) ≡ false
    go true e = e
    go false e = refl
