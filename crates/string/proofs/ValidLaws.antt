-- Laws of specs/Quote.antt and of specs/Utf8.antt: a doubled text is valid exactly if the text was, and plain bytes are.
use Rattle.std.specs.Prelude.{ℕ, ◌≡◌, refl, List, [], ◌∷◌, Bool, true, false, eqb, ltb}
use Rattle.std.proofs.Common.{sym, ap, ◌∙◌, eqb-true, ltb-true}
use Rattle.std.proofs.lemmas.Bool.{lt-leb}
use Rattle.prelude.specs.Choice.{pick, both, some, all}
use Rattle.prelude.specs.ChoiceLaws.{both_true, all_true}
use Rattle.prelude.specs.Bytes.{apostrophe}
use Rattle.string.specs.Utf8.{Range, within, sequences, goes_on, valid}
use Rattle.string.specs.Quote.{doubled}
use Rattle.string.specs.SequenceWords.{plain}
use Rattle.string.specs.QuoteLaws.{no_mark, unmarked}
use Rattle.string.proofs.Utf8Laws.{plain_go}

-- what is doubled is valid exactly if it was: an apostrophe stands for itself, and is due after no other byte
abbrev high : List Range → Bool
high [] = true
high (r ∷ d) = both (ltb apostrophe r.0) (high d)

abbrev high_rows : List (Range × List Range) → Bool
high_rows [] = true
high_rows (row ∷ rows) = both (high row.1) (high_rows rows)

all-high : high_rows sequences ≡ true
unfolding sequences
all-high = refl

rows_alike : (b : ℕ) (s t : List ℕ) → ((d : List Range) → high d ≡ true → goes_on d s ≡ goes_on d t) → (rows : List (Range × List Range)) → high_rows rows ≡ true
    → some (λ row. both (within row.0 b) (goes_on row.1 s)) rows ≡ some (λ row. both (within row.0 b) (goes_on row.1 t)) rows
unfolding some
rows_alike b s t f [] e = refl
rows_alike b s t f (row ∷ rows) e =
    let h = both_true (high row.1) (high_rows rows) e in
    rw (f row.1 h.0, rows_alike b s t f rows h.1)

goes_doubled : (s : List ℕ) (d : List Range) → high d ≡ true → goes_on d (doubled s) ≡ goes_on d s
unfolding doubled goes_on
goes_doubled [] d e = refl
goes_doubled (b ∷ s) d e = go (eqb b apostrophe) refl d e (λ k h. goes_doubled s k h)
  where
    go : (c : Bool) → eqb b apostrophe ≡ c → (d : List Range) → high d ≡ true → ((d : List Range) → high d ≡ true → goes_on d (doubled s) ≡ goes_on d s)
        → goes_on d (pick c (b ∷ (b ∷ doubled s)) (b ∷ doubled s)) ≡ goes_on d (b ∷ s)
    go true q [] e f =
        let p : plain b ≡ true = ap plain (eqb-true b apostrophe q) in
        plain_go b (b ∷ doubled s) p ∙ plain_go b (doubled s) p ∙ f [] refl ∙ sym (plain_go b s p)
    go true q (r ∷ d) e f =
        let z : b ≡ apostrophe = eqb-true b apostrophe q in
        let h = both_true (ltb apostrophe r.0) (high d) e in
        simp (z, lt-leb r.0 apostrophe (ltb-true apostrophe r.0 h.0))
    go false q [] e f = rows_alike b (doubled s) s f sequences all-high
    go false q (r ∷ d) e f = let h = both_true (ltb apostrophe r.0) (high d) e in rw (f d h.1)

pub valid-doubled : (s : List ℕ) → valid (doubled s) ≡ valid s
unfolding valid
valid-doubled s = goes_doubled s [] refl

pub unmarked-valid : (s : List ℕ) → all unmarked s ≡ true → valid s ≡ true
unfolding valid goes_on
unmarked-valid [] e = refl
unmarked-valid (b ∷ s) e =
    let h = all_true unmarked b s e in
    plain_go b s (both_true (plain b) (no_mark b) h.0).0 ∙ unmarked-valid s h.1
