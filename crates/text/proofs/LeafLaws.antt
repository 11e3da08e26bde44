-- The text of a node without operands, read from its record.
use Prim.Native.Nat.{ℕ, ◌+◌, ◌≤◌, ◌<◌}
use mathlib.Core.Path.{◌≡◌, refl, ap, ◌∙◌}
use mathlib.Core.List.{List, [], ◌∷◌, ◌++◌}
use mathlib.Core.Bool.{Bool, true, false}
use native.Mathlib.Omega.{arith}
use lib.IntN.{ℤ, nat_abs}
use lib.Dec.{eqb, leb}
use borrow.Author.Tests.{leb-true, ltb-true}
use Rattle.prelude.specs.Choice.{pick}
use Rattle.record.specs.Record.{le, record_of, le64, signed}
use Rattle.tree.specs.Limits.{mantissa_limit}
use Rattle.tree.specs.Parse.{mantissa}
use Rattle.tree.specs.ByteLaws.{le16-le, le32-le, le64-le, signed-twos, twos-low}
use Rattle.literal.specs.declared.Writing.{Writing}
use Rattle.tree.specs.Tree.{Tree, Settings, encode, twos, date_bytes, null, unbounded, bool, num, str, date, timestamp, spatial, id, monadic, dyadic, function, array, interval, kind_of}
use Rattle.string.specs.Quote.{doubled}
use Rattle.literal.specs.Literal.{num_text, bool_text, date_text, timestamp_text, spatial_text, quoted, collate, str_text}
use Rattle.text.specs.Text.{text}
use Rattle.text.specs.LeafWords.{leaf_text, collation}
use Rattle.text.specs.RecordWords.{sound}

-- a Bool is not both
pub clash : {A : Type 0} → ◌≡◌ {A = Bool} false true → A
clash e = let z : ◌≡◌ {A = ℕ} 0 1 = cc in absurd (let v : ⊥ = omega arith in v)

truth : (b : Bool) → eqb (pick b 1 0) 1 ≡ b
truth true = refl
truth false = refl

number : (m : ℤ) (s : ℕ) → leb (nat_abs m) mantissa_limit ≡ true → mantissa (encode (num m s)) 6 ≡ m
unfolding encode record_of
number m s f =
    let h : nat_abs m ≤ 999999999999999 = leb-true (nat_abs m) mantissa_limit f in
    let a : le64 (le 8 (twos m) ++ (s ∷ [])) 0 ≡ twos m = le64-le (twos m) (s ∷ []) (twos-low m (omega arith)) in
    ap signed a ∙ signed-twos m (omega arith)

pub leaf_text_lem : (writing : Writing) (g : Settings) (t : Tree) → kind_of t < 9 → sound t ≡ true → leaf_text writing g (encode t) ≡ text writing g t
unfolding leaf_text encode record_of text sound date_bytes
leaf_text_lem writing g null h f = refl
leaf_text_lem writing g unbounded h f = refl
leaf_text_lem writing g (bool b) h f = ap bool_text (truth b)
leaf_text_lem writing g (num m s) h f = ap (λ (x : ℤ). num_text x s) (number m s f)
leaf_text_lem writing g (str k s) h f = refl
leaf_text_lem writing g (date y m d) h f = ap (λ (x : ℕ). date_text x m d) (le16-le y (ltb-true y 65536 f))
leaf_text_lem writing g (timestamp y m d k i s) h f = ap (λ (x : ℕ). timestamp_text writing x m d k i s) (le16-le y (ltb-true y 65536 f))
leaf_text_lem writing g (spatial n s) h f = ap (λ (x : ℕ). spatial_text x s) (le32-le n (ltb-true n 4294967296 f))
leaf_text_lem writing g (id s) h f = refl
leaf_text_lem writing g (monadic o t) h f = absurd (let v : ⊥ = omega arith in v)
leaf_text_lem writing g (dyadic o t u) h f = absurd (let v : ⊥ = omega arith in v)
leaf_text_lem writing g (function n ts) h f = absurd (let v : ⊥ = omega arith in v)
leaf_text_lem writing g (array ts) h f = absurd (let v : ⊥ = omega arith in v)
leaf_text_lem writing g (interval t u) h f = absurd (let v : ⊥ = omega arith in v)

-- a Str's collation, by its flags
pub str_collated : (g : Settings) (f : ℕ) (s : List ℕ) → quoted (doubled s) ++ collation g f ≡ str_text g.ci g.ai g.cai f s
unfolding str_text
str_collated g f s = ap (λ (l : List ℕ). quoted (doubled s) ++ pick (eqb f 0) [] l) (go (eqb f 1) (eqb f 2))
  where
    go : (a b : Bool) → collate (pick a g.ci (pick b g.ai g.cai)) ≡ pick a (collate g.ci) (pick b (collate g.ai) (collate g.cai))
    go true b = refl
    go false true = refl
    go false false = refl
