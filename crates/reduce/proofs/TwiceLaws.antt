-- CaseI of CaseI is reduced as CaseI, and AccentI of AccentI; CaseI and AccentI of a Str are that Str with the flags joined.
use Prim.Native.Nat.{ℕ}
use mathlib.Core.Path.{◌≡◌, refl, ap}
use mathlib.Core.List.{List, [], ◌∷◌}
use mathlib.Core.Bool.{Bool, true, false}
use native.Mathlib.Omega.{arith}
use Rattle.prelude.specs.Choice.{some}
use Rattle.op.specs.declared.Op.{Op}
use Rattle.op.specs.declared.Op.TheVariants.{CaseI, AccentI}
use Rattle.op.specs.Op.{one_of}
use Rattle.tree.specs.Tree.{Tree, null, unbounded, bool, num, str, date, timestamp, spatial, id, monadic, dyadic, function, array, interval}
use Rattle.tree.specs.Parse.{Read, refused, got, also}
use Rattle.reduce.specs.Sort.{sort_of}
use Rattle.reduce.specs.Rules.{turn}
use Rattle.reduce.specs.Reduced.{and_case, and_accent, flagged, turned, one_reduced, reduced}

case_again : (v : Tree) → one_reduced CaseI (one_reduced CaseI v) ≡ one_reduced CaseI v
unfolding one_reduced turn turned sort_of flagged some
case_again null = refl
case_again unbounded = refl
case_again (bool true) = refl
case_again (bool false) = refl
case_again (num m s) = refl
case_again (str f s) = let e : and_case (and_case f) ≡ and_case f = omega arith in ap (λ (i : ℕ). str i s) e
case_again (date y m d) = refl
case_again (timestamp y m d h i s) = refl
case_again (spatial r s) = refl
case_again (id s) = refl
case_again (monadic p z) = go (one_of p (CaseI ∷ [])) (one_of p (AccentI ∷ [])) refl refl
  where
    go : (a b : Bool) → one_of p (CaseI ∷ []) ≡ a → one_of p (AccentI ∷ []) ≡ b → one_reduced CaseI (one_reduced CaseI (monadic p z)) ≡ one_reduced CaseI (monadic p z)
    go true b e f = simp (e, f)
    go false true e f = simp (e, f)
    go false false e f = simp (e, f)
case_again (dyadic o t u) = refl
case_again (function r ts) = refl
case_again (array ts) = refl
case_again (interval t u) = refl

accent_again : (v : Tree) → one_reduced AccentI (one_reduced AccentI v) ≡ one_reduced AccentI v
unfolding one_reduced turn turned sort_of flagged some
accent_again null = refl
accent_again unbounded = refl
accent_again (bool true) = refl
accent_again (bool false) = refl
accent_again (num m s) = refl
accent_again (str f s) = let e : and_accent (and_accent f) ≡ and_accent f = omega arith in ap (λ (i : ℕ). str i s) e
accent_again (date y m d) = refl
accent_again (timestamp y m d h i s) = refl
accent_again (spatial r s) = refl
accent_again (id s) = refl
accent_again (monadic p z) = go (one_of p (CaseI ∷ [])) (one_of p (AccentI ∷ [])) refl refl
  where
    go : (a b : Bool) → one_of p (CaseI ∷ []) ≡ a → one_of p (AccentI ∷ []) ≡ b → one_reduced AccentI (one_reduced AccentI (monadic p z)) ≡ one_reduced AccentI (monadic p z)
    go true b e f = simp (e, f)
    go false true e f = simp (e, f)
    go false false e f = simp (e, f)
accent_again (dyadic o t u) = refl
accent_again (function r ts) = refl
accent_again (array ts) = refl
accent_again (interval t u) = refl

twice : (o : Op) → ((v : Tree) → one_reduced o (one_reduced o v) ≡ one_reduced o v) → (r : Read Tree)
    → also (also r (λ v. got (one_reduced o v))) (λ v. got (one_reduced o v)) ≡ also r (λ v. got (one_reduced o v))
unfolding also
twice o h (refused e) = refl
twice o h (got v) = ap (λ (x : Tree). got x) (h v)

pub case_twice : (t : Tree) → reduced (monadic CaseI (monadic CaseI t)) ≡ reduced (monadic CaseI t)
unfolding reduced
case_twice t = twice CaseI case_again (reduced t)

pub accent_twice : (t : Tree) → reduced (monadic AccentI (monadic AccentI t)) ≡ reduced (monadic AccentI t)
unfolding reduced
accent_twice t = twice AccentI accent_again (reduced t)

-- CaseI and AccentI of what reduces to a Str are that Str with the flags joined
pub case_of_str : (t : Tree) (f : ℕ) (s : List ℕ) → reduced t ≡ got (str f s) → reduced (monadic CaseI t) ≡ got (str (and_case f) s)
unfolding reduced also one_reduced turn turned sort_of flagged some
case_of_str t f s e = rw e refl

pub accent_of_str : (t : Tree) (f : ℕ) (s : List ℕ) → reduced t ≡ got (str f s) → reduced (monadic AccentI t) ≡ got (str (and_accent f) s)
unfolding reduced also one_reduced turn turned sort_of flagged some
accent_of_str t f s e = rw e refl
