-- Laws of specs/Rules.antt, as cases that another crate can name: And and Or stay unless both operands are Null or Bool; any other operator without a
-- Null stays, or is one of the five between two instants: document 02, slip 8.
use Rattle.std.specs.Prelude.{◌≡◌, refl, [], ◌∷◌, Bool, true, false, ◌⊎◌}
use Rattle.std.proofs.Common.{inl, inr}
use Rattle.prelude.specs.Choice.{pick, both, some}
use Rattle.refusal.specs.declared.Refusal.TheVariants.{ConstantOperands}
use Rattle.op.specs.declared.Op.{Op}
use Rattle.op.specs.declared.Op.TheVariants.{And, Or}
use Rattle.op.specs.Op.{one_of, is_instant_or_interval}
use Rattle.tree.specs.Tree.{Tree, bool, dyadic}
use Rattle.tree.specs.Parse.{got}
use Rattle.tree.specs.ParseLaws.{not_got}
use Rattle.reduce.specs.declared.Meet.TheVariants.{Keeps, MeetBool, Clash}
use Rattle.reduce.specs.declared.Sort.TheVariants as sort
use Rattle.reduce.specs.Sort.{same_sort, is_logic, is_constant, sort_of, key_of}
use Rattle.reduce.specs.Rules.{meet_and, meet_or, happens, meet_other, meet}
use Rattle.reduce.specs.Reduced.{met, two_reduced}
use Rattle.reduce.specs.ReducedLaws.{same_tree}

module _ (a b u : Tree) (p : both (is_logic (sort_of a)) (is_logic (sort_of b)) ≡ false) where
  pub and_stays : two_reduced And a b ≡ got u → dyadic And a b ≡ u
  unfolding two_reduced meet meet_and met some
  and_stays h = let g : got (dyadic And a b) ≡ got u = rw p at h in same_tree g

  pub or_stays : two_reduced Or a b ≡ got u → dyadic Or a b ≡ u
  unfolding two_reduced meet meet_or met some
  or_stays h = let g : got (dyadic Or a b) ≡ got u = rw p at h in same_tree g

-- two instants under one of the five, and what it says of them
pub record Instants (o : Op) (a b u : Tree) : Type 0 where
  pub five : is_instant_or_interval o ≡ true
  pub left : same_sort (sort_of a) (sort.Instant 0) ≡ true
  pub right : same_sort (sort_of b) (sort.Instant 0) ≡ true
  pub is : bool (happens o (key_of a) (key_of b)) ≡ u

pub others_meet : (o : Op) (a b u : Tree) → one_of o (And ∷ []) ≡ false → one_of o (Or ∷ []) ≡ false → same_sort (sort_of a) sort.Null ≡ false → same_sort (sort_of b) sort.Null ≡ false
    → two_reduced o a b ≡ got u → (dyadic o a b ≡ u) ⊎ Instants o a b u
unfolding two_reduced meet meet_other met
others_meet o a b u e f p q h =
    let g : met (pick (both (is_constant (sort_of a)) (is_constant (sort_of b))) (pick (both (is_instant_or_interval o) (both (same_sort (sort_of a) (sort.Instant 0)) (same_sort (sort_of b) (sort.Instant 0)))) (MeetBool (happens o (key_of a) (key_of b))) Clash) Keeps) o a b ≡ got u
    = rw (e, f, p, q) at h in
    go (both (is_constant (sort_of a)) (is_constant (sort_of b))) (is_instant_or_interval o) (same_sort (sort_of a) (sort.Instant 0)) (same_sort (sort_of b) (sort.Instant 0)) refl refl refl g
  where
    go : (c i x y : Bool) → is_instant_or_interval o ≡ i → same_sort (sort_of a) (sort.Instant 0) ≡ x → same_sort (sort_of b) (sort.Instant 0) ≡ y
        → met (pick c (pick (both i (both x y)) (MeetBool (happens o (key_of a) (key_of b))) Clash) Keeps) o a b ≡ got u → (dyadic o a b ≡ u) ⊎ Instants o a b u
    go true true true true i x y g = inr (record { five = i; left = x; right = y; is = same_tree g })
    go true true true false i x y g = not_got ConstantOperands u g
    go true true false d i x y g = not_got ConstantOperands u g
    go true false c d i x y g = not_got ConstantOperands u g
    go false j c d i x y g = inl (same_tree g)
