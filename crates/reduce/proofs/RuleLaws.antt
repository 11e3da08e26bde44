-- The rules by cases: sorts and operators are told apart by their numbers.
use Prim.Native.Nat.{ℕ}
use mathlib.Core.Path.{◌≡◌, refl, ap, sym, ◌∙◌}
use mathlib.Core.List.{List, [], ◌∷◌}
use mathlib.Core.Bool.{Bool, true, false, not}
use native.Mathlib.Omega.{arith}
use lib.Dec.{eqb}
use lib.ListN.{get_or}
use borrow.Author.Tests.{ne_eqb}
use Rattle.std.specs.Prelude.{Some}
use Rattle.prelude.specs.Choice.{pick, negated, some}
use Rattle.op.specs.declared.Op.{Op}
use Rattle.op.specs.declared.Op.TheVariants.{Neg}
use Rattle.op.specs.Op.{op_number, op_of, is_instant_or_interval}
use Rattle.op.specs.OpLaws.{number_of}
use Rattle.reduce.specs.declared.Turn.{Turn}
use Rattle.reduce.specs.declared.Turn.TheVariants.{ToBool}
use Rattle.reduce.specs.declared.Meet.{Meet}
use Rattle.reduce.specs.declared.Meet.TheVariants.{MeetBool, Clash}
use Rattle.reduce.specs.declared.Sort.{Sort}
use Rattle.reduce.specs.declared.Sort.TheVariants as sort
use Rattle.reduce.specs.Sort.{sort_number, same_sort, is_logic}
use Rattle.reduce.specs.Rules.{turn, happens, meet_other}

abbrev sort_at : ℕ → Sort
sort_at n = get_or (sort.Null ∷ sort.Bool false ∷ sort.Bool true ∷ sort.Other ∷ sort.Num ∷ sort.Str ∷ sort.Spatial ∷ sort.CaseI ∷ sort.AccentI ∷ []) n sort.Other

-- an instant's place is lost
back : (a : Sort) → (sort_number a ≡ 3 → ⊥) → sort_at (sort_number a) ≡ a
back sort.Null n = refl
back (sort.Bool true) n = refl
back (sort.Bool false) n = refl
back (sort.Instant k) n = absurd (n refl)
back sort.Num n = refl
back sort.Str n = refl
back sort.Spatial n = refl
back sort.CaseI n = refl
back sort.AccentI n = refl
back sort.Other n = refl

pub apart : (a b : Sort) → (a ≡ b → ⊥) → (sort_number b ≡ 3 → ⊥) → same_sort a b ≡ false
apart a b n i = ne_eqb (sort_number a) (sort_number b) (λ e. n (sym (back a (λ z. i (sym e ∙ z))) ∙ ap sort_at e ∙ back b i))

pub no_logic : (a : Sort) → (a ≡ sort.Null → ⊥) → ((b : Bool) → a ≡ sort.Bool b → ⊥) → is_logic a ≡ false
no_logic sort.Null n m = absurd (n refl)
no_logic (sort.Bool b) n m = absurd (m b refl)
no_logic (sort.Instant k) n m = refl
no_logic sort.Num n m = refl
no_logic sort.Str n m = refl
no_logic sort.Spatial n m = refl
no_logic sort.CaseI n m = refl
no_logic sort.AccentI n m = refl
no_logic sort.Other n m = refl

pub op_is : (o p : Op) → op_number o ≡ op_number p → o ≡ p
op_is o p e = let z : Some o ≡ Some p = sym (number_of o) ∙ ap op_of e ∙ number_of p in cc

pub op_apart : (o p : Op) → (o ≡ p → ⊥) → eqb (op_number o) (op_number p) ≡ false
op_apart o p n = ne_eqb (op_number o) (op_number p) (λ e. n (op_is o p e))

pub neg_bool : (b : Bool) → ToBool (not b) ≡ turn Neg (sort.Bool b)
unfolding turn some
neg_bool true = refl
neg_bool false = refl

pub not_is : (b : Bool) → not b ≡ negated b
not_is true = refl
not_is false = refl

pub instants_meet : (o : Op) (x y : ℕ) → is_instant_or_interval o ≡ true → MeetBool (happens o x y) ≡ meet_other o (sort.Instant x) (sort.Instant y)
unfolding meet_other
instants_meet o x y e = rw e refl

pub instants_clash : (o : Op) (x y : ℕ) → is_instant_or_interval o ≡ false → Clash ≡ meet_other o (sort.Instant x) (sort.Instant y)
unfolding meet_other
instants_clash o x y e = rw e refl
