-- The reduced tree, or refusal 14: document 02, slip 8; `E::reduce` of src/expr.rs.
use Rattle.std.specs.Prelude.{ℕ, ◌+◌, ◌*◌, ◌/◌, ◌%◌, neg_ℤ}
use Rattle.op.specs.declared.Op.{Op}
use Rattle.refusal.specs.declared.Refusal.TheVariants.{ConstantOperands}
use Rattle.tree.specs.Tree.{Tree, Trees, none, ◌then◌, null, unbounded, bool, num, str, date, timestamp, spatial, id, monadic, dyadic, function, array, interval}
use Rattle.tree.specs.Parse.{Read, refused, got, also}
use Rattle.reduce.specs.declared.Turn.{Turn}
use Rattle.reduce.specs.declared.Turn.TheVariants.{Keep, ToNull, ToBool, Stay, Negate, NoCase, NoAccent}
use Rattle.reduce.specs.declared.Meet.{Meet}
use Rattle.reduce.specs.declared.Meet.TheVariants.{Keeps, MeetNull, MeetBool, Clash}
use Rattle.reduce.specs.Sort.{sort_of}
use Rattle.reduce.specs.Rules.{turn, meet}

-- Minus of a Num: the scale stays, a zero stays 0
unfoldable pub minus : Tree → Tree
minus null = null
minus unbounded = unbounded
minus (bool b) = bool b
minus (num m s) = num (neg_ℤ m) s
minus (str f s) = str f s
minus (date y m d) = date y m d
minus (timestamp y m d h i s) = timestamp y m d h i s
minus (spatial n s) = spatial n s
minus (id s) = id s
minus (monadic o t) = monadic o t
minus (dyadic o t u) = dyadic o t u
minus (function n ts) = function n ts
minus (array ts) = array ts
minus (interval t u) = interval t u

-- the flags of a Str: 1 ignores case, 2 accents
abbrev pub and_case : ℕ → ℕ
and_case f = f / 2 * 2 + 1

abbrev pub and_accent : ℕ → ℕ
and_accent f = 2 + f % 2

unfoldable pub flagged : (ℕ → ℕ) → Tree → Tree
flagged g null = null
flagged g unbounded = unbounded
flagged g (bool b) = bool b
flagged g (num m s) = num m s
flagged g (str f s) = str (g f) s
flagged g (date y m d) = date y m d
flagged g (timestamp y m d h i s) = timestamp y m d h i s
flagged g (spatial n s) = spatial n s
flagged g (id s) = id s
flagged g (monadic o t) = monadic o t
flagged g (dyadic o t u) = dyadic o t u
flagged g (function n ts) = function n ts
flagged g (array ts) = array ts
flagged g (interval t u) = interval t u

unfoldable pub turned : Turn → Op → Tree → Tree
turned Keep o v = monadic o v
turned ToNull o v = null
turned (ToBool b) o v = bool b
turned Stay o v = v
turned Negate o v = minus v
turned NoCase o v = flagged and_case v
turned NoAccent o v = flagged and_accent v

unfoldable pub met : Meet → Op → Tree → Tree → Read Tree
met Keeps o a b = got (dyadic o a b)
met MeetNull o a b = got null
met (MeetBool c) o a b = got (bool c)
met Clash o a b = refused ConstantOperands

unfoldable pub one_reduced : Op → Tree → Tree
one_reduced o v = turned (turn o (sort_of v)) o v

unfoldable pub two_reduced : Op → Tree → Tree → Read Tree
two_reduced o a b = met (meet o (sort_of a) (sort_of b)) o a b

unfoldable mutual
  pub reduced : Tree → Read Tree
  reduced null = got null
  reduced unbounded = got unbounded
  reduced (bool b) = got (bool b)
  reduced (num m s) = got (num m s)
  reduced (str f s) = got (str f s)
  reduced (date y m d) = got (date y m d)
  reduced (timestamp y m d h i s) = got (timestamp y m d h i s)
  reduced (spatial n s) = got (spatial n s)
  reduced (id s) = got (id s)
  reduced (monadic o t) = also (reduced t) (λ v. got (one_reduced o v))
  reduced (dyadic o t u) = also (reduced t) (λ a. also (reduced u) (λ b. two_reduced o a b))
  reduced (function n ts) = also (reduceds ts) (λ us. got (function n us))
  reduced (array ts) = also (reduceds ts) (λ us. got (array us))
  reduced (interval t u) = also (reduced t) (λ a. also (reduced u) (λ b. got (interval a b)))

  pub reduceds : Trees → Read Trees
  reduceds none = got none
  reduceds (t then ts) = also (reduced t) (λ v. also (reduceds ts) (λ us. got (v then us)))
