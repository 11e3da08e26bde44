-- The contracts of the walk (src/walk.rt, src/chains.rt, src/leaves.rt, src/records.rt): what is written of a record into the room, and what is known of
-- it then.
use Rattle.std.specs.Prelude.{ℕ, Result, Ok, Err, suc, ◌+◌, ◌*◌, ◌≤◌, ◌≡◌, List, [], ◌∷◌, ◌++◌, Bool, true, false, eqb, length, take, get_or}
use Rattle.prelude.specs.Choice.{pick, both}
use Rattle.refusal.specs.declared.Refusal.{Refusal}
use Rattle.record.specs.Record.{le, le16}
use Rattle.op.specs.declared.Op.{Op}
use Rattle.op.specs.declared.Op.TheVariants.{CaseI, AccentI}
use Rattle.op.specs.Op.{op_number, one_of}
use Rattle.tree.specs.Limits.{tree_limit}
use Rattle.tree.specs.Tree.{Tree, Trees, null, unbounded, bool, num, str, date, timestamp, spatial, id, monadic, dyadic, function, array, interval, counted, encode, encodes}
use Rattle.tree.specs.Parse.{Read, refused, got}
use Rattle.tree.specs.GoodWords.{Good, AllGood}
use Rattle.tree.specs.Written.{leaves}
use Rattle.reduce.specs.declared.Turn.{Turn}
use Rattle.reduce.specs.declared.Turn.TheVariants.{Keep, ToNull, ToBool, Stay, Negate, NoCase, NoAccent}
use Rattle.reduce.specs.declared.Chain.{Chain}
use Rattle.reduce.specs.declared.Chain.TheVariants.{Text, Twin, Other}
use Rattle.reduce.specs.declared.Sort.{Sort}
use Rattle.reduce.specs.declared.Operand.{Operand}
use Rattle.reduce.specs.Sort.{sort_of}
use Rattle.reduce.specs.Reduced.{and_case, and_accent, reduced}
use Rattle.reduce.specs.Reducing.{answer}

-- Records.

-- s is the record of some tree
pub record Recorded (s : List ℕ) : Type 0 where
  pub tree : Tree
  pub levels : ℕ
  pub whole : s ≡ encode tree
  pub good : Good tree levels

-- that of a Monadic or Dyadic has an operator
pub record Operated (s : List ℕ) : Type 0 where
  pub op : Op
  pub is : le16 s 6 ≡ op_number op

-- a record that has room from `at` on
pub record Placed (s : List ℕ) (at : ℕ) (room : List ℕ) : Type 0 where
  pub of : Recorded s
  pub fits : at + length s ≤ length room
  pub small : length room ≤ tree_limit

-- length and kind of a record with a body of n bytes
abbrev pub frame_of : ℕ → ℕ → List ℕ
frame_of k n = le 4 (n + 2) ++ le 2 k

-- length, kind and operator of a node whose operands have n bytes
abbrev pub head_of : ℕ → ℕ → ℕ → List ℕ
head_of k o n = le 4 (suc (suc n) + 2) ++ (le 2 k ++ le 2 o)

-- the record of a Num whose mantissa is these eight bytes
abbrev pub num_of : ℕ → ℕ → List ℕ
num_of n s = 11 ∷ 0 ∷ 0 ∷ 0 ∷ 3 ∷ 0 ∷ (le 8 n ++ (s ∷ []))

-- The room: a step at `at` leaves what stands before `at`, and behind it the bytes x; of what comes after nothing is said.
pub record Holds (at : ℕ) (x entry exit : List ℕ) : Type 0 where
  pub kept : length exit ≡ length entry
  pub fits : at + length x ≤ length entry
  pub front : take (at + length x) exit ≡ take at entry ++ x

abbrev pub operand : ℕ → Sort → Operand
operand e k = record { end = e; sort = k }

-- what is known of the reduced tree u that stands at `at`
unfoldable pub done_at : ℕ → Tree → Operand
done_at at u = operand (at + length (encode u)) (sort_of u)

-- u was written at `at`
pub record Writes (at : ℕ) (u : Tree) (entry exit : List ℕ) (r : Operand) : Type 0 where
  pub answers : r ≡ done_at at u
  pub holds : Holds at (encode u) entry exit

-- What became of a tree: a refusal, or u, which was written at `at`.
pub data Meets (at : ℕ) (x : Read Tree) (entry exit : List ℕ) (r : Result Operand Refusal) : Type 0 where
  fails : (n : Refusal) → x ≡ refused n → r ≡ Err n → length exit ≡ length entry → Meets at x entry exit r
  done : (u : Tree) (d : Operand) → x ≡ got u → r ≡ Ok d → Writes at u entry exit d → Meets at x entry exit r

abbrev pub Folds : ℕ → Tree → List ℕ → List ℕ → Result Operand Refusal → Type 0
Folds at t entry exit r = Meets at (reduced t) entry exit r

-- Nodes.

-- the reduced operand v stands behind the place of a head, up to `end`
pub record Kept (at end : ℕ) (v : Tree) (entry exit : List ℕ) : Type 0 where
  pub stops : end ≡ at + 8 + length (encode v)
  pub holds : Holds (at + 8) (encode v) entry exit

-- the reduced operands a and b do
pub record Pair (at end : ℕ) (a b : Tree) (entry exit : List ℕ) : Type 0 where
  pub stops : end ≡ at + 8 + length (encode a) + length (encode b)
  pub holds : Holds (at + 8) (encode a ++ encode b) entry exit

-- the rules that are written where the operand stands; the others are seen before it is written
abbrev pub written : Turn → Bool
written Keep = true
written ToNull = true
written (ToBool b) = true
written Stay = false
written Negate = true
written NoCase = false
written NoAccent = false

-- A Monadic before anything of it is written.

-- more flags for a chain that ends in a Str
abbrev pub joined : (ℕ → ℕ) → Chain → Chain
joined g (Text n f) = Text n (g f)
joined g Twin = Other
joined g Other = Other

-- CaseI and AccentI down to a Str: the length of its record, and all flags
unfoldable pub chain_of : Tree → Chain
chain_of null = Other
chain_of unbounded = Other
chain_of (bool b) = Other
chain_of (num m s) = Other
chain_of (str f s) = Text (length (encode (str f s))) f
chain_of (date y m d) = Other
chain_of (timestamp y m d h i s) = Other
chain_of (spatial n s) = Other
chain_of (id s) = Other
chain_of (monadic o t) = pick (one_of o (CaseI ∷ [])) (joined and_case (chain_of t)) (pick (one_of o (AccentI ∷ [])) (joined and_accent (chain_of t)) Other)
chain_of (dyadic o t u) = Other
chain_of (function n ts) = Other
chain_of (array ts) = Other
chain_of (interval t u) = Other

-- the number of a Monadic's operator and 1, of any other tree 0
abbrev pub operator_of : Tree → ℕ
operator_of null = 0
operator_of unbounded = 0
operator_of (bool b) = 0
operator_of (num m s) = 0
operator_of (str f s) = 0
operator_of (date y m d) = 0
operator_of (timestamp y m d h i s) = 0
operator_of (spatial n s) = 0
operator_of (id s) = 0
operator_of (monadic o t) = suc (op_number o)
operator_of (dyadic o t u) = 0
operator_of (function n ts) = 0
operator_of (array ts) = 0
operator_of (interval t u) = 0

-- CaseI of CaseI, or AccentI of AccentI
unfoldable pub twin : Op → Tree → Bool
twin o t = both (one_of o (CaseI ∷ AccentI ∷ [])) (eqb (operator_of t) (suc (op_number o)))

-- how a Monadic is to be reduced
unfoldable pub way_of : Op → Tree → Chain
way_of o t = pick (twin o t) Twin (chain_of (monadic o t))

-- Leaves.

-- the place of a date in time, from its record
unfoldable pub day_key : List ℕ → ℕ
day_key s = (le16 s 6 * 100 + get_or s 8 0) * 100 + get_or s 9 0

-- that of a timestamp
unfoldable pub second_key : List ℕ → ℕ
second_key s = ((day_key s * 100 + get_or s 10 0) * 100 + get_or s 11 0) * 100 + get_or s 12 0

-- Lists.

-- s is the records of some trees, and has room from `at` on
pub record Row (s : List ℕ) (at : ℕ) (room : List ℕ) : Type 0 where
  pub trees : Trees
  pub levels : ℕ
  pub whole : s ≡ encodes trees
  pub good : AllGood trees levels
  pub fits : at + length s ≤ length room
  pub small : length room ≤ tree_limit

-- what became of them: a refusal, or the place after them
pub data Lists (at : ℕ) (x : Read Trees) (entry exit : List ℕ) (r : Result ℕ Refusal) : Type 0 where
  stops : (n : Refusal) → x ≡ refused n → r ≡ Err n → length exit ≡ length entry → Lists at x entry exit r
  lists : (us : Trees) → x ≡ got us → r ≡ Ok (at + length (encodes us)) → Holds at (encodes us) entry exit → Lists at x entry exit r

-- what stands before the items of a Function, Array or Interval
abbrev pub name_of : Tree → List ℕ
name_of null = []
name_of unbounded = []
name_of (bool b) = []
name_of (num m s) = []
name_of (str f s) = []
name_of (date y m d) = []
name_of (timestamp y m d h i s) = []
name_of (spatial n s) = []
name_of (id s) = []
name_of (monadic o t) = []
name_of (dyadic o t u) = []
name_of (function n ts) = counted n
name_of (array ts) = []
name_of (interval t u) = []

-- What is answered of the bytes that were decided, and what is left in the lent buffer.
pub record Answers (x : Read (List ℕ)) (entry exit : List ℕ) (r : Result ℕ Refusal) : Type 0 where
  pub says : r ≡ answer x
  pub bytes : exit ≡ leaves entry x
