-- A node with operands, and a bound of BETWEEN, in a record (src/nodes.rt).
use Rattle.std.specs.Prelude.{ℕ, ◌≡◌, List, true, length}
use Rattle.op.specs.declared.Op.{Op}
use Rattle.op.specs.Op.{op_number}
use Rattle.tree.specs.Tree.{Tree, encode, null, monadic, dyadic}
use Rattle.text.specs.RecordWords.{sound, part, Stands}

-- a bound of BETWEEN from a to z, or NULL if nothing stands there
pub data Bound (s : List ℕ) (a z : ℕ) : Tree → Type 0 where
  gone : a ≡ z → Bound s a z null
  item : (x : Tree) → part s a z ≡ encode x → sound x ≡ true → Bound s a z x

-- s is the record of a node with operands, of this kind and operator, whose second operand, if it has two, starts at m
pub data Node (s : List ℕ) (kind op m : ℕ) : Tree → Type 0 where
  one : (o : Op) (t : Tree) → kind ≡ 9 → op ≡ op_number o → s ≡ encode (monadic o t) → sound t ≡ true → Node s kind op m (monadic o t)
  two : (o : Op) (t u : Tree) → kind ≡ 10 → op ≡ op_number o → Stands s 8 m t → Stands s m (length s) u → Node s kind op m (dyadic o t u)
