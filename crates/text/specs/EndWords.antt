-- The four ends of a temporal node in its record, and the texts that stand for them (src/ends.rt).
use Rattle.std.specs.Prelude.{ℕ, ◌≡◌, List, [], Bool, true, false, get_or, eqb}
use Rattle.prelude.specs.Choice.{pick}
use Rattle.tree.specs.Kinds.{UNBOUNDED, DYADIC}
use Rattle.class.specs.ClassWords.{temporal_number}
use Rattle.tree.specs.Tree.{Tree, Settings, encode, null, unbounded, kind_of}
use Rattle.tree.specs.Tests.{by_operator, is_interval, is_id, start_of, stop_of, ends_of}
use Rattle.literal.specs.declared.Writing.{Writing}
use Rattle.literal.specs.Literal.{stop_slot}
use Rattle.part.specs.PieceWords.{is_second}
use Rattle.operand.specs.Ends.{is_column}
use Rattle.operand.specs.Ends as operand_ends
use Rattle.operand.specs.declared.Operand as operand
use Rattle.operand.specs.declared.End as end
use Rattle.operand.specs.declared.End.TheVariants.{Column, Instant, Other, Open, Null}
use Rattle.text.specs.Text.{text, end_text}
use Rattle.text.specs.RecordWords.{sound, Inside, part}

-- an end in s is the tree x
abbrev pub Here : List ℕ → end.End → Tree → Type 0
Here s (Column a e) x = Inside s a e × (part s a e ≡ encode x)
Here s (Instant a e) x = Inside s a e × (part s a e ≡ encode x)
Here s (Other a e) x = Inside s a e × (part s a e ≡ encode x)
Here s Open x = x ≡ unbounded
Here s Null x = x ≡ null

abbrev pub is_open : end.End → Bool
is_open (Column a e) = false
is_open (Instant a e) = false
is_open (Other a e) = false
is_open Open = true
is_open Null = false

pub record Is (s : List ℕ) (e : end.End) (x : Tree) : Type 0 where
  pub column : is_column e ≡ is_id x
  pub opened : is_open e ≡ eqb (kind_of x) UNBOUNDED
  pub fit : sound x ≡ true
  pub here : Here s e x

-- the text that a digit of a template stands for; a first end is spelled as one that stands alone
abbrev pub slot : Writing → Settings → List Tree → ℕ → List ℕ
slot w g xs j = end_text w (stop_slot (is_second j)) (get_or xs j null) (text w g (get_or xs j null))

-- four ends are four trees
pub record Are (s : List ℕ) (e : List end.End) (xs : List Tree) : Type 0 where
  pub is0 : Is s (get_or e 0 (Column 0 0)) (get_or xs 0 null)
  pub is1 : Is s (get_or e 1 (Column 0 0)) (get_or xs 1 null)
  pub is2 : Is s (get_or e 2 (Column 0 0)) (get_or xs 2 null)
  pub is3 : Is s (get_or e 3 (Column 0 0)) (get_or xs 3 null)

-- what an operand is
pub record IsOperand (s : List ℕ) (o : operand.Operand) (x : Tree) : Type 0 where
  pub split : operand_ends.is_interval o ≡ is_interval x
  pub starts : Is s (operand_ends.start_of o) (start_of x)
  pub stops : Is s (operand_ends.stop_of o) (stop_of x)

-- a temporal node, by the numbers of kind and operator
unfoldable pub temporal_of : ℕ → ℕ → Bool
temporal_of kind op = pick (eqb kind DYADIC) (temporal_number op) false

-- the ends of a node of two operands
unfoldable pub node_ends : Tree → List Tree
node_ends = by_operator (λ t. []) (λ o t r. []) (λ o t u r s. ends_of t u)
