-- What demand 3 claims: of two answers that they are alike or opposite, of thirteen that exactly one is true and the other twelve are false; and
-- the three sentences of the demand, over texts that lowering answers and over reading's answers on them (document 01, "Truth"; document 02,
-- slips 4 and 7, for the second call's texts and another caller's).
use Rattle.std.specs.Prelude.{ℕ, ◌≡◌, List, true, ◌↔◌}
use Rattle.op.specs.declared.Op.{Op}
use Rattle.op.specs.declared.Op.TheVariants.{TDisjoint, TIntersects}
use Rattle.op.specs.Op.{op_number, one_of}
use Rattle.tree.specs.Tree.{Tree, dyadic, interval}
use Rattle.literal.specs.declared.Writing.{Writing}
use Rattle.row.specs.Row.{Column}
use Rattle.truth.specs.Reading.{says_true, says_false, says_unknown, reading_of}
use Rattle.time.specs.Filter.{is_operand, time_filter}
use Rattle.time.specs.FilterTruth.{holds, columns_non_null, proper}
use Rattle.time.specs.Converse.{Turned, thirteen}
use Rattle.time.specs.Accepted.{Lowers, IsRow}

-- both are true, both false, or both unknown
pub data Alike {A : Type 0} (yes no unknown r s : A) : Type 0 where
  both_yes : r ≡ yes → s ≡ yes → Alike yes no unknown r s
  both_no : r ≡ no → s ≡ no → Alike yes no unknown r s
  both_unknown : r ≡ unknown → s ≡ unknown → Alike yes no unknown r s

-- r is true exactly when s is false, false exactly when s is true, and unknown exactly when s is unknown
pub record Opposite {A : Type 0} (yes no unknown r s : A) : Type 0 where
  pub when_true : (r ≡ yes) ↔ (s ≡ no)
  pub when_false : (r ≡ no) ↔ (s ≡ yes)
  pub when_unknown : (r ≡ unknown) ↔ (s ≡ unknown)

-- answer says of each operator what its predicate comes to
pub record ExactlyOne {A : Type 0} (yes no : A) (answer : Op → A) : Type 0 where
  pub which : Op
  pub among_them : one_of which thirteen ≡ true
  pub is_true : answer which ≡ yes
  pub others_false : (q : Op) → one_of q thirteen ≡ true → (op_number q ≡ op_number which → ⊥) → answer q ≡ no

-- Demand 3, over either writing, the same for all texts that are compared (document 02, slip 4); each text may be any caller's (slip 7).
pub record Demand3 : Type 0 where
  -- "Whatever time filter an integrator composes, whatever row holds its columns, and whichever of its temporal predicates, one, some or all, are
  -- replaced by their converses with operands exchanged: the texts before and after read alike on that row, if both filters are accepted."
  pub converses : {w : Writing} {t t' : Tree} {x x' row : List ℕ} {cs : List Column} → Turned t t' → Lowers w t x → Lowers w t' x' → time_filter t ≡ true
      → IsRow row cs → holds cs t ≡ true → Alike says_true says_false says_unknown (reading_of x row) (reading_of x' row)
  -- "For whichever two operands a time filter allows a temporal operator, and whatever row holds their columns, none of these NULL, TDisjoint's text
  -- reads true exactly when that of TIntersects reads false, false exactly when it reads true, and unknown exactly when it reads unknown, if both
  -- are accepted." A row holds the columns that are not NULL on it.
  pub complement : {w : Writing} {t u : Tree} {x x' row : List ℕ} {cs : List Column} → Lowers w (dyadic TDisjoint t u) x → Lowers w (dyadic TIntersects t u) x'
      → is_operand t ≡ true → is_operand u ≡ true → IsRow row cs → columns_non_null cs t ≡ true → columns_non_null cs u ≡ true
      → Opposite says_true says_false says_unknown (reading_of x row) (reading_of x' row)
  -- "Where both operands are intervals, and whatever row holds their columns with the four ends non-null and each start below its end, exactly one of
  -- the texts of Allen's thirteen predicates reads true and the other twelve false, if all thirteen are accepted." A row holds the columns of ends
  -- that are non-null on it.
  pub thirteen-apart : {w : Writing} {a b c d : Tree} {row : List ℕ} {cs : List Column} (x : Op → List ℕ)
      → ((o : Op) → one_of o thirteen ≡ true → Lowers w (dyadic o (interval a b) (interval c d)) (x o))
      → is_operand (interval a b) ≡ true → is_operand (interval c d) ≡ true → IsRow row cs
      → proper w cs a b ≡ true → proper w cs c d ≡ true → ExactlyOne says_true says_false (λ o. reading_of (x o) row)
