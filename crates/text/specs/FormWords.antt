-- What stands around the operands of a node (src/forms.rt): before and after one operand, between two, around a side whose precision is reduced.
use Rattle.std.specs.Prelude.{ℕ, ◌+◌, ◌-◌, List, [], ◌∷◌, ◌++◌, Bool, true, false, eqb}
use Rattle.prelude.specs.Choice.{pick}
use Rattle.prelude.specs.Bytes.{bytes}
use Rattle.op.specs.declared.Op.{Op}
use Rattle.op.specs.declared.Op.TheVariants.{Minus, Neg, CaseI, AccentI}
use Rattle.op.specs.Op.{op_number, one_of, is_nullable}
use Rattle.tree.specs.Kinds.{MONADIC}
use Rattle.tree.specs.Tree.{Tree, Trees, Settings, none}
use Rattle.tree.specs.Tests.{first, children, is_items, is_literal_or_id, is_monadic}
use Rattle.literal.specs.Literal.{decimal, collate}
use Rattle.class.specs.ClassWords.{array_number, like_number, nullable_number, sign_number}
use Rattle.settings.specs.FlagWords.{collation_flags}
use Rattle.text.specs.LeafWords.{name_of}

-- CaseI over AccentI or AccentI over CaseI
unfoldable pub twin : Op → Tree → Bool
twin o t =
    pick (is_nullable o) false
    (pick (one_of o (Neg ∷ Minus ∷ [])) false
    (pick (one_of o (CaseI ∷ [])) (is_monadic AccentI t) (is_monadic CaseI t)))

-- the operand of a monadic node; the items of an array
unfoldable pub under_of : Tree → Tree
under_of t = first (children t)

unfoldable pub items_of : Tree → Trees
items_of t = pick (is_items t) (children t) none

-- what is written of a monadic node's operand: its own, or under a twin the twin's
unfoldable pub operand_of : Op → Tree → Tree
operand_of o t = pick (twin o t) (under_of t) t

-- 1E-p
abbrev pub precise : ℕ → List ℕ
precise p = bytes "1E-" ++ decimal p

-- a twin by the numbers of the operator above, of the kind below and of the operator below
abbrev pub twin_of : ℕ → ℕ → ℕ → Bool
twin_of op kind inner =
    pick (nullable_number op) false
    (pick (eqb op (op_number Neg)) false
    (pick (eqb op (op_number Minus)) false
    (pick (eqb kind MONADIC) (pick (eqb op (op_number CaseI)) (eqb inner (op_number AccentI)) (eqb inner (op_number CaseI))) false)))

-- which of them are written without brackets
unfoldable pub left_bare : ℕ → Tree → Bool
left_bare op t = pick (array_number op) true (is_literal_or_id t)

unfoldable pub right_bare : ℕ → Tree → Bool
right_bare op u = pick (array_number op) true (pick (like_number op) false (is_literal_or_id u))

-- the operator, with the brackets that close the left and open the right side
unfoldable pub infix_text : Bool → List ℕ → Bool → List ℕ
infix_text a w b = pick a (bytes " ") (bytes ") ") ++ (w ++ pick b (bytes " ") (bytes " ("))

-- what stands before and after the operand of a monadic node: by the operator's number and word, whether the operand is bare, and whether it has a twin
unfoldable pub before_text : ℕ → List ℕ → Bool → List ℕ
before_text op w b =
    pick (nullable_number op) (pick b [] (bytes "("))
    (pick (sign_number op) (w ++ pick b (bytes " ") (bytes " (")) [])

unfoldable pub behind_text : Settings → ℕ → List ℕ → Bool → Bool → List ℕ
behind_text g op w b d =
    pick (nullable_number op) (pick b (bytes " ") (bytes ") ") ++ w)
    (pick (sign_number op) (pick b [] (bytes ")")) (collate (name_of g (collation_flags op d))))

-- what closes a side whose precision is reduced: , 1E-p)
abbrev pub reduced_text : ℕ → List ℕ
reduced_text p = bytes ", 1E-" ++ (decimal p ++ bytes ")")
