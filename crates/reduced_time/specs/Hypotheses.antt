-- Where reducing is to keep the truth: document 02, slip 8: "On a time filter that reducing accepts, without Null or a lone Unbounded, its written
-- instants all dates or all timestamps". What a time filter is: specs/Filter.antt of time.
use Rattle.std.specs.Prelude.{ℕ, Bool, true, eqb}
use Rattle.prelude.specs.Choice.{both, either, negated}
use Rattle.op.specs.Op.{is_temporal}
use Rattle.tree.specs.Kinds.{NULL, DATE, TIMESTAMP}
use Rattle.tree.specs.Tree.{Tree, kind_of}
use Rattle.tree.specs.Tests.{everywhere, by_operator}

-- a node is not of this kind
abbrev pub is_not : ℕ → Tree → Bool
is_not k t = negated (eqb (kind_of t) k)

-- no node of a tree is of this kind
unfoldable pub lacks : ℕ → Tree → Bool
lacks k = everywhere (is_not k)

-- "without Null"
abbrev pub without_null : Tree → Bool
without_null = lacks NULL

-- "its written instants all dates or all timestamps"
unfoldable pub of_one_width : Tree → Bool
of_one_width t = either (lacks TIMESTAMP t) (lacks DATE t)

-- Less than "without Null": a temporal operator has no operand of this kind, which then stands alone. An Interval's end may be one, and a filter.
unfoldable pub besides : ℕ → Tree → Bool
besides k = by_operator (λ t. true) (λ o t r. true) (λ o t u r s. either (negated (is_temporal o)) (both (is_not k t) (is_not k u)))

unfoldable pub no_lone : ℕ → Tree → Bool
no_lone k = everywhere (besides k)
