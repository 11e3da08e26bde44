-- Refusal 7 as a test on the tree: document 01, "What a caller hears". An Interval stands only as a direct operand of a temporal operator,
-- an operator of 26 to 40 outside instant_or_interval has two of them, and BETWEEN and NOT BETWEEN have an Array of exactly two on the right.
use Rattle.std.specs.Prelude.{[], ◌∷◌, Bool, true}
use Rattle.prelude.specs.Choice.{pick, both, either, negated}
use Rattle.op.specs.declared.Op.{Op}
use Rattle.op.specs.declared.Op.TheVariants.{IsBetween, IsNotBetween}
use Rattle.op.specs.Op.{one_of, is_temporal, is_instant_or_interval}
use Rattle.tree.specs.Tree.{Tree, Trees, none, ◌then◌}
use Rattle.tree.specs.Tests.{children, everywhere, everywhere_in, by_operator, is_interval, is_pair}

unfoldable pub is_between : Op → Bool
is_between o = one_of o (IsBetween ∷ IsNotBetween ∷ [])

-- what an operator wants of its two sides
unfoldable pub operands : Op → Tree → Tree → Bool
operands o t u =
    pick (is_temporal o)
    (either (is_instant_or_interval o) (both (is_interval t) (is_interval u)))
    (both (negated (is_interval t)) (both (negated (is_interval u)) (either (negated (is_between o)) (is_pair u))))

-- none of some trees is an Interval
unfoldable pub no_interval : Trees → Bool
no_interval none = true
no_interval (t then ts) = both (negated (is_interval t)) (no_interval ts)

-- a node's children may stand where they do: as the two sides of an operator, or else where no Interval may stand
unfoldable pub in_place : Tree → Bool
in_place = by_operator (λ t. no_interval (children t)) (λ o t r. negated (is_interval t)) (λ o t u r s. operands o t u)

-- all below t is in its place
unfoldable pub inner : Tree → Bool
inner = everywhere in_place

-- all of some trees may stand where no Interval may, and all below them is in its place
unfoldable pub inners : Trees → Bool
inners ts = both (no_interval ts) (everywhere_in in_place ts)

-- a whole tree: its root is no direct operand
unfoldable pub placed : Tree → Bool
placed t = both (negated (is_interval t)) (inner t)
