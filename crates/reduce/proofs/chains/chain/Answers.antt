-- `reduce::chains::chain` meets its contract: a twin first, then what is below.
use Rattle.tree.specs.Tree.{monadic}
use Rattle.reduce.proofs.ChainLaws.{one_operated, way_twin, way_chain}
use Rattle.reduce.proofs.chains.chain.Goals as goal

pub is_twin-requires : goal.is_twin-requires
is_twin-requires c = one_operated c.args.s.now c.requires.0 c.requires.1

pub returns-then-is_twin : goal.returns-then-is_twin
returns-then-is_twin c = λ o t e. way_twin o t _ (c.is_twin.ensures o t e) c.if-is_twin.true

pub returns-else-is_twin : goal.returns-else-is_twin
returns-else-is_twin c = λ o t e. way_chain o t _ _ (c.is_twin.ensures o t e) c.if-is_twin.false (c.text_below.ensures (monadic o t) e)
