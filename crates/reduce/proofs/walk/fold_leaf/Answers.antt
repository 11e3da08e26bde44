-- What is written is the record itself, and its reader knows its sort.
use Rattle.reduce.proofs.LeafLaws.{leaf-stays}
use Rattle.reduce.proofs.walk.fold_leaf.Goals as goal

pub returns : goal.returns
returns c = λ t n e g f h. leaf-stays c.args.at t e f h c.requires.fits c.put-end.ensures (c.leaf_sort.ensures t n e g f h)
