-- Each room is as long as its trees can be.
use native.Mathlib.Omega.{arith}
use Rattle.reduce.proofs.AnswerLaws.{room-placed}
use Rattle.reduce.proofs.reduce_accepted.Goals as goal

pub reduce_in-requires : goal.reduce_in-requires
reduce_in-requires c = room-placed 1024 c.requires.0 c.if-tree-le-SMALL.true (omega arith)

pub reduce_in-requires-2 : goal.reduce_in-requires-2
reduce_in-requires-2 c = room-placed 32768 c.requires.0 c.requires.1 (omega arith)
