-- The bytes before this one are laid, each apostrophe twice.
use Rattle.std.proofs.Common.{arith, get_or, length-set}
use Rattle.literal.proofs.DoubledLaws.{laid_start, laid_room, laid_second, laid_mark, laid_other, laid_end, laid_place}
use Rattle.literal.proofs.copy_doubled.Goals as goal
use Rattle.literal.proofs.copy_doubled.Goals.{then-b-eq39, else-b-eq39}

pub loop-b-init : goal.loop-b-init
loop-b-init c = laid_start _ _ _

pub bounds-out-to : goal.bounds-out-to
bounds-out-to c = laid_room c.loop-b.invariant (omega arith) c.requires

pub overflow_add-to : goal.overflow_add-to
overflow_add-to c = let r = laid_room c.loop-b.invariant (omega arith) c.requires in omega arith

pub bounds-out-to-then-b-eq39 : goal.bounds-out-to-then-b-eq39
bounds-out-to-then-b-eq39 c = let n = length-set c.loop-b.out c.loop-b.to (get_or c.args.s.now c.loop-b.b-index 0) in let r = laid_second c.loop-b.invariant (omega arith) c.if-b-eq39.true c.requires in omega arith

pub overflow_add-to-then-b-eq39 : goal.overflow_add-to-then-b-eq39
overflow_add-to-then-b-eq39 c = let r = laid_second c.loop-b.invariant (omega arith) c.if-b-eq39.true c.requires in omega arith

pub loop-b-preserved : goal.loop-b-preserved
loop-b-preserved c =
    elim c.if-b-eq39.branch [
      | then-b-eq39 w ↦ rw (w.out-is, w.to-is) (laid_mark c.loop-b.invariant (omega arith) w.if-b-eq39.true)
      | else-b-eq39 w ↦ rw (w.out-is, w.to-is) (laid_other c.loop-b.invariant (omega arith) w.if-b-eq39.false)
    ]

pub returns-clause-text : goal.returns-clause-text
returns-clause-text c = laid_end c.loop-b.invariant (omega arith)

pub returns-clause-end : goal.returns-clause-end
returns-clause-end c = laid_place c.loop-b.invariant (omega arith)
