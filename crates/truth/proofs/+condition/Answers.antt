-- The cycle: OR-expressions, ANDs, NOTs, tests and brackets. Each answer is one law of proofs/Steps.antt; the brackets that may still open fall.
use native.Mathlib.Omega.{arith}
use Rattle.truth.specs.PlaceWords.{cols_of}
use Rattle.lexer.specs.declared.Kind.TheVariants.{Open, Close, Not, And, Or}
use Rattle.lexer.proofs.Arms.{differs, agrees, yes, no}
use Rattle.truth.proofs.Steps.{or_level, and_level, start, start_bad, stopped, go, go_bad, closer, halt_start, halt_stop, halt_go, halt_closer, halt_bad, turn_start, turn_go, turn_stop, turn_bad, turn_ahead, plain, deep, inner_bad, unclosed, closed}
use Rattle.truth.proofs.+condition.Goals as goal

pub read_and-returns-in_err-left : goal.read_and-returns-in_err-left
read_and-returns-in_err-left t c = rw c.from_residual.ensures (start_bad (cols_of c.args.row.now) c.args.text.now (and_level (cols_of c.args.row.now) c.args.depth) c.args.at (omega arith) (rw c.in_err-left.was at c.read_not.ensures))

pub read_and-loop-left-init : goal.read_and-loop-left-init
read_and-loop-left-init t c = start (cols_of c.args.row.now) c.args.text.now (and_level (cols_of c.args.row.now) c.args.depth) c.args.at (omega arith) (rw c.in_ok-left.was at c.read_not.ensures)

pub read_and-returns-then-ne : goal.read_and-returns-then-ne
read_and-returns-then-ne t c = stopped (cols_of c.args.row.now) c.args.text.now (and_level (cols_of c.args.row.now) c.args.depth) c.args.at (omega arith) c.loop-left.invariant c.token-t.ensures (differs And c.ne.ensures c.if-ne.true)

pub read_and-returns-in_err-right : goal.read_and-returns-in_err-right
read_and-returns-in_err-right t c = rw c.from_residual-in_err-right.ensures (go_bad (cols_of c.args.row.now) c.args.text.now (and_level (cols_of c.args.row.now) c.args.depth) c.args.at (omega arith) c.loop-left.invariant c.token-t.ensures (agrees And c.ne.ensures c.if-ne.false) (rw c.in_err-right.was at c.read_not-in-loop-left.ensures))

pub read_and-loop-left-smaller : goal.read_and-loop-left-smaller
read_and-loop-left-smaller t c = closer (cols_of c.args.row.now) c.args.text.now (and_level (cols_of c.args.row.now) c.args.depth) c.args.at (omega arith) c.loop-left.invariant c.token-t.ensures (agrees And c.ne.ensures c.if-ne.false) (rw c.in_ok-right.was at c.read_not-in-loop-left.ensures)

pub read_and-loop-left-preserved : goal.read_and-loop-left-preserved
read_and-loop-left-preserved t c = rw c.and_of.ensures (go (cols_of c.args.row.now) c.args.text.now (and_level (cols_of c.args.row.now) c.args.depth) c.args.at (omega arith) c.loop-left.invariant c.token-t.ensures (agrees And c.ne.ensures c.if-ne.false) (rw c.in_ok-right.was at c.read_not-in-loop-left.ensures))

pub read_not-loop-t-init : goal.read_not-loop-t-init
read_not-loop-t-init t c = turn_start (cols_of c.args.row.now) c.args.text.now c.args.depth c.args.at (omega arith)

pub read_not-returns-in_err-step : goal.read_not-returns-in_err-step
read_not-returns-in_err-step t c = rw c.from_residual.ensures (turn_bad (cols_of c.args.row.now) c.args.text.now c.args.depth c.args.at c.loop-t.invariant c.token-t.ensures (differs Not c.ne.ensures c.if-ne.true) (rw c.in_err-step.was at c.read_test.ensures))

pub read_not-returns-then-not-flip : goal.read_not-returns-then-not-flip
read_not-returns-then-not-flip t c = rw c.if-not-flip.true at (turn_stop (cols_of c.args.row.now) c.args.text.now c.args.depth c.args.at c.loop-t.invariant c.token-t.ensures (differs Not c.ne.ensures c.if-ne.true) (rw c.in_ok-step.was at c.read_test.ensures))

pub read_not-returns-then-ne : goal.read_not-returns-then-ne
read_not-returns-then-ne t c = rw c.not_of.ensures (rw c.if-not-flip.false at (turn_stop (cols_of c.args.row.now) c.args.text.now c.args.depth c.args.at c.loop-t.invariant c.token-t.ensures (differs Not c.ne.ensures c.if-ne.true) (rw c.in_ok-step.was at c.read_test.ensures)))

pub read_not-loop-t-smaller : goal.read_not-loop-t-smaller
read_not-loop-t-smaller t c = omega (arith, turn_ahead (cols_of c.args.row.now) c.args.text.now c.args.depth c.args.at c.loop-t.invariant c.token-t.ensures (agrees Not c.ne.ensures c.if-ne.false))

pub read_not-loop-t-preserved : goal.read_not-loop-t-preserved
read_not-loop-t-preserved t c = turn_go (cols_of c.args.row.now) c.args.text.now c.args.depth c.args.at c.loop-t.invariant c.token-t.ensures (agrees Not c.ne.ensures c.if-ne.false)

pub read_or-returns-in_err-left : goal.read_or-returns-in_err-left
read_or-returns-in_err-left t c = rw c.from_residual.ensures (start_bad (cols_of c.args.row.now) c.args.text.now (or_level (cols_of c.args.row.now) c.args.depth) c.args.at (omega arith) (rw c.in_err-left.was at c.read_and.ensures))

pub read_or-loop-left-init : goal.read_or-loop-left-init
read_or-loop-left-init t c = halt_start (cols_of c.args.row.now) c.args.text.now (or_level (cols_of c.args.row.now) c.args.depth) c.args.at (omega arith) (rw c.in_ok-left.was at c.read_and.ensures)

pub read_or-returns-in_err-right : goal.read_or-returns-in_err-right
read_or-returns-in_err-right t c = rw c.from_residual-in_err-right.ensures (halt_bad (cols_of c.args.row.now) c.args.text.now (or_level (cols_of c.args.row.now) c.args.depth) c.args.at (omega arith) c.loop-left.invariant (yes Or c.eq.ensures c.loop-left-test.true) (rw c.in_err-right.was at c.read_and-in-loop-left.ensures))

pub read_or-loop-left-smaller : goal.read_or-loop-left-smaller
read_or-loop-left-smaller t c = halt_closer (cols_of c.args.row.now) c.args.text.now (or_level (cols_of c.args.row.now) c.args.depth) c.args.at (omega arith) c.loop-left.invariant (yes Or c.eq.ensures c.loop-left-test.true) (rw c.in_ok-right.was at c.read_and-in-loop-left.ensures)

pub read_or-loop-left-preserved : goal.read_or-loop-left-preserved
read_or-loop-left-preserved t c = rw c.or_of.ensures (halt_go (cols_of c.args.row.now) c.args.text.now (or_level (cols_of c.args.row.now) c.args.depth) c.args.at (omega arith) c.loop-left.invariant (yes Or c.eq.ensures c.loop-left-test.true) (rw c.in_ok-right.was at c.read_and-in-loop-left.ensures))

pub read_or-returns : goal.read_or-returns
read_or-returns t c = halt_stop (cols_of c.args.row.now) c.args.text.now (or_level (cols_of c.args.row.now) c.args.depth) c.args.at (omega arith) c.loop-left.invariant (no Or c.eq.ensures c.loop-left-test.false)

pub read_test-returns-then-ne : goal.read_test-returns-then-ne
read_test-returns-then-ne t c = plain (cols_of c.args.row.now) c.args.text.now c.args.depth c.args.at c.requires.0 (differs Open c.ne.ensures c.if-ne.true) c.read_simple.result c.read_simple.ensures

pub read_test-returns-then-depth-eq0 : goal.read_test-returns-then-depth-eq0
read_test-returns-then-depth-eq0 t c = deep (cols_of c.args.row.now) c.args.text.now c.args.depth c.args.at c.requires.0 (agrees Open c.ne.ensures c.if-ne.false) c.if-depth-eq0.true

pub read_test-returns-in_err-inner : goal.read_test-returns-in_err-inner
read_test-returns-in_err-inner t c = rw c.from_residual.ensures (inner_bad (cols_of c.args.row.now) c.args.text.now c.args.depth c.args.at c.requires.0 (agrees Open c.ne.ensures c.if-ne.false) c.if-depth-eq0.false (rw c.in_err-inner.was at c.read_or.ensures))

pub read_test-returns-then-ne-2 : goal.read_test-returns-then-ne-2
read_test-returns-then-ne-2 t c = unclosed (cols_of c.args.row.now) c.args.text.now c.args.depth c.args.at c.requires.0 (agrees Open c.ne.ensures c.if-ne.false) c.if-depth-eq0.false (rw c.in_ok-inner.was at c.read_or.ensures) (differs Close c.ne-2.ensures c.if-ne-2.true)

pub read_test-returns : goal.read_test-returns
read_test-returns t c = closed (cols_of c.args.row.now) c.args.text.now c.args.depth c.args.at c.requires.0 (agrees Open c.ne.ensures c.if-ne.false) c.if-depth-eq0.false (rw c.in_ok-inner.was at c.read_or.ensures) (agrees Close c.ne-2.ensures c.if-ne-2.false)
