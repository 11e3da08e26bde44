-- `lexer::past` meets its contract: the run from i on ends where the run from `at` on ends.
use mathlib.Core.Path.{refl, sym, ◌∙◌}
use native.Mathlib.Omega.{arith}
use Rattle.lexer.specs.LexLaws.{run_go, run_stop, run_end}
use Rattle.charset.specs.ClassWords.{class_byte}
use Rattle.lexer.proofs.past.Goals as goal

pub loop-i-init : goal.loop-i-init
loop-i-init c = (c.requires, omega arith, refl)

pub loop-i-preserved : goal.loop-i-preserved
loop-i-preserved c = (omega arith, omega arith, sym (run_go (class_byte c.args.class) c.args.s.now _ c.loop-i-test.true (sym c.is_of.ensures ∙ c.if-is_of.true)) ∙ c.loop-i.invariant.2)

pub returns-else-is_of : goal.returns-else-is_of
returns-else-is_of c = (c.loop-i.invariant.0, c.loop-i.invariant.1, sym (run_stop (class_byte c.args.class) c.args.s.now _ c.loop-i-test.true (sym c.is_of.ensures ∙ c.if-is_of.false)) ∙ c.loop-i.invariant.2)

pub returns-after-loop-i : goal.returns-after-loop-i
returns-after-loop-i c = (c.loop-i.invariant.0, c.loop-i.invariant.1, sym (run_end (class_byte c.args.class) c.args.s.now _ c.loop-i-test.false) ∙ c.loop-i.invariant.2)
