-- `string::sequence::sequence_at` meets its contract: each `return` is a law about the sequence up to the byte that it tested last.
use mathlib.Core.Path.{sym, ◌∙◌}
use native.Mathlib.Omega.{arith}
use Prim.Native.Nat.{◌-◌}
use Rattle.string.specs.SequenceWords.{tails}
use Rattle.string.proofs.SequenceLaws.{more_most, none_heads, cut_heads, second_fails, second_passes, later_passes, heads_of, third_fails, fourth_fails}
use Rattle.string.proofs.sequence.sequence_at.Goals.{then-more-eq0-via-then-more-eq0, then-more-eq0-via-else-more-eq0+then-s-i, then-more-eq0-via-else-more-eq0+else-s-i+then-not-is_second}
use Rattle.string.proofs.sequence.sequence_at.Goals as goal

pub returns-then-more-eq0 : goal.returns-then-more-eq0
returns-then-more-eq0 c =
    elim c.then-more-eq0.branch [
      | then-more-eq0-via-then-more-eq0 w ↦ none_heads _ _ c.requires.0 c.more_after-more.ensures.1 c.requires.1 (sym c.more_after-more.ensures.0 ∙ w.if-more-eq0.true)
      | then-more-eq0-via-else-more-eq0+then-s-i w ↦ cut_heads _ _ c.requires.0 c.more_after-more.ensures.1 c.requires.1 (c.more_after-more.result - 1) (sym c.more_after-more.ensures.0 ∙ omega arith) (omega arith)
      | then-more-eq0-via-else-more-eq0+else-s-i+then-not-is_second w ↦ second_fails _ _ c.requires.0 c.more_after-more.ensures.1 c.requires.1 (c.more_after-more.result - 1) (sym c.more_after-more.ensures.0 ∙ omega arith) (omega arith) (sym w.is_second.ensures ∙ w.if-not-is_second.true)
    ]

pub returns-then-more-eq1 : goal.returns-then-more-eq1
unfolding tails
returns-then-more-eq1 c = heads_of _ _ _ (omega arith) (second_passes _ _ c.requires.0 c.more_after-more.ensures.1 c.requires.1 0 (sym c.more_after-more.ensures.0 ∙ omega arith) (omega arith) (sym c.is_second.ensures ∙ c.if-not-is_second.false))

pub returns-then-not-is_tail : goal.returns-then-not-is_tail
returns-then-not-is_tail c = third_fails _ _ c.requires.0 c.more_after-more.ensures.1 c.requires.1 (omega arith) (sym c.is_second.ensures ∙ c.if-not-is_second.false) (c.more_after-more.result - 2) (sym c.more_after-more.ensures.0 ∙ omega arith) (sym c.is_tail.ensures ∙ c.if-not-is_tail.true)

pub returns-then-more-eq2 : goal.returns-then-more-eq2
unfolding tails
returns-then-more-eq2 c = heads_of _ _ _ (omega arith) (later_passes _ _ 2 0 (second_passes _ _ c.requires.0 c.more_after-more.ensures.1 c.requires.1 1 (sym c.more_after-more.ensures.0 ∙ omega arith) (omega arith) (sym c.is_second.ensures ∙ c.if-not-is_second.false)) (omega arith) (sym c.is_tail.ensures ∙ c.if-not-is_tail.false))

pub returns-then-not-is_tail-2 : goal.returns-then-not-is_tail-2
returns-then-not-is_tail-2 c = fourth_fails _ _ c.requires.0 c.more_after-more.ensures.1 c.requires.1 (omega arith) (sym c.is_second.ensures ∙ c.if-not-is_second.false) (sym c.more_after-more.ensures.0 ∙ omega (arith, more_most _ c.more_after-more.ensures.0)) (sym c.is_tail.ensures ∙ c.if-not-is_tail.false) (omega arith) (sym c.is_tail-2.ensures ∙ c.if-not-is_tail-2.true)

pub returns : goal.returns
unfolding tails
returns c = heads_of _ _ _ (omega arith) (later_passes _ _ 3 0 (later_passes _ _ 2 1 (second_passes _ _ c.requires.0 c.more_after-more.ensures.1 c.requires.1 2 (sym c.more_after-more.ensures.0 ∙ omega (arith, more_most _ c.more_after-more.ensures.0)) (omega arith) (sym c.is_second.ensures ∙ c.if-not-is_second.false)) (omega arith) (sym c.is_tail.ensures ∙ c.if-not-is_tail.false)) (omega arith) (sym c.is_tail-2.ensures ∙ c.if-not-is_tail-2.false))
