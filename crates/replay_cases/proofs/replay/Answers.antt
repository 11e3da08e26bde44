-- `replay_cases::replay` meets its contract: each turn counts one case more.
use Rattle.std.proofs.Common.{rules, ◌∙◌, sym, ap, subst, Ok}
use Rattle.input.specs.Part.{AreRead}
use Rattle.replay_cases.proofs.CountedLaws.{none_more, one_counted}
use Rattle.replay_cases.proofs.replay.Goals.{in-Ok-true, in-Err}
use Rattle.replay_cases.proofs.replay.Goals as goal

pub returns-in-Ok-false : goal.returns-in-Ok-false
returns-in-Ok-false g c = c.loop.invariant _ (none_more (g.K.Kind.judges c.args.kind.now) c.loop.tally)

pub returns-in_default : goal.returns-in_default
returns-in_default g c = c.loop.invariant _ (none_more (g.K.Kind.judges c.args.kind.now) c.loop.tally)

pub loop-preserved : goal.loop-preserved
loop-preserved g c =
    elim c.match-read_case.branch [
      | in-Ok-true w ↦
          let read : AreRead c.read_case.new.parts = c.read_case.ensures (w.in-Ok-true.is ∙ ap Ok w.in-Ok-true.field-0-test) in
          let judged = subst (g.K.Kind.judges c.args.kind.now c.loop.tally.done c.read_case.new.parts) (sym w.case-is ∙ c.in-Some.is) w.judged-case.ensures in
          λ end more. c.loop.invariant end (one_counted (g.K.Kind.judges c.args.kind.now) c.loop.tally c.count.new.self c.read_case.new.parts c.in-Some.field-0 read judged c.count.ensures.done c.count.ensures.counts end more)
      | in-Err w ↦ search rules
    ]

pub returns : goal.returns
returns g c = c.loop.invariant _ (none_more (g.K.Kind.judges c.args.kind.now) c.loop.tally)
