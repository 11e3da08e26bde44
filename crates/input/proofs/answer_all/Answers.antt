-- `input::answer_all` meets its contract: each turn answers one case more.
use Rattle.std.proofs.Common.{rules, of_calls, ◌∙◌, ap, subst, Ok, refl}
use Rattle.std.specs.Fn.{Called}
use Rattle.input.proofs.AnsweredLaws.{anyway, none_yet, one_answered}
use Rattle.input.proofs.answer_all.Goals as goal

pub returns-in-Ok-false : goal.returns-in-Ok-false
returns-in-Ok-false g c = (c.loop.answer, c.loop.invariant.1 c.loop.answer (none_yet _ c.loop.answer))

pub returns-in-Err : goal.returns-in-Err
returns-in-Err g c = anyway c.println.result (c.loop.answer, c.loop.invariant.1 c.loop.answer (none_yet _ c.loop.answer))

pub loop-preserved : goal.loop-preserved
loop-preserved g c =
    let called = subst (λ r. Called g.F.FnMut c.loop.answer (c.texts.result.0, (c.texts.result.1, tt)) r c.answer.new.self) c.in_ok-answer-in-Ok-true.was c.answer.ensures in
    let read = c.read_case.ensures (c.in-Ok-true.is ∙ ap Ok c.in-Ok-true.field-0-test) in
    (search (rules, of_calls), λ last more. c.loop.invariant.1 last (one_answered _ c.loop.answer c.answer.new.self c.read_case.new.parts c.texts.result.0.now c.texts.result.1.now read c.texts.ensures (record { first = c.texts.result.0; second = c.texts.result.1; shows = (refl, refl); called = called }) last more))

pub returns : goal.returns
returns g c = (c.loop.answer, c.loop.invariant.1 c.loop.answer (none_yet _ c.loop.answer))
