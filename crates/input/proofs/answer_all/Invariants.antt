-- `input::answer_all` meets its contract: what is answered after the calls so far is answered from the start.
use Rattle.std.proofs.Common.{Ok}
use Rattle.std.specs.Fn.{CalledAtTwo}
use denote.Param.Always.{always_mut}
use Rattle.input.specs.Answered.{AnswersCases}
use Rattle.input.proofs.answer_all.Given as goal

abbrev pub invariant-loop : goal.invariant-loop
invariant-loop g l =
    (always_mut g.F.FnMut l.initial.answer → always_mut g.F.FnMut l.answer)
    × ((last : _) → AnswersCases (λ f x y h. CalledAtTwo g.F.FnMut f x y (Ok tt) h) l.answer last → AnswersCases (λ f x y h. CalledAtTwo g.F.FnMut f x y (Ok tt) h) l.initial.answer last)
