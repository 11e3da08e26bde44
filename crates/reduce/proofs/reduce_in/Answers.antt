-- What the walk wrote into the room is copied if the buffer has room for it.
use mathlib.Core.Path.{ap, ◌∙◌}
use native.Mathlib.Omega.{arith}
use Rattle.std.specs.Prelude.{Err}
use Rattle.std.proofs.lemmas.Result.{err_from_is_err_and}
use Rattle.reduce.proofs.AnswerLaws.{clash_answers, end_fits, end_whole, short_answers, whole_answers}
use Rattle.reduce.proofs.reduce_in.Goals as goal

pub returns-in_err-end : goal.returns-in_err-end
returns-in_err-end c = λ t n e g. let p = err_from_is_err_and c.from_residual.result c.from_residual.ensures.1 in clash_answers _ (c.in_err-end.ensures t n e g) (p.1 ∙ ap Err p.2)

pub returns-then-out-end : goal.returns-then-out-end
returns-then-out-end c = λ t n e g. short_answers (c.in_ok-end.ensures t n e g) _ c.if-out-end.true

pub slice_bounds-put-end : goal.slice_bounds-put-end
slice_bounds-put-end c = let a = c.requires.of in let h = end_fits (c.in_ok-end.ensures a.tree a.levels a.whole a.good) in omega (arith, h, c.fold.auto.room)

pub slice_bounds-put-end-2 : goal.slice_bounds-put-end-2
slice_bounds-put-end-2 c = let a = c.requires.of in let h = end_whole (c.in_ok-end.ensures a.tree a.levels a.whole a.good) in omega (arith, h)

pub returns : goal.returns
returns c = λ t n e g. whole_answers (c.in_ok-end.ensures t n e g) _ _ (omega (arith, c.if-out-end.false)) c.requires.small c.put.ensures
