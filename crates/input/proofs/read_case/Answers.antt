-- `input::read_case` meets its contract: the parts before the one that is due were read.
use Rattle.std.proofs.Common.{◌∙◌, ap, Ok, arith}
use Rattle.std.proofs.lemmas.List.{length-set}
use Rattle.input.proofs.PartLaws.{one_more}
use Rattle.input.proofs.read_case.Goals as goal

pub loop-i-preserved : goal.loop-i-preserved
loop-i-preserved g c =
    (length-set _ _ _ ∙ c.loop-i.invariant.0, one_more c.loop-i.parts c.loop-i.i _ (omega (arith, c.loop-i-test.true, c.loop-i.invariant.0, c.told-parts)) c.loop-i.invariant.1 (c.read.ensures (c.in_ok-read.was ∙ ap Ok c.if-not-branch.false)))

pub returns : goal.returns
returns g c = λ _ k d h. c.loop-i.invariant.1 k d (omega (arith, h, c.loop-i-test.false, c.loop-i.invariant.0, c.told-parts))
