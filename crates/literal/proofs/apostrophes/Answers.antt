-- Each apostrophe that is counted is one byte more.
use Rattle.std.proofs.Common.{◌+◌, ℕ, count_by, eqb, length, arith, ap, sym, ◌∙◌, take_all}
use Rattle.prelude.specs.Bytes.{apostrophe}
use Rattle.literal.proofs.DoubledLaws.{length-doubled}
use Rattle.literal.proofs.apostrophes.Goals as goal

pub returns : goal.returns
returns c =
    let s = c.args.s.now in
    let l = c.loop-b in
    let e = l.invariant ∙ ap (count_by (λ (b : ℕ). eqb b apostrophe)) (take_all l.b-index s (omega arith)) in
    length-doubled s ∙ ap (λ (n : ℕ). length s + n) (sym e)
