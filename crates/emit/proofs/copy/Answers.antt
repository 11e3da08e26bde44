-- One byte more of s is written.
use Rattle.std.proofs.Common.{List, ℕ, ◌+◌, get_or, set, arith, ap, sym, ◌∙◌}
use Rattle.emit.specs.EmitLaws.{sets_more}
use Rattle.emit.proofs.copy.Goals as goal

pub loop-i-preserved : goal.loop-i-preserved
loop-i-preserved c =
    let a = c.args in
    let l = c.loop-i in
    ap (λ (x : List ℕ). set x (a.at + l.i) (get_or a.s.now l.i 0)) l.invariant ∙ sym (sets_more a.s.now a.out.now a.at l.i (omega arith))
