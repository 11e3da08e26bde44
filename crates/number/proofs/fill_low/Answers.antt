-- The digits of what is left, then those written, are the digits of n.
use Rattle.std.proofs.Common.{◌≡◌, ℕ, ◌-◌, ◌/◌, ◌^◌, List, ◌++◌, length, append-nil, arith, ap, sym, ◌∙◌, div-one}
use Rattle.std.proofs.Math.Seq.{drop-length}
use Rattle.literal.specs.Literal.{low}
use Rattle.number.proofs.Laws.{low-more, low_none, tenth}
use Rattle.number.proofs.fill_low.Goals as goal

pub loop-k-init : goal.loop-k-init
loop-k-init c =
    let a = c.args in (
      ap (λ (x : List ℕ). low (length a.part.now) a.n ++ x) (drop-length a.part.now) ∙ append-nil _,
      (let z : length a.part.now - length a.part.now ≡ 0 = omega arith in rw z (sym (div-one a.n))),
    )

pub loop-k-preserved : goal.loop-k-preserved
loop-k-preserved c =
    let a = c.args in
    let l = c.loop-k in (
      rw c.digit_of.ensures (low-more l.k l.rest l.part (omega arith) (omega arith) ∙ l.invariant.0),
      ap (λ (x : ℕ). x / 10) l.invariant.1 ∙ tenth a.n (length a.part.now) l.k (omega arith) (omega arith),
    )

pub returns-clause-text : goal.returns-clause-text
returns-clause-text c = let l = c.loop-k in low_none l.k l.rest l.part (omega arith) ∙ l.invariant.0

pub returns-clause-rest : goal.returns-clause-rest
returns-clause-rest c =
    let n = length c.args.part.now in
    c.loop-k.invariant.1 ∙ (let y : n - c.loop-k.k ≡ n = omega arith in ap (λ (x : ℕ). c.args.n / 10 ^ x) y)
