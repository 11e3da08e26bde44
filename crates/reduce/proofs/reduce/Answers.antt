-- A refusal of the checker is the answer; what it accepts is a tree, which is reduced.
use Rattle.reduce.specs.Reducing.{heard}
use Rattle.std.proofs.lemmas.Result.{err_from_is_err_and}
use Rattle.std.specs.Prelude.{Err}
use mathlib.Core.Path.{ap, ◌∙◌}
use native.Mathlib.Omega.{arith}
use Prim.Native.Nat.{ℕ, ◌<◌}
use lib.ListN.{get_or}
use Rattle.tree.specs.ByteLaws.{bytes_of}
use Rattle.reduce.proofs.AnswerLaws.{taken, recorded, taken_answers, refused_answers}
use Rattle.reduce.proofs.reduce.Goals as goal

pub reduce_accepted-requires : goal.reduce_accepted-requires
reduce_accepted-requires c =
    let a = taken c.args.tree.now (bytes_of c.args.tree.now (λ (i : ℕ). let v : get_or c.args.tree.now i 0 < 256 = omega (arith, c.shared_slice_known-1.given i) in v)) c.in_ok-check_tree.ensures.says in
    (recorded a, a.small)

pub returns-in_err-check_tree : goal.returns-in_err-check_tree
returns-in_err-check_tree c =
    let q = refused_answers c.args.tree.now c.args.out.now c.in_err-check_tree.ensures.says in
    let p = err_from_is_err_and c.from_residual.result c.from_residual.ensures.1 in
    let e = p.1 ∙ ap Err p.2 in
    record { says = e ∙ q.0; bytes = q.1.0; hears = ap heard e ∙ q.1.1 }

pub returns : goal.returns
returns c =
    let a = taken c.args.tree.now (bytes_of c.args.tree.now (λ (i : ℕ). let v : get_or c.args.tree.now i 0 < 256 = omega (arith, c.shared_slice_known-1.given i) in v)) c.in_ok-check_tree.ensures.says in
    let q = taken_answers a (c.reduce_accepted.ensures a.t _ a.whole a.good) in
    record { says = q.0; bytes = q.1.0; hears = q.1.1 }
