-- `capi::wenduulig_reduce` meets its contract: the number of what `reduce::reduce` answers, and the buffer as that leaves it.
use Prim.Native.Nat.{ℕ, ◌<◌, ◌≤◌}
use mathlib.Core.Path.{◌∙◌}
use native.Mathlib.Omega.{arith}
use lib.ListN.{get_or}
use Rattle.tree.specs.ByteLaws.{bytes_of}
use Rattle.capi.proofs.Laws.{said-back, short_reduced, heard_alike}
use Rattle.capi.proofs.wenduulig_reduce.Goals as goal

pub number-requires : goal.number-requires
number-requires c = short_reduced c.args.tree.now _ _ (bytes_of c.args.tree.now (λ (i : ℕ). let v : get_or c.args.tree.now i 0 < 256 = omega (arith, c.shared_slice_known-1.given i) in v)) c.reduce.ensures.says

pub returns : goal.returns
returns c =
    record { says = said-back c.reduce.result c.number.ensures (heard_alike _ ∙ c.reduce.ensures.hears) (short_reduced c.args.tree.now _ _ (bytes_of c.args.tree.now (λ (i : ℕ). let v : get_or c.args.tree.now i 0 < 256 = omega (arith, c.shared_slice_known-1.given i) in v)) c.reduce.ensures.says); bytes = c.reduce.ensures.bytes }
