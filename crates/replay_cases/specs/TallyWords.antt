-- How the replays count: a case whose answer is found as it is stored counts at the answer's number.
use Rattle.std.specs.Prelude.{ℕ, ◌+◌, ◌%◌, ◌^◌, List, ◌==◌, nat_lt, slice_index, slice_set}
use Rattle.prelude.specs.Choice.{pick, both}

unfoldable pub tallied : List ℕ → ℕ → ℕ → List ℕ
tallied counts want found =
    pick (both (want == found) (nat_lt found 16)) (slice_set counts found ((slice_index counts found + 1) % 2 ^ 64)) counts
