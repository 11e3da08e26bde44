-- What a call is found to have answered and left in the buffer that it was lent, full of 7s: 0, a refusal's number, or what is wrong.
use Rattle.std.specs.Prelude.{ℕ, Bool, List, Result, Ok, Err, length, take, drop, nat_le, ◌==◌}
use Rattle.prelude.specs.Choice.{pick, both, all, same}
use Rattle.refusal.specs.Number.{number_of}
use Rattle.refusal.specs.declared.Refusal.{Refusal}

-- these bytes are as they were lent
abbrev pub are_blank : List ℕ → Bool
are_blank s = all (λ x. x == 7) s

-- 100 if other bytes than the stored ones were written, 101 if another byte was changed
unfoldable pub found : Result ℕ Refusal → List ℕ → List ℕ → ℕ
found (Ok n) stored out = pick (both (nat_le n (length out)) (same (take n out) stored)) (pick (are_blank (drop n out)) 0 101) 100
found (Err r) stored out = pick (are_blank out) (number_of r) 101
