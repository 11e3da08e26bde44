-- A leaf of this kind has this sort.
use native.Mathlib.Omega.{arith}
use native.Mathlib.Nat.{add-zero}
use mathlib.Core.Path.{ap, ◌∙◌}
use Prim.Native.Nat.{ℕ, ◌*◌}
use Rattle.reduce.specs.declared.Sort.TheVariants.{Instant}
use Rattle.reduce.proofs.LeafLaws.{leaf-kind, null_sort_lem, open_sort, bool_sort, num_sort_lem, str_sort_lem, date-key, timestamp-key, spatial_sort_lem, id_sort}
use Rattle.reduce.proofs.leaves.leaf_sort.Goals as goal

pub returns-in-0 : goal.returns-in-0
returns-in-0 c = λ t n e g f h. null_sort_lem (leaf-kind t e f 0 c.in-0.is)

pub returns-in-1 : goal.returns-in-1
returns-in-1 c = λ t n e g f h. open_sort (leaf-kind t e f 1 c.in-1.is)

pub returns-in-3 : goal.returns-in-3
returns-in-3 c = λ t n e g f h. num_sort_lem (leaf-kind t e f 3 c.in-3.is)

pub returns-in-4 : goal.returns-in-4
returns-in-4 c = λ t n e g f h. str_sort_lem (leaf-kind t e f 4 c.in-4.is)

pub returns-in-7 : goal.returns-in-7
returns-in-7 c = λ t n e g f h. spatial_sort_lem (leaf-kind t e f 7 c.in-7.is)

pub returns-in-2 : goal.returns-in-2
returns-in-2 c = λ t n e g f h. bool_sort e c.byte_at.ensures.0 (leaf-kind t e f 2 c.in-2.is)

pub returns-in-5 : goal.returns-in-5
returns-in-5 c = λ t n e g f h. ap (λ (i : ℕ). Instant i) (add-zero (c.day_key.result * 1000000)) ∙ date-key n e g c.day_key.ensures.0 (leaf-kind t e f 5 c.in-5.is)

pub returns-in-6 : goal.returns-in-6
returns-in-6 c = λ t n e g f h. timestamp-key n e g c.second_key.ensures (leaf-kind t e f 6 c.in-6.is)

pub returns-in_default : goal.returns-in_default
returns-in_default c = λ t n e g f h. id_sort (leaf-kind t e f 8 (omega (arith, h)))
