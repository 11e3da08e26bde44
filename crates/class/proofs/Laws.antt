-- Classes as ranges of numbers, each a test computed over the whole enum.
use mathlib.Core.Path.{◌≡◌}
use lib.Dec.{eqb}
use Rattle.prelude.specs.Choice.{either, between, some}
use Rattle.op.specs.declared.Op.{Op}
use Rattle.op.specs.Op.{op_number, is_arithmetic, is_comparison, is_xtd_comparison, is_instant_or_interval}
use Rattle.op.specs.OpLaws.{agree}

pub arithmetic_range : (o : Op) → is_arithmetic o ≡ between 0 (op_number o) 6
unfolding is_arithmetic some
arithmetic_range o = agree is_arithmetic (λ o. between 0 (op_number o) 6) tt o

pub comparison_range : (o : Op) → is_comparison o ≡ either (between 8 (op_number o) 13) (between 51 (op_number o) 52)
unfolding is_comparison some
comparison_range o = agree is_comparison (λ o. either (between 8 (op_number o) 13) (between 51 (op_number o) 52)) tt o

pub xtd_comparison_range : (o : Op) → is_xtd_comparison o ≡ between 45 (op_number o) 50
unfolding is_xtd_comparison some
xtd_comparison_range o = agree is_xtd_comparison (λ o. between 45 (op_number o) 50) tt o

pub instant_or_interval_range : (o : Op) → is_instant_or_interval o ≡ either (between 26 (op_number o) 27) (either (eqb (op_number o) 29) (either (eqb (op_number o) 31) (eqb (op_number o) 34)))
unfolding is_instant_or_interval some
instant_or_interval_range o = agree is_instant_or_interval (λ o. either (between 26 (op_number o) 27) (either (eqb (op_number o) 29) (either (eqb (op_number o) 31) (eqb (op_number o) 34)))) tt o
