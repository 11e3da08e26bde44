-- `reduce::rules::turn` meets its contract: an arm that names operator and sort computes, and an arm for all others is none of those named.
use mathlib.Core.Path.{refl}
use native.Mathlib.Omega.{arith}
use Rattle.prelude.specs.Choice.{some}
use Rattle.op.specs.declared.Op.TheVariants as op
use Rattle.reduce.specs.declared.Sort.TheVariants as sort
use Rattle.reduce.specs.Rules.{turn}
use Rattle.reduce.proofs.RuleLaws.{apart, no_logic, op_apart, neg_bool}
use Rattle.reduce.proofs.rules.turn.Goals as goal

pub returns-in-Null : goal.returns-in-Null
unfolding turn some
returns-in-Null c = rw (c.in-Minus.is, c.in-Null.is) refl

pub returns-in-Num : goal.returns-in-Num
unfolding turn some
returns-in-Num c = rw (c.in-Minus.is, c.in-Num.is) refl

pub returns-in_default-a : goal.returns-in_default-a
unfolding turn some
returns-in_default-a c = simp (c.in-Minus.is, apart c.args.a sort.Null c.in_default-a.not-Null (λ z. omega arith), apart c.args.a sort.Num c.in_default-a.not-Num (λ z. omega arith))

pub returns-in-Null-a : goal.returns-in-Null-a
unfolding turn some
returns-in-Null-a c = rw (c.in-Neg.is, c.in-Null-a.is) refl

pub returns-in-Bool : goal.returns-in-Bool
returns-in-Bool c = rw (c.in-Neg.is, c.in-Bool.is) (neg_bool c.in-Bool.b)

pub returns-in_default-a-2 : goal.returns-in_default-a-2
unfolding turn some
returns-in_default-a-2 c = simp (c.in-Neg.is, apart c.args.a sort.Null c.in_default-a-2.not-Null (λ z. omega arith), no_logic c.args.a c.in_default-a-2.not-Null c.in_default-a-2.not-Bool)

pub returns-in-Null-a-2 : goal.returns-in-Null-a-2
unfolding turn some
returns-in-Null-a-2 c = rw (c.in-IsNull.is, c.in-Null-a-2.is) refl

pub returns-in_default-a-3 : goal.returns-in_default-a-3
unfolding turn some
returns-in_default-a-3 c = simp (c.in-IsNull.is, apart c.args.a sort.Null c.in_default-a-3.not-Null (λ z. omega arith))

pub returns-in-Null-a-3 : goal.returns-in-Null-a-3
unfolding turn some
returns-in-Null-a-3 c = rw (c.in-IsNotNull.is, c.in-Null-a-3.is) refl

pub returns-in_default-a-4 : goal.returns-in_default-a-4
unfolding turn some
returns-in_default-a-4 c = simp (c.in-IsNotNull.is, apart c.args.a sort.Null c.in_default-a-4.not-Null (λ z. omega arith))

pub returns-in-Str : goal.returns-in-Str
unfolding turn some
returns-in-Str c = rw (c.in-CaseI.is, c.in-Str.is) refl

pub returns-in-CaseI-a : goal.returns-in-CaseI-a
unfolding turn some
returns-in-CaseI-a c = rw (c.in-CaseI.is, c.in-CaseI-a.is) refl

pub returns-in_default-a-5 : goal.returns-in_default-a-5
unfolding turn some
returns-in_default-a-5 c = simp (c.in-CaseI.is, apart c.args.a sort.Str c.in_default-a-5.not-Str (λ z. omega arith), apart c.args.a sort.CaseI c.in_default-a-5.not-CaseI (λ z. omega arith))

pub returns-in-Str-a : goal.returns-in-Str-a
unfolding turn some
returns-in-Str-a c = rw (c.in-AccentI.is, c.in-Str-a.is) refl

pub returns-in-AccentI-a : goal.returns-in-AccentI-a
unfolding turn some
returns-in-AccentI-a c = rw (c.in-AccentI.is, c.in-AccentI-a.is) refl

pub returns-in_default-a-6 : goal.returns-in_default-a-6
unfolding turn some
returns-in_default-a-6 c = simp (c.in-AccentI.is, apart c.args.a sort.Str c.in_default-a-6.not-Str (λ z. omega arith), apart c.args.a sort.AccentI c.in_default-a-6.not-AccentI (λ z. omega arith))

pub returns-in_default : goal.returns-in_default
unfolding turn some
returns-in_default c = simp (op_apart c.args.op op.Minus c.in_default.not-Minus, op_apart c.args.op op.Neg c.in_default.not-Neg, op_apart c.args.op op.IsNull c.in_default.not-IsNull, op_apart c.args.op op.IsNotNull c.in_default.not-IsNotNull, op_apart c.args.op op.CaseI c.in_default.not-CaseI, op_apart c.args.op op.AccentI c.in_default.not-AccentI)
