-- Null, a Bool or a Num is written over the operand, the head of what is kept before it.
use native.Mathlib.Omega.{arith}
use Rattle.reduce.proofs.TurnLaws.{turned_null, turned_bool, turned_negate, turned_kept, kept_arm}
use Rattle.reduce.proofs.records.put_turn.Goals as goal

pub negate-requires : goal.negate-requires
negate-requires c = (omega (arith, c.requires.3 c.in-Negate.is, c.requires.1), c.requires.2)

pub returns-in-ToNull : goal.returns-in-ToNull
returns-in-ToNull c = λ v k l p g t w. turned_null c.args.op v c.in-ToNull.is p (omega (arith, c.requires.0, c.requires.1)) c.put_null.ensures

pub returns-in-ToBool : goal.returns-in-ToBool
returns-in-ToBool c = λ v k l p g t w. turned_bool c.args.op v _ c.in-ToBool.is p (omega (arith, c.requires.0, c.requires.1)) c.put_bool.ensures

pub returns-in-Negate : goal.returns-in-Negate
returns-in-Negate c = λ v k l p g t w. turned_negate c.args.op v k c.in-Negate.is p g t c.negate.ensures

pub returns-in_default : goal.returns-in_default
returns-in_default c =
    λ v k l p g t w. turned_kept c.args.op v (kept_arm _ c.in_default.not-ToNull c.in_default.not-ToBool c.in_default.not-Negate w) p (c.kept_sort.ensures v)
    c.put_head.ensures
