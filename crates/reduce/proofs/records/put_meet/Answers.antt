-- Null and Bools are written over the operands, the head of what is kept before them.
use native.Mathlib.Omega.{arith}
use Rattle.reduce.proofs.WriteLaws.{met-clash, met_null, met_bool, met_kept}
use Rattle.reduce.proofs.records.put_meet.Goals as goal

pub returns-in-Clash : goal.returns-in-Clash
returns-in-Clash c = λ a b l p. met-clash c.args.op a b c.in-Clash.is p

pub returns-in-MeetNull : goal.returns-in-MeetNull
returns-in-MeetNull c = λ a b l p. met_null c.args.op a b c.in-MeetNull.is p (omega (arith, c.requires.0, c.requires.1)) c.put_null.ensures

pub returns-in-MeetBool : goal.returns-in-MeetBool
returns-in-MeetBool c = λ a b l p. met_bool c.args.op a b _ c.in-MeetBool.is p (omega (arith, c.requires.0, c.requires.1)) c.put_bool.ensures

pub returns-in-Keeps : goal.returns-in-Keeps
returns-in-Keeps c = λ a b l p. met_kept c.args.op a b c.in-Keeps.is p c.put_head.ensures
