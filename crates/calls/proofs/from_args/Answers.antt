-- `calls::from_args` meets its contract: in each of the four ways through the two words.
use Rattle.std.proofs.Common.{rules, true, false}
use Rattle.calls.proofs.WordsLaws.{names}
use Rattle.calls.proofs.from_args.Goals.{then-is_arg, else-is_arg, then-is_arg-2, else-is_arg-2}
use Rattle.calls.proofs.from_args.Goals as goal

pub returns-then-is_there : goal.returns-then-is_there
returns-then-is_there g c =
    elim c.if-is_arg.branch [
      | then-is_arg w ↦ elim c.if-is_arg-2.branch [
        | then-is_arg-2 v ↦ names _ true true true c.if-is_arg.place c.if-is_arg-2.place c.if-is_arg-2.call w.if-is_arg.ensures w.place-is v.if-is_arg-2.ensures v.place-is c.if-is_there.ensures (search rules)
        | else-is_arg-2 v ↦ names _ true false true c.if-is_arg.place c.if-is_arg-2.place c.if-is_arg-2.call w.if-is_arg.ensures w.place-is v.if-is_arg-2.ensures v.place-is c.if-is_there.ensures (search rules)
      ]
      | else-is_arg w ↦ elim c.if-is_arg-2.branch [
        | then-is_arg-2 v ↦ names _ false true true c.if-is_arg.place c.if-is_arg-2.place c.if-is_arg-2.call w.if-is_arg.ensures w.place-is v.if-is_arg-2.ensures v.place-is c.if-is_there.ensures (search rules)
        | else-is_arg-2 v ↦ names _ false false true c.if-is_arg.place c.if-is_arg-2.place c.if-is_arg-2.call w.if-is_arg.ensures w.place-is v.if-is_arg-2.ensures v.place-is c.if-is_there.ensures (search rules)
      ]
    ]

pub returns-else-is_there : goal.returns-else-is_there
returns-else-is_there g c =
    elim c.if-is_arg.branch [
      | then-is_arg w ↦ elim c.if-is_arg-2.branch [
        | then-is_arg-2 v ↦ names _ true true false c.if-is_arg.place c.if-is_arg-2.place c.if-is_arg-2.call w.if-is_arg.ensures w.place-is v.if-is_arg-2.ensures v.place-is c.if-is_there.ensures (search rules)
        | else-is_arg-2 v ↦ names _ true false false c.if-is_arg.place c.if-is_arg-2.place c.if-is_arg-2.call w.if-is_arg.ensures w.place-is v.if-is_arg-2.ensures v.place-is c.if-is_there.ensures (search rules)
      ]
      | else-is_arg w ↦ elim c.if-is_arg-2.branch [
        | then-is_arg-2 v ↦ names _ false true false c.if-is_arg.place c.if-is_arg-2.place c.if-is_arg-2.call w.if-is_arg.ensures w.place-is v.if-is_arg-2.ensures v.place-is c.if-is_there.ensures (search rules)
        | else-is_arg-2 v ↦ names _ false false false c.if-is_arg.place c.if-is_arg-2.place c.if-is_arg-2.call w.if-is_arg.ensures w.place-is v.if-is_arg-2.ensures v.place-is c.if-is_there.ensures (search rules)
      ]
    ]
