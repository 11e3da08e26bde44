-- Classes of operators by number, as the code tests them: the operators of a class stand together in the enum.
use Rattle.std.specs.Prelude.{ℕ, Bool, eqb}
use Rattle.prelude.specs.Choice.{either, between}
use Rattle.op.specs.declared.Op.TheVariants.{Minus, Neg, SIntersects, SContains, STouches, SOverlaps, TAfter, TStarts, AEquals, AOverlaps, IsLike, IsNotLike, IsBetween, IsNotBetween, IsNull, IsNotNull}
use Rattle.op.specs.Op.{op_number}

abbrev pub temporal_number : ℕ → Bool
temporal_number op = between (op_number TAfter) op (op_number TStarts)

abbrev pub spatial_number : ℕ → Bool
spatial_number op = between (op_number SIntersects) op (op_number SContains)

-- those of whose sides one may have its precision reduced
abbrev pub reduced_number : ℕ → Bool
reduced_number op = between (op_number STouches) op (op_number SOverlaps)

abbrev pub array_number : ℕ → Bool
array_number op = between (op_number AEquals) op (op_number AOverlaps)

abbrev pub like_number : ℕ → Bool
like_number op = between (op_number IsLike) op (op_number IsNotLike)

abbrev pub between_number : ℕ → Bool
between_number op = between (op_number IsBetween) op (op_number IsNotBetween)

abbrev pub nullable_number : ℕ → Bool
nullable_number op = between (op_number IsNull) op (op_number IsNotNull)

-- those that are written before their operand
abbrev pub sign_number : ℕ → Bool
sign_number op = either (eqb op (op_number Neg)) (eqb op (op_number Minus))
