-- The number of each refusal: document 01, "What a caller hears", 1 to 13, and document 02, slip 8, 14.
use Rattle.std.specs.Prelude.{ℕ}
use Rattle.refusal.specs.declared.Refusal.{Refusal}
use Rattle.refusal.specs.declared.Refusal.TheVariants.{BadSettings, TreeTooLong, BadFrame, TooDeep, BadKindOrOperator, BadField, BadOperand, TextTooLong, BufferTooShort, InputTooLong, BadRow, BadText, MissingColumn, ConstantOperands}

abbrev pub number_of : Refusal → ℕ
number_of BadSettings = 1
number_of TreeTooLong = 2
number_of BadFrame = 3
number_of TooDeep = 4
number_of BadKindOrOperator = 5
number_of BadField = 6
number_of BadOperand = 7
number_of TextTooLong = 8
number_of BufferTooShort = 9
number_of InputTooLong = 10
number_of BadRow = 11
number_of BadText = 12
number_of MissingColumn = 13
number_of ConstantOperands = 14
