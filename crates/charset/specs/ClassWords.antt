-- The classes of bytes by name, as the code hands them to the one loop over a run of bytes. No definition of document 01 rests on it.
use Rattle.std.specs.Prelude.{ℕ, Bool, eqb}
use Rattle.prelude.specs.Bytes.{space}
use Rattle.charset.specs.Charset.{name_byte, spatial_byte}
use Rattle.charset.specs.declared.Class.{Class}
use Rattle.charset.specs.declared.Class.TheVariants.{Space, Name, Spatial}

abbrev pub class_byte : Class → ℕ → Bool
class_byte Space = λ b. eqb b space
class_byte Name = name_byte
class_byte Spatial = spatial_byte
