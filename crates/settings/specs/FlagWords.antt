-- The flags of a Str by the collation that CaseI, AccentI or both ask for (src/ds/gpkg.rs, `to_sql_impl`).
use Rattle.std.specs.Prelude.{ℕ, Bool, eqb}
use Rattle.prelude.specs.Choice.{pick}
use Rattle.op.specs.declared.Op.TheVariants.{CaseI}
use Rattle.op.specs.Op.{op_number}

-- 3 for both of them, one over the other; else 1 for CaseI and 2 for AccentI
abbrev pub collation_flags : ℕ → Bool → ℕ
collation_flags op d = pick d 3 (pick (eqb op (op_number CaseI)) 1 2)
