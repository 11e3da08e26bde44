-- A Monadic's sort is by its operator alone.
use Rattle.reduce.proofs.TurnLaws.{kept_case, kept_accent, kept_other}
use Rattle.reduce.proofs.records.kept_sort.Goals as goal

pub returns-in-CaseI : goal.returns-in-CaseI
returns-in-CaseI c = λ v. kept_case v c.in-CaseI.is

pub returns-in-AccentI : goal.returns-in-AccentI
returns-in-AccentI c = λ v. kept_accent v c.in-AccentI.is

pub returns-in_default : goal.returns-in_default
returns-in_default c = λ v. kept_other v c.in_default.not-CaseI c.in_default.not-AccentI
