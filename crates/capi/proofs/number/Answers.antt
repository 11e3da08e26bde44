-- `capi::number` meets its contract: a length fits as it is short, a refusal's number as it is below 256.
use mathlib.Core.Path.{sym, ap, ◌∙◌, subst}
use Prim.Native.Nat.{ℕ, ◌≤◌}
use Rattle.std.specs.Prelude.{Result}
use Rattle.refusal.specs.declared.Refusal.{Refusal}
use Rattle.text.specs.Lowered.{heard}
use Rattle.capi.specs.LengthWords.{length_of}
use Rattle.capi.specs.Numbers.{lowering_number}
use Rattle.capi.proofs.Laws.{wide_fits, back64, length-fits, length_back}
use Rattle.capi.proofs.number.Goals as goal

pub overflow_cast-result : goal.overflow_cast-result
overflow_cast-result c = length-fits _ (subst (λ (l : Result ℕ Refusal). length_of l ≤ 65535) c.in-Ok.is c.requires)

pub overflow_cast-result-in-Err : goal.overflow_cast-result-in-Err
overflow_cast-result-in-Err c = wide_fits c.negative.ensures.0 c.negative.ensures.1

pub returns-in-Ok : goal.returns-in-Ok
returns-in-Ok c =
    length_back _ (subst (λ (l : Result ℕ Refusal). length_of l ≤ 65535) c.in-Ok.is c.requires)
    ∙ ap (λ (l : Result ℕ Refusal). lowering_number (heard l)) (sym c.in-Ok.is)

pub returns-in-Err : goal.returns-in-Err
returns-in-Err c =
    back64 c.negative.ensures.0 c.negative.ensures.1
    ∙ ap (λ (l : Result ℕ Refusal). lowering_number (heard l)) (sym c.in-Err.is)
