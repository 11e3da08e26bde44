-- What the calls ensure, put together.
use mathlib.Core.Path.{ap}
use Prim.Native.Nat.{ℕ}
use lib.Dec.{eqb}
use Rattle.text.proofs.records.is_kind.Goals as goal

pub returns : goal.returns
returns c = ap (λ (k : ℕ). eqb k c.args.kind) c.word_at.ensures.0
