-- Cases that are counted one after another.
use Rattle.std.proofs.Common.{ℕ, ◌≡◌, refl, ◌+◌, ◌%◌, ◌^◌, List, [], ◌∷◌, Option, Some}
use Rattle.input.specs.Part.{AreRead}
use Rattle.input.specs.declared.Part.{Part}
use Rattle.replay_cases.specs.TallyWords.{tallied}
use Rattle.replay_cases.specs.Counted.{CountsCases}
use Rattle.replay_cases.specs.declared.Case.{Case}
use Rattle.replay_cases.specs.declared.Tally.{Tally}

module _ (J : ℕ → List Part → Option Case → Type 0) where
  -- none more
  pub none_more : (s : Tally) → CountsCases J s s
  none_more s = ([], refl)

  -- one more, before the others
  pub one_counted : (s t : Tally) (ps : List Part) (case : Case) → AreRead ps → J s.done ps (Some case) → t.done ≡ (s.done + 1) % 2 ^ 64
      → t.counts ≡ tallied s.counts case.want case.found → (end : Tally) → CountsCases J t end → CountsCases J s end
  one_counted s t ps case read judged done counts end more = ((ps, case) ∷ more.0, (t, (read, judged, done, counts), more.1))
