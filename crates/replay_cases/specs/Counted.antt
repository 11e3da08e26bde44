-- How the cases of a file are counted: each that was judged, at its place, one after another.
use Rattle.std.specs.Prelude.{ℕ, ◌≡◌, ◌+◌, ◌%◌, ◌^◌, List, Option, Some, replicate}
use Rattle.std.specs.List.{FoldsTo}
use Rattle.input.specs.Part.{AreRead}
use Rattle.input.specs.declared.Part.{Part}
use Rattle.replay_cases.specs.TallyWords.{tallied}
use Rattle.replay_cases.specs.declared.Case.{Case}
use Rattle.replay_cases.specs.declared.Tally.{Tally}

-- no case is counted yet
abbrev pub none_counted : Tally
none_counted = record { done = 0; counts = replicate 16 0 }

-- J says what may be judged of the parts at a place
module _ (J : ℕ → List Part → Option Case → Type 0) where
  -- the case of parts that were read is judged, at the place that is the number of those before it, and counted
  abbrev pub CountsCase : Tally → List Part × Case → Tally → Type 0
  CountsCase s x t =
      AreRead x.0 × J s.done x.0 (Some x.1) × (t.done ≡ (s.done + 1) % 2 ^ 64) × (t.counts ≡ tallied s.counts x.1.want x.1.found)

  -- cases are counted, one after another
  abbrev pub CountsCases : Tally → Tally → Type 0
  CountsCases s t = (cases : List (List Part × Case)) × FoldsTo CountsCase s cases t

  -- what is counted of a file's cases, from its first one on
  abbrev pub IsCountOf : Tally → Type 0
  IsCountOf tally = CountsCases none_counted tally
