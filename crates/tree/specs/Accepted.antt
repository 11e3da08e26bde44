-- What the settings hold, with refusal 1, and what is accepted, with refusals 1 to 7 in order: document 01, "Records" and "What a caller
-- hears"; by the caller's limits: document 02, slip 7.
use Rattle.std.specs.Prelude.{ℕ, List, length, get_or, ltb, Result, Ok, Err}
use Rattle.prelude.specs.Choice.{pick}
use Rattle.refusal.specs.declared.Refusal.{Refusal}
use Rattle.refusal.specs.declared.Refusal.TheVariants.{BadSettings, TreeTooLong, BadOperand}
use Rattle.refusal.specs.Number.{number_of}
use Rattle.settings.specs.Settings.{precision_at, ci_at, ai_at, cai_at, is_settings}
use Rattle.charset.specs.Named.{name_at}
use Rattle.tree.specs.declared.Limits.{Limits}
use Rattle.tree.specs.Tree.{Tree, Settings}
use Rattle.tree.specs.Parse.{Read, refused, got, also, parse}
use Rattle.tree.specs.Placed.{placed}

-- what the settings hold, as far as some bytes hold it
abbrev pub settings_in : List ℕ → Settings
settings_in s = record { precision = get_or s precision_at 0; ci = name_at s (ci_at s); ai = name_at s (ai_at s); cai = name_at s (cai_at s) }

unfoldable pub settings : List ℕ → Read Settings
settings s = pick (is_settings s) (got (settings_in s)) (refused BadSettings)

-- a tree: 2 comes first, then 3 to 6, only then 7
unfoldable pub accepted_tree : Limits → List ℕ → Read Tree
accepted_tree limits s =
    pick (ltb limits.tree (length s)) (refused TreeTooLong)
    (also (parse limits.depth s) (λ t. pick (placed t) (got t) (refused BadOperand)))

-- settings and a tree: 1 comes first, then 2, then 3 to 6, only then 7
unfoldable pub accepted : Limits → List ℕ → List ℕ → Read (Settings × Tree)
accepted limits c s =
    also (settings c) (λ g.
    pick (ltb limits.tree (length s)) (refused TreeTooLong)
    (also (parse limits.depth s) (λ t. pick (placed t) (got (g, t)) (refused BadOperand))))

-- the answer: nothing more where they are accepted, or the refusal
unfoldable pub verdict : {A : Type 0} → Read A → Result (Unit {0}) Refusal
verdict (refused n) = Err n
verdict (got a) = Ok tt

-- What a caller hears of settings and a tree, in document 01's terms: that they are accepted, or a refusal's number alone.
pub data Heard : Type 0 where
  valid : Heard
  refusal : ℕ → Heard

-- of what was decided
abbrev pub said : {A : Type 0} → Read A → Heard
said (refused n) = refusal (number_of n)
said (got a) = valid

-- of the call's answer
abbrev pub heard : Result (Unit {0}) Refusal → Heard
heard (Ok u) = valid
heard (Err n) = refusal (number_of n)
