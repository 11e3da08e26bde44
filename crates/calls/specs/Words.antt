-- The words that a program is called with, `[controller] [geopackage]`, and the line that it prints of an answer.
use Rattle.std.specs.Prelude.{ℕ, List, [], ◌∷◌, ◌++◌, Bool, false, Option, Some, None, Result, Ok, Err, take, is_some, slice_get}
use Rattle.std.specs.Fmt.{decimal}
use Rattle.prelude.specs.Choice.{pick, same}
use Rattle.prelude.specs.Bytes.{bytes}
use Rattle.literal.specs.declared.Writing.TheVariants.{Rust, GeoPackage}
use Rattle.refusal.specs.Number.{number_of}
use Rattle.refusal.specs.declared.Refusal.{Refusal}
use Rattle.calls.specs.declared.Call.{Call}
use Rattle.calls.specs.declared.Caller.{Caller}
use Rattle.calls.specs.declared.Caller.TheVariants.{Planner, Controller}

-- the call of this caller that the other words name
unfoldable pub writing_named : Caller → List (List ℕ) → Option Call
writing_named c [] = Some (record { caller = c; writing = Rust })
writing_named c (w ∷ []) = pick (same w (bytes "geopackage")) (Some (record { caller = c; writing = GeoPackage })) None
writing_named c (w ∷ v ∷ more) = None

-- the call that words name
unfoldable pub named : List (List ℕ) → Option Call
named [] = writing_named Planner []
named (w ∷ more) = pick (same w (bytes "controller")) (writing_named Controller more) (writing_named Planner (w ∷ more))

-- the call that arguments name: the first one is the program's own name, and a program may have none
unfoldable pub call_named : List (List ℕ) → Option Call
call_named [] = named []
call_named (name ∷ words) = named words

-- whether there is an argument at this place
abbrev pub is_there : List (List ℕ) → ℕ → Bool
is_there args place = is_some (slice_get args place)

-- whether there is one, and it is the word
abbrev pub is_the_word : Option (List ℕ) → List ℕ → Bool
is_the_word None word = false
is_the_word (Some arg) word = same arg word

-- whether the argument at this place is the word
abbrev pub is_arg : List (List ℕ) → ℕ → List ℕ → Bool
is_arg args place word = is_the_word (slice_get args place) word

-- the line of an answer: the text that was written, or the refusal's number
unfoldable pub line_of : Result ℕ Refusal → List ℕ → List ℕ
line_of (Ok n) out = take n out ++ bytes "\n"
line_of (Err r) out = bytes "refused " ++ decimal (number_of r) ++ bytes "\n"
