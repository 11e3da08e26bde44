-- The record of the settings, with its limit of the precision, which refusal 1 asks for: document 01, "Records" and "What a caller hears".
use Rattle.std.specs.Prelude.{ℕ, List, Bool, false, length, get_or, leb, eqb, Option, None, Some}
use Rattle.prelude.specs.Choice.{both}
use Rattle.record.specs.declared.Frame.{Frame}
use Rattle.record.specs.Record.{frame}
use Rattle.charset.specs.Named.{past, named_at}

abbrev pub settings_kind : ℕ
settings_kind = 100

abbrev pub precision_limit : ℕ
precision_limit = 15

-- one record of the settings' kind, and nothing after it
unfoldable pub is_frame : ℕ → Option Frame → Bool
is_frame n None = false
is_frame n (Some f) = both (eqb f.kind settings_kind) (eqb f.end n)

-- where the precision byte stands, and where the three names begin, with their length bytes
abbrev pub precision_at : ℕ
precision_at = 6

abbrev pub ci_at : List ℕ → ℕ
ci_at s = 7

abbrev pub ai_at : List ℕ → ℕ
ai_at s = past s (ci_at s)

abbrev pub cai_at : List ℕ → ℕ
cai_at s = past s (ai_at s)

-- a precision byte 0 to 15, then three names, and nothing after them
unfoldable pub settings_body : List ℕ → Bool
settings_body s =
    both (leb (get_or s precision_at 0) precision_limit)
    (both (named_at s (ci_at s))
    (both (named_at s (ai_at s))
    (both (named_at s (cai_at s)) (eqb (past s (cai_at s)) (length s)))))

unfoldable pub is_settings : List ℕ → Bool
is_settings s = both (is_frame (length s) (frame s)) (settings_body s)
