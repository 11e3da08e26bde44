-- The trees that can be written: at most n levels, each field within its rule of document 01, "Records".
use Rattle.std.specs.Prelude.{ℕ, ◌-◌, ◌≤◌, ◌<◌, ◌≡◌, true, nat_abs, length}
use Rattle.charset.specs.Charset.{name, spatial_text}
use Rattle.string.specs.Utf8.{valid}
use Rattle.civil.specs.Civil.{valid_date, valid_time}
use Rattle.tree.specs.Limits.{mantissa_limit, scale_limit, flags_limit, text_limit}
use Rattle.tree.specs.Tree.{Tree, Trees, null, unbounded, bool, num, str, date, timestamp, spatial, id, monadic, dyadic, function, array, interval, none, ◌then◌}
use Rattle.tree.specs.Parse.{takes_one, takes_two}

unfoldable mutual
  pub Good : Tree → ℕ → Type 0
  Good null n = 0 < n
  Good unbounded n = 0 < n
  Good (bool b) n = 0 < n
  Good (num m s) n = (0 < n) × (nat_abs m ≤ mantissa_limit) × (s ≤ scale_limit)
  Good (str f s) n = (0 < n) × (f ≤ flags_limit) × (length s ≤ text_limit) × (valid s ≡ true)
  Good (date y m d) n = (0 < n) × (valid_date y m d ≡ true)
  Good (timestamp y m d h i s) n = (0 < n) × (valid_date y m d ≡ true) × (valid_time h i s ≡ true)
  Good (spatial r s) n = (0 < n) × (r < 4294967296) × (1 ≤ length s) × (length s ≤ text_limit) × (spatial_text s ≡ true)
  Good (id s) n = (0 < n) × (name s ≡ true)
  Good (monadic o t) n = (0 < n) × (takes_one o ≡ true) × Good t (n - 1)
  Good (dyadic o t u) n = (0 < n) × (takes_two o ≡ true) × Good t (n - 1) × Good u (n - 1)
  Good (function s ts) n = (0 < n) × (name s ≡ true) × AllGood ts (n - 1)
  Good (array ts) n = (0 < n) × AllGood ts (n - 1)
  Good (interval t u) n = (0 < n) × Good t (n - 1) × Good u (n - 1)

  pub AllGood : Trees → ℕ → Type 0
  AllGood none n = Unit {0}
  AllGood (t then ts) n = Good t n × AllGood ts n
