-- `spelling::of_number` meets its contract: a test of the code for each of the definition, and what stands at a number's place is its spelling.
use Prim.Native.Nat.{ℕ, ◌+◌, ◌-◌, ◌≤◌, ◌<◌}
use mathlib.Core.Path.{◌≡◌, sym, ◌∙◌}
use mathlib.Core.List.{List}
use lib.ListN.{get_or, take, drop}
use borrow.Author.Tests.{le-ltb, le-leb, lt-leb}
use Rattle.std.specs.Prelude.{Some, None}
use Rattle.spelling.specs.SpellingTable.{place_in, standing}
use Rattle.spelling.specs.SpellingLaws.{no_operator, stands_numbered}
use Rattle.spelling.proofs.of_number.Goals as goal

nowhere : (table : List ℕ) (n from to : ℕ) → n ≤ 52 → from ≡ get_or table n 0 → to ≡ get_or table (n + 1) 0 → to ≤ from → None ≡ standing table (place_in table n)
unfolding place_in standing
nowhere table n from to h e f q = simp (le-ltb 52 n h, sym e, sym f, le-leb to from q)

somewhere : (table : List ℕ) (n from to : ℕ) → n ≤ 52 → from ≡ get_or table n 0 → to ≡ get_or table (n + 1) 0 → from < to
    → Some (take (to - from) (drop from table)) ≡ standing table (place_in table n)
unfolding place_in standing
somewhere table n from to h e f q = simp (le-ltb 52 n h, sym e, sym f, lt-leb to from q)

pub returns-then-n-gt-IS_NOT_NULL : goal.returns-then-n-gt-IS_NOT_NULL
returns-then-n-gt-IS_NOT_NULL c = sym (no_operator c.args.n c.if-n-gt-IS_NOT_NULL.true)

pub returns-then-to-from : goal.returns-then-to-from
returns-then-to-from c =
    let t = c.spellings-table in
    nowhere t.result.now c.args.n _ _ c.if-n-gt-IS_NOT_NULL.false c.from-from.ensures c.from-to.ensures c.if-to-from.true ∙ stands_numbered t.result.now c.args.n t.ensures

pub returns : goal.returns
returns c =
    let t = c.spellings-table in
    somewhere t.result.now c.args.n _ _ c.if-n-gt-IS_NOT_NULL.false c.from-from.ensures c.from-to.ensures c.if-to-from.false ∙ stands_numbered t.result.now c.args.n t.ensures
