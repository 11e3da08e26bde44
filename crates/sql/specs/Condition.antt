-- An SQL condition over the four ends of a temporal operator, as data, and how it is printed: document 01, "Atoms and the four ends" (src/ds/sql.rs).
use Rattle.std.specs.Prelude.{ℕ, List, ◌++◌, Bool}
use Rattle.prelude.specs.Choice.{pick}
use Rattle.prelude.specs.Bytes.{bytes}

pub data Sign : Type 0 where
  lt : Sign
  gt : Sign
  eq : Sign
  ne : Sign

-- an end is named by its number, 0 to 3
pub data Cond : Type 0 where
  -- x < y and so on
  test : ℕ → Sign → ℕ → Cond
  -- "n" IS NOT NULL
  is_not_null : ℕ → Cond
  -- "n" NOT NULL
  not_null : ℕ → Cond
  -- c AND d
  and : Cond → Cond → Cond
  -- c OR d
  or : Cond → Cond → Cond
  -- NOT(c)
  not : Cond → Cond
  -- (c)
  brackets : Cond → Cond

-- a sign between spaces: < > = !=
abbrev pub print_sign : Sign → List ℕ
print_sign lt = bytes " < "
print_sign gt = bytes " > "
print_sign eq = bytes " = "
print_sign ne = bytes " != "

-- how a condition is written, given how each end is; a guarded end is a column, whose text is its name
unfoldable pub print : (ℕ → List ℕ) → Cond → List ℕ
print end (test i s j) = end i ++ (print_sign s ++ end j)
print end (is_not_null i) =
    bytes "\"" ++ (end i ++ bytes "\" IS NOT NULL")
print end (not_null i) =
    bytes "\"" ++ (end i ++ bytes "\" NOT NULL")
print end (and c d) = print end c ++ (bytes " AND " ++ print end d)
print end (or c d) = print end c ++ (bytes " OR " ++ print end d)
print end (not c) = bytes "NOT(" ++ (print end c ++ bytes ")")
print end (brackets c) = bytes "(" ++ (print end c ++ bytes ")")

-- `check_ids` guards only columns: one gives "n" IS NOT NULL AND (base)
unfoldable pub check_id : (ℕ → Bool) → ℕ → Cond → Cond
check_id column i base = pick (column i) (and (is_not_null i) (brackets base)) base

-- two give "n" IS NOT NULL AND "k" NOT NULL AND (base), in argument order
unfoldable pub check_ids : (ℕ → Bool) → ℕ → ℕ → Cond → Cond
check_ids column i j base =
    pick (column i)
    (pick (column j) (and (and (is_not_null i) (not_null j)) (brackets base)) (and (is_not_null i) (brackets base)))
    (pick (column j) (and (is_not_null j) (brackets base)) base)
