-- A record's frame and little-endian numbers: document 01, "Records". Trees, settings and rows are made of such records.
use Rattle.std.specs.Prelude.{ℕ, zero, suc, ◌+◌, ◌-◌, ◌*◌, ◌/◌, ◌%◌, List, [], ◌∷◌, ◌++◌, Option, None, Some, ℤ, pos, negsuc, length, get_or, ltb}
use Rattle.prelude.specs.Choice.{pick}
use Rattle.record.specs.declared.Frame.{Frame}

-- two bytes at i, the low one first; a byte past the end counts as 0
abbrev pub le16 : List ℕ → ℕ → ℕ
le16 s i = get_or s i 0 + get_or s (i + 1) 0 * 256

-- four bytes at i, the low one first
abbrev pub le32 : List ℕ → ℕ → ℕ
le32 s i = le16 s i + le16 s (i + 2) * 65536

-- eight bytes at i, the low one first
abbrev pub le64 : List ℕ → ℕ → ℕ
le64 s i = le32 s i + le32 s (i + 4) * 4294967296

-- two's complement of 64 bits: below 2^63 the number itself, else the number less 2^64
unfoldable pub signed : ℕ → ℤ
signed n = pick (ltb n 9223372036854775808) (pos n) (negsuc (18446744073709551615 - n))

-- a record of kind k that ends at e
abbrev pub whole : ℕ → ℕ → Option Frame
whole k e = Some (record { kind = k; end = e })

-- Length, four bytes, then kind, two bytes, then body; the length counts kind and body.
-- The record at the front of s: its kind, and where it ends; or none.
unfoldable pub frame : List ℕ → Option Frame
frame s =
    pick (ltb (length s) 6) None
    (pick (ltb (le32 s 0) 2) None
    (pick (ltb (length s - 4) (le32 s 0)) None
    (whole (le16 s 4) (le32 s 0 + 4))))

-- n bytes that hold x, the low one first
abbrev pub le : ℕ → ℕ → List ℕ
le zero x = []
le (suc n) x = (x % 256) ∷ le n (x / 256)

-- how a record of the kind k with this body is written
unfoldable pub record_of : ℕ → List ℕ → List ℕ
record_of k body = le 4 (length body + 2) ++ (le 2 k ++ body)
