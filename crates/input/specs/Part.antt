-- What was read where a part of a case is due: the format of the programs' input and of the stored cases, in which each part stands after its
-- length in four bytes, little-endian. Document 01 has no such format.
use Rattle.std.specs.Prelude.{ℕ, ◌+◌, ◌≡◌, List, eqb, ltb, min, take, Option, Some, None, Result, Ok, Err}
use Rattle.std.specs.List.{All}
use Rattle.prelude.specs.Choice.{pick}
use Rattle.record.specs.Record.{le32}
use Rattle.input.specs.declared.Part.{Part}
use Rattle.input.specs.declared.Cut.{Cut}

-- Where so many bytes were read, head being the first four: nothing; fewer than the length says; or a part, which stands in the first bytes of
-- the buffer, as many as the length says or, where that is more, as the buffer has room for.
unfoldable pub part_of : List ℕ → ℕ → ℕ → Result (Option ℕ) Cut
part_of head read room =
    pick (eqb read 0) (Ok None)
    (pick (ltb read (4 + le32 head 0)) (Err (record {}))
    (Ok (Some (min (le32 head 0) room))))

-- the bytes of a part
abbrev pub held : Part → List ℕ
held p = take p.len p.buffer

-- a part that was read: its length is that of some first four bytes and some count, with room for 65,536 bytes
abbrev pub IsRead : Part → Type 0
IsRead p = (head : List ℕ) × (read : ℕ) × (part_of head read 65536 ≡ Ok (Some p.len))

abbrev pub AreRead : List Part → Type 0
AreRead ps = All IsRead ps
