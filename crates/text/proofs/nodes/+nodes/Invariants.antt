-- The cycle of the node writer, its forms with operands and the item-list writer. The measure is five times the length of the record, and a rank: a bound, the forms, all but the temporal ones, operands, node, items and ends.
use mathlib.Core.Path.{◌≡◌}
use mathlib.Core.Bool.{true}
use Prim.Native.Nat.{◌+◌, ◌-◌, ◌*◌, ◌≤◌}
use lib.ListN.{length, take}
use Rattle.tree.specs.Tree.{Tree, Trees, encode, encodes}
use Rattle.record.specs.Record.{le16}
use Rattle.sql.specs.Template.{fill, spelt}
use Rattle.emit.specs.Emit.{count_limit}
use Rattle.emit.specs.LaysWords.{Lays}
use Rattle.text.specs.EndWords.{slot, node_ends}
use Rattle.text.specs.RecordWords.{sound, sounds}
use Rattle.tree.specs.Accepted.{settings_in}
use Rattle.text.proofs.WalkLaws.{Come}
use Prim.Native.Nat.{◌<◌}
use Rattle.text.proofs.nodes.+nodes.Given as goal

abbrev pub decreases-to_sql_impl : goal.decreases-to_sql_impl
decreases-to_sql_impl l = 5 * length l.s.now + 4

abbrev pub decreases-write_between : goal.decreases-write_between
decreases-write_between l = 5 * length l.s.now + 1

abbrev pub decreases-write_bound : goal.decreases-write_bound
decreases-write_bound l = 5 * length l.s.now

abbrev pub decreases-write_end : goal.decreases-write_end
decreases-write_end l = 5 * length l.s.now + 5

abbrev pub decreases-write_infix : goal.decreases-write_infix
decreases-write_infix l = 5 * length l.s.now + 1

abbrev pub decreases-write_items : goal.decreases-write_items
decreases-write_items l = 5 * length l.s.now + 5

abbrev pub decreases-write_monadic : goal.decreases-write_monadic
decreases-write_monadic l = 5 * length l.s.now + 1

abbrev pub decreases-write_operands : goal.decreases-write_operands
decreases-write_operands l = 5 * length l.s.now + 3

abbrev pub decreases-write_others : goal.decreases-write_others
decreases-write_others l = 5 * length l.s.now + 2

abbrev pub decreases-write_spatial : goal.decreases-write_spatial
decreases-write_spatial l = 5 * length l.s.now + 1

abbrev pub invariant-write_items-loop-p : goal.invariant-write_items-loop-p
invariant-write_items-loop-p l = (length l.out ≡ length l.initial.out) × ((ts : Trees) → l.s ≡ encodes ts → sounds ts ≡ true → Come l.style.writing (settings_in l.style.set.now) l.s l.at l.initial.out ts l.p l.here l.out)

abbrev pub decreases-write_items-loop-p : goal.decreases-write_items-loop-p
decreases-write_items-loop-p l = length l.s - l.p

abbrev pub invariant-write_operands-loop-part : goal.invariant-write_operands-loop-part
invariant-write_operands-loop-part l = (length l.out ≡ length l.initial.out) × ((t : Tree) → l.s ≡ encode t → sound t ≡ true → 9 ≤ le16 l.s 4 → le16 l.s 4 < 11 → Lays count_limit l.at (fill (slot l.style.writing (settings_in l.style.set.now) (node_ends t)) (spelt (take l.part-index l.parts))) l.initial.out l.out l.here)
