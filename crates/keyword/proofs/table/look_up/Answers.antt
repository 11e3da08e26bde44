-- `keyword::table::look_up` meets its contract: the words of the length from `at` on, `left` in number, hold the word exactly if it is reserved.
use mathlib.Core.Path.{sym, ◌∙◌}
use Prim.Native.Nat.{◌<◌}
use native.Mathlib.Omega.{arith}
use borrow.Author.Rules.{rules}
use lib.ListN.{length}
use Rattle.word.specs.Case.{uppers}
use Rattle.keyword.proofs.TableLaws.{at_first, room, found, next, at_last}
use Rattle.keyword.proofs.table.look_up.Goals as goal

pub loop-left-init : goal.loop-left-init
loop-left-init c =
    let a = c.args in
    let p = c.requires in
    (rw (c.place-at.ensures, c.count-left.ensures) (p.0.inside _ p.2), rw (c.place-at.ensures, c.count-left.ensures) (at_first a.table.now a.s.now p.0 p.2))

pub stands-requires : goal.stands-requires
stands-requires c =
    let l = c.loop-left in
    let more : 0 < l.left = omega arith in
    ((room _ _ _ _ more l.invariant.0).0, c.requires.1, c.upper_of-first.ensures)

pub returns-then-stands : goal.returns-then-stands
returns-then-stands c =
    let a = c.args in
    let l = c.loop-left in
    let more : 0 < l.left = omega arith in
    sym (sym l.invariant.1 ∙ found (uppers a.s.now) a.table.now (length a.s.now) l.at l.left more (sym c.stands.ensures ∙ c.if-stands.true))

pub overflow_add-at : goal.overflow_add-at
overflow_add-at c =
    let l = c.loop-left in
    let more : 0 < l.left = omega arith in
    let z = room _ _ _ _ more l.invariant.0 in
    search rules

pub loop-left-preserved : goal.loop-left-preserved
loop-left-preserved c =
    let a = c.args in
    let l = c.loop-left in
    let more : 0 < l.left = omega arith in
    ((room _ _ _ _ more l.invariant.0).1, sym (next (uppers a.s.now) a.table.now (length a.s.now) l.at l.left more (sym c.stands.ensures ∙ c.if-stands.false)) ∙ l.invariant.1)

pub returns : goal.returns
returns c =
    let a = c.args in
    let l = c.loop-left in
    sym (sym l.invariant.1 ∙ at_last (uppers a.s.now) a.table.now (length a.s.now) l.at l.left (omega arith))
