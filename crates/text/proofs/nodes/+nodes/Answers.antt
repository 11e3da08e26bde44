-- The cycle of the node writer, its forms with operands and the item-list writer. The measure is five times the length of the record, and a rank: a bound, the forms, all but the temporal ones, operands, node, items and ends.
use borrow.Author.Rules.{rules}
use native.Mathlib.Omega.{arith}
use mathlib.Core.Path.{◌≡◌, refl, sym, ap, ◌∙◌}
use mathlib.Core.List.{List}
use lib.Seq.{take_all}
use Rattle.sql.specs.declared.Part.{Part}
use Rattle.text.specs.EndWords.{slot, node_ends}
use Rattle.text.proofs.nodes.+nodes.Goals.{write_operands-in-Plain, write_operands-in-Node+else-not-inside, write_operands-in-Name+else-not-inside-2}
use mathlib.Core.Bool.{true}
use Prim.Native.Nat.{◌+◌, ◌-◌}
use lib.ListN.{length, length-take, length-drop}
use Rattle.emit.specs.EmitLaws.{lays, lays_none, lays_of, lays_past, lays_then}
use Rattle.record.specs.Record.{le16}
use Rattle.sql.specs.Template.{fill, spelt}
use Rattle.tree.specs.Accepted.{settings_in}
use Rattle.text.proofs.WalkLaws.{come_start, come_next, come_end, leaf-step, date-step, high_text, six, fourteen, listed, node_of, node_piece, name_piece, plain_step, node-step, name-step, monadic_node, monadic_step, from_bounds, items_fall, items_short, infix_step, two_node, not_either, or_else, temporal_node, node_ends_lem, not_temporal, bounds_range, bound_null, bound_item, between_step, spatial_step}
use lib.Dec.{eqb}
use Rattle.class.specs.ClassWords.{between_number, spatial_number}
use borrow.Fn.PlainCycle.{is}
use Rattle.text.proofs.nodes.+nodes.Goals as goal

pub to_sql_impl-returns-then-at-ge-COUNT_LIMIT : goal.to_sql_impl-returns-then-at-ge-COUNT_LIMIT
to_sql_impl-returns-then-at-ge-COUNT_LIMIT t c = λ t e f. lays_past _ _ c.if-at-ge-COUNT_LIMIT.true

pub to_sql_impl-returns-then-kind-lt-MONADIC : goal.to_sql_impl-returns-then-kind-lt-MONADIC
to_sql_impl-returns-then-kind-lt-MONADIC t c = λ t e f. lays_of (leaf-step c.args.style.writing (settings_in c.args.style.set.now) c.args.s.now t c.word_at-kind.result e f c.word_at-kind.ensures.0 c.if-kind-lt-MONADIC.true) c.put_leaf.ensures

pub to_sql_impl-returns-then-kind-gt-ARRAY : goal.to_sql_impl-returns-then-kind-gt-ARRAY
to_sql_impl-returns-then-kind-gt-ARRAY t c = λ t e f. lays_of (high_text c.args.style.writing (settings_in c.args.style.set.now) c.args.s.now t c.word_at-kind.result e c.word_at-kind.ensures.0 c.if-kind-gt-ARRAY.true) (lays_none c.ended.ensures)

pub to_sql_impl-returns-then-s-lt-BODY : goal.to_sql_impl-returns-then-s-lt-BODY
to_sql_impl-returns-then-s-lt-BODY t c = λ t e f. absurd (let h = six _ t e in let v : ⊥ = omega arith in v)

pub to_sql_impl-returns-then-s-lt-OPERAND_BODY : goal.to_sql_impl-returns-then-s-lt-OPERAND_BODY
to_sql_impl-returns-then-s-lt-OPERAND_BODY t c = λ t e f. absurd (let h = fourteen _ t c.word_at-kind.result e c.word_at-kind.ensures.0 (omega arith) (omega arith) in let v : ⊥ = omega arith in v)

pub to_sql_impl-returns-then-kind-lt-FUNCTION : goal.to_sql_impl-returns-then-kind-lt-FUNCTION
to_sql_impl-returns-then-kind-lt-FUNCTION t c = λ t e f. c.write_operands.ensures t e f (let q = c.word_at-kind.ensures.0 in omega arith) (let q = c.word_at-kind.ensures.0 in omega arith)

pub to_sql_impl-returns : goal.to_sql_impl-returns
to_sql_impl-returns t c = λ t e f. let w = listed c.args.style.writing (settings_in c.args.style.set.now) c.args.s.now c.word_at-kind.result c.min.result c.items_at-to.result t e f c.word_at-kind.ensures.0 (omega arith) (omega arith) c.items_at-to.ensures.2 c.min.ensures in lays_of (sym w.whole) (lays_then (lays c.put-name.ensures) (lays_then (lays c.put-open.ensures) (lays_then (c.write_items-here.ensures w.ts w.there w.fit) (lays c.put.ensures))))

pub write_between-returns : goal.write_between-returns
write_between-returns t c = λ t nd h. between_step c.args.style.writing (settings_in c.args.style.set.now) nd h c.bounds_at-p.ensures c.end_of-q.ensures c.end_of-z.ensures c.to_sql_impl-left.ensures c.put_infix-word.ensures c.write_bound-low.ensures (lays c.put-upto.ensures) c.write_bound.ensures

pub write_bound-returns-then-a-z : goal.write_bound-returns-then-a-z
write_bound-returns-then-a-z t c = λ x b. lays_of (bound_null c.args.style.writing (settings_in c.args.style.set.now) c.if-a-z.true b) (lays c.put.ensures)

pub write_bound-returns : goal.write_bound-returns
write_bound-returns t c = λ x b. let w = bound_item c.if-a-z.false b in c.to_sql_impl.ensures x w.0 w.1

pub write_end-returns-then-word_at-eq-DATE : goal.write_end-returns-then-word_at-eq-DATE
write_end-returns-then-word_at-eq-DATE t c = λ t e f. lays_of (date-step c.args.style.writing (settings_in c.args.style.set.now) c.args.s.now t c.word_at.result e f c.word_at.ensures.0 c.if-word_at-eq-DATE.true) c.put_date.ensures

pub write_end-returns : goal.write_end-returns
write_end-returns t c = λ t e f. c.to_sql_impl.ensures t e f

pub write_infix-returns : goal.write_infix-returns
write_infix-returns t c = λ t nd ht hs hw. infix_step c.args.style.writing (settings_in c.args.style.set.now) nd ht hs hw c.is_left_bare-a.ensures c.is_right_bare-b.ensures (lays c.put_either-open.ensures) c.to_sql_impl-left.ensures c.put_infix-here.ensures c.to_sql_impl-right.ensures (lays c.put_either.ensures)

pub write_items-loop-p-init : goal.write_items-loop-p-init
write_items-loop-p-init t c = (refl, λ ts e f. come_start _ _ _ _ _ ts _ e f c.ended-here.ensures)

pub write_items-loop-p-smaller : goal.write_items-loop-p-smaller
write_items-loop-p-smaller t c = let h = c.end_of-z.ensures.moves (omega arith) in omega arith

pub write_items-loop-p-preserved : goal.write_items-loop-p-preserved
write_items-loop-p-preserved t c = (c.to_sql_impl-here.auto.out ∙ c.put_comma-comma.auto.out ∙ c.loop-p.invariant.0, λ ts e f. let w = come_next (omega arith) c.end_of-z.ensures (c.loop-p.invariant.1 ts e f) in w.on c.put_comma-comma.ensures (c.to_sql_impl-here.ensures w.u w.stands w.fit))

pub write_items-returns : goal.write_items-returns
write_items-returns t c = λ ts e f. come_end (omega arith) (c.loop-p.invariant.1 ts e f)

pub write_monadic-returns : goal.write_monadic-returns
write_monadic-returns t c = λ m t nd. monadic_step c.args.style.writing (settings_in c.args.style.set.now) nd c.is_literal_or_id-bare.ensures c.word_at.ensures.0 c.word_at-2.ensures.0 c.is_twin-twin.ensures c.operand_from-from.ensures c.put_before-before.ensures c.to_sql_impl-here.ensures c.put_behind.ensures

pub write_operands-returns-then-not-is_temporal : goal.write_operands-returns-then-not-is_temporal
write_operands-returns-then-not-is_temporal t c = λ t e f a b. c.write_others.ensures t (node_of c.args.s.now c.word_at-kind.result c.word_at-op.result c.end_of-m.result t e f c.word_at-kind.ensures.0 c.word_at-op.ensures.0 c.end_of-m.ensures (let q = c.word_at-kind.ensures.0 in omega arith) (let q = c.word_at-kind.ensures.0 in omega arith)) (sym c.is_temporal.ensures ∙ c.if-not-is_temporal.true)

pub write_operands-loop-part-init : goal.write_operands-loop-part-init
unfolding fill spelt
write_operands-loop-part-init t c = (refl, λ t e f a b. lays_none c.ended-here.ensures)

pub write_operands-returns-then-not-inside : goal.write_operands-returns-then-not-inside
write_operands-returns-then-not-inside t c = λ t e f a b. let tn = temporal_node (sym c.is_temporal.ensures ∙ c.if-not-is_temporal.false) (node_of c.args.s.now c.word_at-kind.result c.word_at-op.result c.end_of-m.result t e f c.word_at-kind.ensures.0 c.word_at-op.ensures.0 c.end_of-m.ensures (let q = c.word_at-kind.ensures.0 in omega arith) (let q = c.word_at-kind.ensures.0 in omega arith)) in let ar = node_ends_lem tn.0 _ c.temporal_ends-e.ensures in let pc = sym c.piece_of.ensures ∙ c.in-Node.is in let ch = node_piece c.args.style.writing (settings_in c.args.style.set.now) ar _ _ _ pc in absurd (c.inside.ensures.no (c.if-not-inside.true) ch.inside.starts ch.inside.order ch.inside.ends)

pub write_operands-returns-then-not-inside-2 : goal.write_operands-returns-then-not-inside-2
write_operands-returns-then-not-inside-2 t c = λ t e f a b. let tn = temporal_node (sym c.is_temporal.ensures ∙ c.if-not-is_temporal.false) (node_of c.args.s.now c.word_at-kind.result c.word_at-op.result c.end_of-m.result t e f c.word_at-kind.ensures.0 c.word_at-op.ensures.0 c.end_of-m.ensures (let q = c.word_at-kind.ensures.0 in omega arith) (let q = c.word_at-kind.ensures.0 in omega arith)) in let ar = node_ends_lem tn.0 _ c.temporal_ends-e.ensures in let pc = sym c.piece_of.ensures ∙ c.in-Name.is in let ch = name_piece c.args.style.writing (settings_in c.args.style.set.now) ar _ _ _ pc in absurd (c.inside-in-Name.ensures.no (c.if-not-inside-2.true) ch.inside.starts ch.inside.order ch.inside.ends)

pub write_operands-loop-part-preserved : goal.write_operands-loop-part-preserved
write_operands-loop-part-preserved t c = (
  c.match-piece_of.auto.out ∙ c.loop-part.invariant.0,
  λ t e f a b. let tn = temporal_node (sym c.is_temporal.ensures ∙ c.if-not-is_temporal.false) (node_of c.args.s.now c.word_at-kind.result c.word_at-op.result c.end_of-m.result t e f c.word_at-kind.ensures.0 c.word_at-op.ensures.0 c.end_of-m.ensures (let q = c.word_at-kind.ensures.0 in omega arith) (let q = c.word_at-kind.ensures.0 in omega arith)) in let ar = node_ends_lem tn.0 _ c.temporal_ends-e.ensures in
      elim c.match-piece_of.branch [
        | write_operands-in-Plain w ↦ rw (w.out-is, w.here-is) (plain_step c.args.style.writing (settings_in c.args.style.set.now) ar c.as_slice-parts.result.now c.loop-part.part-index _ c.loop-part-test.true (c.loop-part.invariant.1 t e f a b) _ (sym c.piece_of.ensures ∙ w.in-Plain.is) (lays w.put_flat-here.ensures))
        | write_operands-in-Node+else-not-inside w ↦ let pc = sym c.piece_of.ensures ∙ w.in-Node.is in let ch = node_piece c.args.style.writing (settings_in c.args.style.set.now) ar _ _ _ pc in rw (w.out-is, w.here-is) (node-step c.args.style.writing (settings_in c.args.style.set.now) ar c.as_slice-parts.result.now c.loop-part.part-index _ c.loop-part-test.true (c.loop-part.invariant.1 t e f a b) _ _ pc (w.write_end-here.ensures ch.x ch.stands ch.fit))
        | write_operands-in-Name+else-not-inside-2 w ↦ let pc = sym c.piece_of.ensures ∙ w.in-Name.is in rw (w.out-is, w.here-is) (name-step c.args.style.writing (settings_in c.args.style.set.now) ar c.as_slice-parts.result.now c.loop-part.part-index _ c.loop-part-test.true (c.loop-part.invariant.1 t e f a b) _ _ pc (lays_of w.rest.ensures (lays w.put-here.ensures)))
      ],
)

pub write_operands-returns : goal.write_operands-returns
write_operands-returns t c = λ t e f a b. let tn = temporal_node (sym c.is_temporal.ensures ∙ c.if-not-is_temporal.false) (node_of c.args.s.now c.word_at-kind.result c.word_at-op.result c.end_of-m.result t e f c.word_at-kind.ensures.0 c.word_at-op.ensures.0 c.end_of-m.ensures (let q = c.word_at-kind.ensures.0 in omega arith) (let q = c.word_at-kind.ensures.0 in omega arith)) in let ar = node_ends_lem tn.0 _ c.temporal_ends-e.ensures in lays_of (ap (λ (ps : List Part). fill (slot c.args.style.writing (settings_in c.args.style.set.now) (node_ends t)) (spelt ps)) (take_all c.loop-part.part-index c.as_slice-parts.result.now (omega arith) ∙ c.as_slice-parts.ensures.value) ∙ sym (c.template_of-t.ensures.text c.args.style.writing (settings_in c.args.style.set.now) t tn.0 tn.1 ar)) (c.loop-part.invariant.1 t e f a b)

pub write_others-returns-then-kind-eq-MONADIC : goal.write_others-returns-then-kind-eq-MONADIC
write_others-returns-then-kind-eq-MONADIC t c = λ t nd nt. c.write_monadic.ensures c.args.m t (monadic_node c.if-kind-eq-MONADIC.true nd)

pub write_others-returns-then-is_infix : goal.write_others-returns-then-is_infix
write_others-returns-then-is_infix t c = λ t nd nt. let w = two_node c.if-kind-eq-MONADIC.false nd in let n = not_either (spatial_number c.args.op) (between_number c.args.op) (sym c.is_infix.ensures ∙ c.if-is_infix.true) in c.write_infix.ensures t w.1 (not_temporal c.args.kind c.args.op w.0 nt) n.0 n.1

pub write_others-returns-then-is_spatial : goal.write_others-returns-then-is_spatial
write_others-returns-then-is_spatial t c = λ t nd nt. c.write_spatial.ensures t (two_node c.if-kind-eq-MONADIC.false nd).1 (sym c.is_spatial.ensures ∙ c.if-is_spatial.true)

pub write_others-returns : goal.write_others-returns
write_others-returns t c = λ t nd nt. c.write_between.ensures t (two_node c.if-kind-eq-MONADIC.false nd).1 (or_else (spatial_number c.args.op) (between_number c.args.op) (sym c.is_infix.ensures ∙ c.if-is_infix.false) (sym c.is_spatial.ensures ∙ c.if-is_spatial.false))

pub write_spatial-returns : goal.write_spatial-returns
write_spatial-returns t c = λ t nd h. spatial_step c.args.style.writing (settings_in c.args.style.set.now) nd h c.is_kind-x.ensures c.is_kind-y.ensures c.reduce_precision-a.ensures c.reduce_precision-b.ensures c.put_word-word.ensures (lays c.put_either-open.ensures) c.to_sql_impl-left.ensures c.put_reduced-comma.ensures (lays c.put_either-next.ensures) c.to_sql_impl-right.ensures c.put_reduced-close.ensures (lays c.put.ensures)
