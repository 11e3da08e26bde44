-- The cycle of the walk. The measure is four times the length of the record, and a rank: an operand and a second operand, the nodes, any record, records
use native.Mathlib.Omega.{arith}
use mathlib.Core.Path.{refl, sym, ap, ◌∙◌}
use lib.ListN.{length}
use Prim.Native.Nat.{◌+◌}
use Rattle.reduce.proofs.NodeLaws.{part_length}
use Rattle.std.specs.Prelude.{Err}
use Rattle.std.proofs.lemmas.Result.{err_from_is_err_and}
use Rattle.reduce.proofs.ChainLaws.{below_length, one_operated}
use Rattle.reduce.proofs.StepLaws as step
use Rattle.reduce.proofs.ItemLaws as item
use Rattle.reduce.proofs.walk.+folds.Goals as goal

pub fold-returns-then-kind-lt-MONADIC : goal.fold-returns-then-kind-lt-MONADIC
fold-returns-then-kind-lt-MONADIC t c = λ u n e g. c.fold_leaf.ensures u n e g c.word_at-kind.ensures.0 c.if-kind-lt-MONADIC.true

pub fold_dyadic-op_at-op-requires : goal.fold_dyadic-op_at-op-requires
fold_dyadic-op_at-op-requires t c = step.two_operated c.args.s.now c.requires.0.of c.requires.1

pub fold_dyadic-overflow_add-m-2 : goal.fold_dyadic-overflow_add-m-2
fold_dyadic-overflow_add-m-2 t c = let q = step.middle_of c.args.s.now c.args.at _ c.args.room.now c.requires.0 c.requires.1 c.dword_at.ensures.0 in omega (arith, q.0)

pub fold_dyadic-slice_bounds-fold-end : goal.fold_dyadic-slice_bounds-fold-end
fold_dyadic-slice_bounds-fold-end t c = let q = step.middle_of c.args.s.now c.args.at _ c.args.room.now c.requires.0 c.requires.1 c.dword_at.ensures.0 in omega (arith, q.1)

pub fold_dyadic-fold-requires : goal.fold_dyadic-fold-requires
fold_dyadic-fold-requires t c = (let q = step.middle_of c.args.s.now c.args.at _ c.args.room.now c.requires.0 c.requires.1 c.dword_at.ensures.0 in let m = c.decreases in let h = part_length c.args.s.now 8 (12 + c.dword_at.result) (omega arith) (omega (arith, q.1)) in omega (arith, q.1), step.first-placed c.args.s.now c.args.at _ c.args.room.now c.requires.0 c.requires.1 c.dword_at.ensures.0)

pub fold_dyadic-returns-in_err-a : goal.fold_dyadic-returns-in_err-a
fold_dyadic-returns-in_err-a t c = let p = err_from_is_err_and c.from_residual.result c.from_residual.ensures.1 in step.dyadic_fails c.args.s.now c.args.at _ c.requires.0 c.requires.1 c.dword_at.ensures.0 c.in_err-a.ensures (p.1 ∙ ap Err p.2)

pub fold_dyadic-slice_bounds-fold-count-2 : goal.fold_dyadic-slice_bounds-fold-count-2
fold_dyadic-slice_bounds-fold-count-2 t c = let q = step.second_of c.args.s.now c.args.at _ c.requires.0 c.requires.1 c.dword_at.ensures.0 c.in_ok-a.ensures in omega (arith, q.middle)

pub fold_dyadic-slice_bounds-fold-start-2 : goal.fold_dyadic-slice_bounds-fold-start-2
fold_dyadic-slice_bounds-fold-start-2 t c = let q = step.second_of c.args.s.now c.args.at _ c.requires.0 c.requires.1 c.dword_at.ensures.0 c.in_ok-a.ensures in omega (arith, q.middle)

pub fold_dyadic-fold-requires-2 : goal.fold_dyadic-fold-requires-2
fold_dyadic-fold-requires-2 t c = (let q = step.second_of c.args.s.now c.args.at _ c.requires.0 c.requires.1 c.dword_at.ensures.0 c.in_ok-a.ensures in let m = c.decreases in let h = part_length c.args.s.now (12 + c.dword_at.result) (length c.args.s.now) (omega (arith, q.middle)) (omega arith) in omega (arith, q.middle), step.second-placed c.args.s.now c.args.at _ c.requires.0 c.requires.1 c.dword_at.ensures.0 c.in_ok-a.ensures)

pub fold_dyadic-returns-in_err-b : goal.fold_dyadic-returns-in_err-b
fold_dyadic-returns-in_err-b t c = let p = err_from_is_err_and c.from_residual-in_err-b.result c.from_residual-in_err-b.ensures.1 in step.second_refused c.args.s.now c.args.at _ c.requires.0 c.requires.1 c.dword_at.ensures.0 c.in_ok-a.ensures c.in_err-b.ensures (p.1 ∙ ap Err p.2)

pub fold_dyadic-put_meet-requires : goal.fold_dyadic-put_meet-requires
fold_dyadic-put_meet-requires t c = step.second-room c.args.s.now c.args.at _ c.requires.0 c.requires.1 c.dword_at.ensures.0 c.in_ok-a.ensures c.in_ok-b.ensures

pub fold_dyadic-returns : goal.fold_dyadic-returns
fold_dyadic-returns t c = step.dyadic_meets c.args.s.now c.args.at _ c.requires.0 c.requires.1 c.dword_at.ensures.0 c.in_ok-a.ensures c.in_ok-b.ensures _ c.op_at-op.ensures c.meet.ensures c.put_meet.ensures

pub fold_items-slice_bounds-put-count : goal.fold_items-slice_bounds-put-count
fold_items-slice_bounds-put-count t c = let q = item.items_start c.args.s.now c.args.at c.args.kind _ c.args.room.now c.items_at-p.ensures c.requires.1 c.requires.2 c.requires.0 in omega (arith, q.0)

pub fold_items-slice_bounds-put-start : goal.fold_items-slice_bounds-put-start
fold_items-slice_bounds-put-start t c = let q = item.items_start c.args.s.now c.args.at c.args.kind _ c.args.room.now c.items_at-p.ensures c.requires.1 c.requires.2 c.requires.0 in omega (arith, q.0)

pub fold_items-slice_bounds-put-end : goal.fold_items-slice_bounds-put-end
fold_items-slice_bounds-put-end t c = let q = item.items_start c.args.s.now c.args.at c.args.kind _ c.args.room.now c.items_at-p.ensures c.requires.1 c.requires.2 c.requires.0 in omega (arith, q.1)

pub fold_items-put-from-requires : goal.fold_items-put-from-requires
fold_items-put-from-requires t c = (item.name-room c.args.s.now c.args.at c.args.kind _ c.args.room.now c.items_at-p.ensures c.requires.1 c.requires.2 c.requires.0, c.requires.0.small)

pub fold_items-slice_bounds-fold_list-count : goal.fold_items-slice_bounds-fold_list-count
fold_items-slice_bounds-fold_list-count t c = let q = item.items_start c.args.s.now c.args.at c.args.kind _ c.args.room.now c.items_at-p.ensures c.requires.1 c.requires.2 c.requires.0 in omega (arith, q.1)

pub fold_items-slice_bounds-fold_list-start : goal.fold_items-slice_bounds-fold_list-start
fold_items-slice_bounds-fold_list-start t c = let q = item.items_start c.args.s.now c.args.at c.args.kind _ c.args.room.now c.items_at-p.ensures c.requires.1 c.requires.2 c.requires.0 in omega (arith, q.1)

pub fold_items-fold_list-requires : goal.fold_items-fold_list-requires
fold_items-fold_list-requires t c = (let q = item.items_start c.args.s.now c.args.at c.args.kind _ c.args.room.now c.items_at-p.ensures c.requires.1 c.requires.2 c.requires.0 in let m = c.decreases in let h = part_length c.args.s.now c.items_at-p.result (length c.args.s.now) (omega (arith, q.1)) (omega arith) in omega (arith, q.0, q.1), item.items-row c.args.s.now c.args.at c.args.kind _ c.args.room.now c.items_at-p.ensures c.requires.1 c.requires.2 c.requires.0 c.put-from.ensures.0 c.put-from.ensures.1)

pub fold_items-overflow_sub-end : goal.fold_items-overflow_sub-end
fold_items-overflow_sub-end t c = let q = item.items-frame c.args.s.now c.args.at c.args.kind _ c.args.room.now c.items_at-p.ensures c.requires.1 c.requires.2 c.requires.0 c.put-from.ensures.0 c.put-from.ensures.1 c.in_ok-end.ensures in omega (arith, q.0)

pub fold_items-overflow_sub-end-2 : goal.fold_items-overflow_sub-end-2
fold_items-overflow_sub-end-2 t c = let q = item.items-frame c.args.s.now c.args.at c.args.kind _ c.args.room.now c.items_at-p.ensures c.requires.1 c.requires.2 c.requires.0 c.put-from.ensures.0 c.put-from.ensures.1 c.in_ok-end.ensures in omega (arith, q.0)

pub fold_items-put_frame-requires : goal.fold_items-put_frame-requires
fold_items-put_frame-requires t c = let q = item.items-frame c.args.s.now c.args.at c.args.kind _ c.args.room.now c.items_at-p.ensures c.requires.1 c.requires.2 c.requires.0 c.put-from.ensures.0 c.put-from.ensures.1 c.in_ok-end.ensures in (omega (arith, q.0, q.1), omega (arith, q.2, q.3), omega (arith, q.1, q.2, q.3), c.requires.3)

pub fold_items-returns-in_err-end : goal.fold_items-returns-in_err-end
fold_items-returns-in_err-end t c = let p = err_from_is_err_and c.from_residual.result c.from_residual.ensures.1 in item.items_fail c.args.s.now c.args.at c.args.kind _ c.args.room.now c.items_at-p.ensures c.requires.1 c.requires.2 c.requires.0 c.put-from.ensures.0 c.put-from.ensures.1 c.in_err-end.ensures (p.1 ∙ ap Err p.2)

pub fold_items-returns : goal.fold_items-returns
fold_items-returns t c = item.items_done c.args.s.now c.args.at c.args.kind _ c.args.room.now c.items_at-p.ensures c.requires.1 c.requires.2 c.requires.0 c.put-from.ensures.0 c.put-from.ensures.1 c.in_ok-end.ensures c.put_frame.ensures

pub fold_list-loop-p-init : goal.fold_list-loop-p-init
fold_list-loop-p-init t c = (refl, item.so_start c.args.s.now c.args.at c.args.room.now c.requires)

pub fold_list-overflow_add-z : goal.fold_list-overflow_add-z
fold_list-overflow_add-z t c = let q = item.so_inside c.args.s.now c.args.at _ _ c.args.room.now _ c.requires c.loop-p.invariant.1 in omega (arith, c.requires.fits, c.requires.small)

pub fold_list-overflow_add-z-in-loop-p : goal.fold_list-overflow_add-z-in-loop-p
fold_list-overflow_add-z-in-loop-p t c = let q = item.item_ends c.args.s.now c.args.at _ _ c.args.room.now _ c.requires c.loop-p.invariant.1 _ c.loop-p-test.true c.dword_at.ensures.0 in omega (arith, q.2, c.requires.fits, c.requires.small)

pub fold_list-slice_bounds-fold-count : goal.fold_list-slice_bounds-fold-count
fold_list-slice_bounds-fold-count t c = let q = item.item_ends c.args.s.now c.args.at _ _ c.args.room.now _ c.requires c.loop-p.invariant.1 _ c.loop-p-test.true c.dword_at.ensures.0 in omega (arith, q.1)

pub fold_list-slice_bounds-fold-start : goal.fold_list-slice_bounds-fold-start
fold_list-slice_bounds-fold-start t c = let q = item.item_ends c.args.s.now c.args.at _ _ c.args.room.now _ c.requires c.loop-p.invariant.1 _ c.loop-p-test.true c.dword_at.ensures.0 in omega (arith, q.1)

pub fold_list-slice_bounds-fold-end : goal.fold_list-slice_bounds-fold-end
fold_list-slice_bounds-fold-end t c = let q = item.item_ends c.args.s.now c.args.at _ _ c.args.room.now _ c.requires c.loop-p.invariant.1 _ c.loop-p-test.true c.dword_at.ensures.0 in omega (arith, q.2)

pub fold_list-fold-requires : goal.fold_list-fold-requires
fold_list-fold-requires t c = (let m = c.decreases in let h = item.item_length c.args.s.now c.args.at _ _ c.args.room.now _ c.requires c.loop-p.invariant.1 _ c.loop-p-test.true c.dword_at.ensures.0 in omega arith, item.item_placed c.args.s.now c.args.at _ _ c.args.room.now _ c.requires c.loop-p.invariant.1 _ c.loop-p-test.true c.dword_at.ensures.0)

pub fold_list-returns-in_err-here : goal.fold_list-returns-in_err-here
fold_list-returns-in_err-here t c = let p = err_from_is_err_and c.from_residual.result c.from_residual.ensures.1 in item.item_fails c.args.s.now c.args.at _ _ c.args.room.now _ c.requires c.loop-p.invariant.1 c.loop-p-test.true c.dword_at.ensures.0 c.in_err-here.ensures (p.1 ∙ ap Err p.2)

pub fold_list-loop-p-smaller : goal.fold_list-loop-p-smaller
fold_list-loop-p-smaller t c = let q = item.item_ends c.args.s.now c.args.at _ _ c.args.room.now _ c.requires c.loop-p.invariant.1 _ c.loop-p-test.true c.dword_at.ensures.0 in omega (arith, q.1, q.2)

pub fold_list-loop-p-preserved : goal.fold_list-loop-p-preserved
fold_list-loop-p-preserved t c = (c.fold.auto.room ∙ c.loop-p.invariant.0, item.item_next c.args.s.now c.args.at _ _ c.args.room.now _ c.requires c.loop-p.invariant.1 c.loop-p-test.true c.dword_at.ensures.0 c.in_ok-here.ensures)

pub fold_list-returns : goal.fold_list-returns
fold_list-returns t c = item.list_ends c.args.s.now c.args.at _ _ c.args.room.now _ c.requires c.loop-p.invariant.1 (omega arith)

pub fold_monadic-overflow_sub-s : goal.fold_monadic-overflow_sub-s
fold_monadic-overflow_sub-s t c = let q = step.text_room c.args.s.now c.args.at _ _ c.args.room.now c.requires.0 c.requires.1 c.chain.ensures c.in-Text.is in omega (arith, q.0)

pub fold_monadic-put_str-requires : goal.fold_monadic-put_str-requires
fold_monadic-put_str-requires t c = let q = step.text_room c.args.s.now c.args.at _ _ c.args.room.now c.requires.0 c.requires.1 c.chain.ensures c.in-Text.is in (q.1, q.2, c.requires.0.small, q.3)

pub fold_monadic-slice_bounds-fold-count : goal.fold_monadic-slice_bounds-fold-count
fold_monadic-slice_bounds-fold-count t c = let h = below_length c.args.s.now c.requires.0.of c.requires.1 in omega arith

pub fold_monadic-slice_bounds-fold-start : goal.fold_monadic-slice_bounds-fold-start
fold_monadic-slice_bounds-fold-start t c = let h = below_length c.args.s.now c.requires.0.of c.requires.1 in omega arith

pub fold_monadic-fold-requires : goal.fold_monadic-fold-requires
fold_monadic-fold-requires t c = (let h = below_length c.args.s.now c.requires.0.of c.requires.1 in let m = c.decreases in let k = part_length c.args.s.now 8 (length c.args.s.now) (omega arith) (omega arith) in omega arith, step.twin-placed c.args.s.now c.args.at c.args.room.now c.requires.0 c.requires.1)

pub fold_monadic-returns-in-Text : goal.fold_monadic-returns-in-Text
fold_monadic-returns-in-Text t c = step.text_way c.args.s.now c.args.at _ _ c.requires.0 c.requires.1 c.chain.ensures c.in-Text.is c.put_str.ensures

pub fold_monadic-returns-in-Twin : goal.fold_monadic-returns-in-Twin
fold_monadic-returns-in-Twin t c = step.twin_way c.args.s.now c.args.at c.requires.1 c.chain.ensures c.in-Twin.is c.fold.ensures

pub fold_monadic-returns-in-Other : goal.fold_monadic-returns-in-Other
fold_monadic-returns-in-Other t c = step.other_way c.args.s.now c.args.at c.requires.1 c.chain.ensures c.in-Other.is c.fold_operand.ensures

pub fold_operand-op_at-op-requires : goal.fold_operand-op_at-op-requires
fold_operand-op_at-op-requires t c = one_operated c.args.s.now c.requires.0.of c.requires.1

pub fold_operand-slice_bounds-fold-count : goal.fold_operand-slice_bounds-fold-count
fold_operand-slice_bounds-fold-count t c = let h = below_length c.args.s.now c.requires.0.of c.requires.1 in omega arith

pub fold_operand-slice_bounds-fold-start : goal.fold_operand-slice_bounds-fold-start
fold_operand-slice_bounds-fold-start t c = let h = below_length c.args.s.now c.requires.0.of c.requires.1 in omega arith

pub fold_operand-fold-requires : goal.fold_operand-fold-requires
fold_operand-fold-requires t c = (let h = below_length c.args.s.now c.requires.0.of c.requires.1 in let m = c.decreases in let k = part_length c.args.s.now 8 (length c.args.s.now) (omega arith) (omega arith) in omega arith, step.operand_placed c.args.s.now c.args.at c.args.room.now c.requires.0 c.requires.1)

pub fold_operand-put_turn-requires : goal.fold_operand-put_turn-requires
fold_operand-put_turn-requires t c = step.operand_room c.args.s.now c.args.at _ _ c.requires.0 c.requires.1 c.in_ok-v.ensures c.turn.ensures

pub fold_operand-returns-in_err-v : goal.fold_operand-returns-in_err-v
fold_operand-returns-in_err-v t c = let p = err_from_is_err_and c.from_residual.result c.from_residual.ensures.1 in step.operand_fails c.args.s.now c.args.at c.in_err-v.ensures (p.1 ∙ ap Err p.2)

pub fold_operand-returns : goal.fold_operand-returns
fold_operand-returns t c = step.operand_turns c.args.s.now c.args.at _ c.in_ok-v.ensures c.op_at-op.ensures c.turn.ensures c.put_turn.ensures
