-- The proof of the cycle of calls. The measure is the levels left, and a place in the round. Each return cites the law of its case.
use native.Mathlib.Omega.{arith}
use Rattle.std.specs.Prelude.{Ok, Bool}
use mathlib.Core.Path.{refl, sym, ap, ◌∙◌}
use Prim.Native.Nat.{◌-◌}
use lib.ListN.{length}
use Rattle.record.specs.FrameLaws as frames
use Rattle.tree.proofs.WalkLaws as walk
use Rattle.tree.specs.Parse.{choose, kinds}
use Rattle.tree.specs.declared.Shape.TheVariants.{Interval, Other}
use Rattle.tree.specs.WalkWords.{or_misplaced, monadic_one, dyadic_one, function_one, array_one, interval_one}
use Rattle.tree.proofs.+checks.Goals as goal

pub check_dyadic-slice_bounds-check_two-count : goal.check_dyadic-slice_bounds-check_two-count
unfolding choose kinds
check_dyadic-slice_bounds-check_two-count t c = omega (arith, walk.taken_long _ _ _ (sym c.in_ok-op.ensures))

pub check_dyadic-slice_bounds-check_two-start : goal.check_dyadic-slice_bounds-check_two-start
unfolding choose kinds
check_dyadic-slice_bounds-check_two-start t c = omega (arith, walk.taken_long _ _ _ (sym c.in_ok-op.ensures))

pub check_dyadic-slice_bounds-check_two-end : goal.check_dyadic-slice_bounds-check_two-end
unfolding choose kinds
check_dyadic-slice_bounds-check_two-end t c = omega (arith, walk.taken_long _ _ _ (sym c.in_ok-op.ensures))

pub check_first-slice_bounds-check_node-count : goal.check_first-slice_bounds-check_node-count
unfolding choose kinds
check_first-slice_bounds-check_node-count t c = (frames.frame-within _ _ _ (sym c.frame_at.ensures ∙ c.in-Some.is)).0

pub check_first-slice_bounds-check_node-start : goal.check_first-slice_bounds-check_node-start
unfolding choose kinds
check_first-slice_bounds-check_node-start t c = (frames.frame-within _ _ _ (sym c.frame_at.ensures ∙ c.in-Some.is)).0

pub check_first-slice_bounds-check_node-end : goal.check_first-slice_bounds-check_node-end
unfolding choose kinds
check_first-slice_bounds-check_node-end t c = (frames.frame-within _ _ _ (sym c.frame_at.ensures ∙ c.in-Some.is)).1

pub check_function-bounds-s-0 : goal.check_function-bounds-s-0
unfolding choose kinds
check_function-bounds-s-0 t c = omega (arith, walk.named-within c.args.s.now (sym c.named_at.ensures ∙ c.if-not-named_at.false))

pub check_function-slice_bounds-check_many-count : goal.check_function-slice_bounds-check_many-count
unfolding choose kinds
check_function-slice_bounds-check_many-count t c = omega (arith, walk.named-within c.args.s.now (sym c.named_at.ensures ∙ c.if-not-named_at.false))

pub check_function-slice_bounds-check_many-start : goal.check_function-slice_bounds-check_many-start
unfolding choose kinds
check_function-slice_bounds-check_many-start t c = omega (arith, walk.named-within c.args.s.now (sym c.named_at.ensures ∙ c.if-not-named_at.false))

pub check_function-slice_bounds-check_many-end : goal.check_function-slice_bounds-check_many-end
unfolding choose kinds
check_function-slice_bounds-check_many-end t c = omega (arith, walk.named-within c.args.s.now (sym c.named_at.ensures ∙ c.if-not-named_at.false))

pub check_many-loop-at-init : goal.check_many-loop-at-init
unfolding choose kinds
check_many-loop-at-init t c = (omega arith, omega arith, (length c.args.s.now, omega arith, walk.many_start _ c.args.s.now))

pub check_many-overflow_add-at : goal.check_many-overflow_add-at
unfolding choose kinds
check_many-overflow_add-at t c = omega (arith, walk.tail_within _ c.args.s.now c.loop-at.at _ _ c.loop-at.invariant.0 (sym c.in_ok-n.ensures))

pub check_many-overflow_add-count : goal.check_many-overflow_add-count
unfolding choose kinds
check_many-overflow_add-count t c = omega (arith, walk.tail_within _ c.args.s.now c.loop-at.at _ _ c.loop-at.invariant.0 (sym c.in_ok-n.ensures))

pub check_many-loop-at-smaller : goal.check_many-loop-at-smaller
unfolding choose kinds
check_many-loop-at-smaller t c = omega (arith, walk.tail_within _ c.args.s.now c.loop-at.at _ _ c.loop-at.invariant.0 (sym c.in_ok-n.ensures))

pub check_many-loop-at-preserved : goal.check_many-loop-at-preserved
unfolding choose kinds
check_many-loop-at-preserved t c = (omega (arith, walk.tail_within _ c.args.s.now c.loop-at.at _ _ c.loop-at.invariant.0 (sym c.in_ok-n.ensures)), omega (arith, walk.tail_within _ c.args.s.now c.loop-at.at _ _ c.loop-at.invariant.0 (sym c.in_ok-n.ensures)), (c.loop-at.invariant.2.0 - 1, omega (arith, walk.tail_within _ c.args.s.now c.loop-at.at _ _ c.loop-at.invariant.0 (sym c.in_ok-n.ensures)), c.loop-at.invariant.2.2 ∙ walk.many_on _ c.args.s.now _ _ _ _ _ _ _ _ c.loop-at-test.true c.loop-at.invariant.2.1 (sym c.in_ok-n.ensures) c.still_plain-plain.ensures refl))

pub check_many-returns : goal.check_many-returns
unfolding choose kinds
check_many-returns t c = sym (c.loop-at.invariant.2.2 ∙ walk.many-end _ c.args.s.now _ _ _ _ c.loop-at-test.false)

pub check_monadic-slice_bounds-check_one-count : goal.check_monadic-slice_bounds-check_one-count
unfolding choose kinds
check_monadic-slice_bounds-check_one-count t c = omega (arith, walk.taken_long _ _ _ (sym c.in_ok-operator_in.ensures))

pub check_monadic-slice_bounds-check_one-start : goal.check_monadic-slice_bounds-check_one-start
unfolding choose kinds
check_monadic-slice_bounds-check_one-start t c = omega (arith, walk.taken_long _ _ _ (sym c.in_ok-operator_in.ensures))

pub check_monadic-slice_bounds-check_one-end : goal.check_monadic-slice_bounds-check_one-end
unfolding choose kinds
check_monadic-slice_bounds-check_one-end t c = omega (arith, walk.taken_long _ _ _ (sym c.in_ok-operator_in.ensures))

pub check_node-returns-then-levels-eq0 : goal.check_node-returns-then-levels-eq0
unfolding choose kinds
check_node-returns-then-levels-eq0 t c = sym (walk.node-zero _ _ _ c.if-levels-eq0.true)

pub check_node-returns-in-0 : goal.check_node-returns-in-0
unfolding choose kinds
check_node-returns-in-0 t c = c.leaf.ensures ∙ walk.node_null _ _ _ _ c.if-levels-eq0.false c.in-0.is refl

pub check_node-returns-in-1 : goal.check_node-returns-in-1
unfolding choose kinds
check_node-returns-in-1 t c = c.leaf-in-1.ensures ∙ walk.node_unbounded _ _ _ _ c.if-levels-eq0.false c.in-1.is refl

pub check_node-returns-in-2 : goal.check_node-returns-in-2
unfolding choose kinds
check_node-returns-in-2 t c = c.leaf-in-2.ensures ∙ walk.node_bool _ _ _ _ c.if-levels-eq0.false c.in-2.is c.bool_body.ensures

pub check_node-returns-in-3 : goal.check_node-returns-in-3
unfolding choose kinds
check_node-returns-in-3 t c = c.leaf-in-3.ensures ∙ walk.node_num _ _ _ _ c.if-levels-eq0.false c.in-3.is c.num_body.ensures

pub check_node-returns-in-4 : goal.check_node-returns-in-4
unfolding choose kinds
check_node-returns-in-4 t c = c.leaf-in-4.ensures ∙ walk.node_str _ _ _ _ c.if-levels-eq0.false c.in-4.is c.str_body.ensures

pub check_node-returns-in-5 : goal.check_node-returns-in-5
unfolding choose kinds
check_node-returns-in-5 t c = c.leaf-in-5.ensures ∙ walk.node-date _ _ _ _ c.if-levels-eq0.false c.in-5.is c.date_body.ensures

pub check_node-returns-in-6 : goal.check_node-returns-in-6
unfolding choose kinds
check_node-returns-in-6 t c = c.leaf-in-6.ensures ∙ walk.node-timestamp _ _ _ _ c.if-levels-eq0.false c.in-6.is c.timestamp_body.ensures

pub check_node-returns-in-7 : goal.check_node-returns-in-7
unfolding choose kinds
check_node-returns-in-7 t c = c.leaf-in-7.ensures ∙ walk.node_spatial _ _ _ _ c.if-levels-eq0.false c.in-7.is c.spatial_body.ensures

pub check_node-returns-in-8 : goal.check_node-returns-in-8
unfolding choose kinds
check_node-returns-in-8 t c = c.leaf-in-8.ensures ∙ walk.node_id _ _ _ _ c.if-levels-eq0.false c.in-8.is c.is_name.ensures

pub check_node-returns-in-9 : goal.check_node-returns-in-9
unfolding choose kinds
check_node-returns-in-9 t c = c.check_monadic.ensures ∙ sym (walk.node_as _ _ 9 _ c.if-levels-eq0.false c.in-9.is)

pub check_node-returns-in-10 : goal.check_node-returns-in-10
unfolding choose kinds
check_node-returns-in-10 t c = c.check_dyadic.ensures ∙ sym (walk.node_as _ _ 10 _ c.if-levels-eq0.false c.in-10.is)

pub check_node-returns-in-11 : goal.check_node-returns-in-11
unfolding choose kinds
check_node-returns-in-11 t c = c.check_function.ensures ∙ sym (walk.node_as _ _ 11 _ c.if-levels-eq0.false c.in-11.is)

pub check_node-returns-in_default : goal.check_node-returns-in_default
unfolding choose kinds
check_node-returns-in_default t c = sym (walk.node_other _ _ _ c.if-levels-eq0.false c.in_default.in_default-own.rest)

pub check_one-returns-then-n-s : goal.check_one-returns-then-n-s
unfolding choose kinds
check_one-returns-then-n-s t c = sym (walk.one_is _ _ _ _ (sym c.in_ok-n.ensures) c.if-n-s.true)

pub check_one-returns-else-n-s : goal.check_one-returns-else-n-s
unfolding choose kinds
check_one-returns-else-n-s t c = sym (walk.one_left _ _ _ _ (sym c.in_ok-n.ensures) c.if-n-s.false)

pub check_two-slice_bounds-check_one-count : goal.check_two-slice_bounds-check_one-count
unfolding choose kinds
check_two-slice_bounds-check_one-count t c = omega (arith, walk.front-within _ c.args.s.now _ _ (sym c.in_ok-n.ensures))

pub check_two-slice_bounds-check_one-start : goal.check_two-slice_bounds-check_one-start
unfolding choose kinds
check_two-slice_bounds-check_one-start t c = omega (arith, walk.front-within _ c.args.s.now _ _ (sym c.in_ok-n.ensures))

pub check_two-slice_bounds-check_one-end : goal.check_two-slice_bounds-check_one-end
unfolding choose kinds
check_two-slice_bounds-check_one-end t c = omega (arith, walk.front-within _ c.args.s.now _ _ (sym c.in_ok-n.ensures))

pub check_dyadic-returns-in_err-op : goal.check_dyadic-returns-in_err-op
unfolding choose kinds
check_dyadic-returns-in_err-op t c = walk.handed _ c.from_residual.ensures.1 (sym (walk.dyadic_stop _ _ _ (sym c.in_err-op.ensures)))

pub check_dyadic-returns-in_err-a : goal.check_dyadic-returns-in_err-a
unfolding choose kinds
check_dyadic-returns-in_err-a t c = walk.handed _ c.from_residual-in_err-a.ensures.1 (ap (dyadic_one _) c.in_err-a.ensures ∙ sym (walk.dyadic_is _ _ _ (sym c.in_ok-op.ensures)))

pub check_dyadic-returns : goal.check_dyadic-returns
unfolding choose kinds
check_dyadic-returns t c = ap Ok (c.or_misplaced.ensures ∙ ap (λ (b : Bool). or_misplaced b Other) c.fit.ensures) ∙ ap (dyadic_one _) c.in_ok-a.ensures ∙ sym (walk.dyadic_is _ _ _ (sym c.in_ok-op.ensures))

pub check_first-returns-in_default : goal.check_first-returns-in_default
unfolding choose kinds
check_first-returns-in_default t c = sym (walk.front_broken _ _ (sym c.frame_at.ensures ∙ c.in_default.is))

pub check_first-returns-in_err-shape : goal.check_first-returns-in_err-shape
unfolding choose kinds
check_first-returns-in_err-shape t c = walk.handed _ c.from_residual.ensures.1 (sym (walk.front_stop _ _ _ _ _ (sym c.frame_at.ensures ∙ c.in-Some.is) (sym c.in_err-shape.ensures)))

pub check_first-returns : goal.check_first-returns
unfolding choose kinds
check_first-returns t c = sym (walk.front_next _ _ _ _ _ (sym c.frame_at.ensures ∙ c.in-Some.is) (sym c.in_ok-shape.ensures))

pub check_function-returns-then-not-named_at : goal.check_function-returns-then-not-named_at
unfolding choose kinds
check_function-returns-then-not-named_at t c = sym (walk.function_stop _ _ (sym c.named_at.ensures ∙ c.if-not-named_at.true))

pub check_function-returns-in_err-items : goal.check_function-returns-in_err-items
unfolding choose kinds
check_function-returns-in_err-items t c = walk.handed _ c.from_residual.ensures.1 (ap function_one c.in_err-items.ensures ∙ sym (walk.function_is _ c.args.s.now _ (sym c.named_at.ensures ∙ c.if-not-named_at.false) c.from-start.ensures))

pub check_function-returns : goal.check_function-returns
unfolding choose kinds
check_function-returns t c = ap Ok c.or_misplaced.ensures ∙ ap function_one c.in_ok-items.ensures ∙ sym (walk.function_is _ c.args.s.now _ (sym c.named_at.ensures ∙ c.if-not-named_at.false) c.from-start.ensures)

pub check_many-returns-in_err-n : goal.check_many-returns-in_err-n
unfolding choose kinds
check_many-returns-in_err-n t c = walk.handed _ c.from_residual.ensures.1 (sym (c.loop-at.invariant.2.2 ∙ walk.many_off _ c.args.s.now _ _ _ _ _ c.loop-at-test.true c.loop-at.invariant.2.1 (sym c.in_err-n.ensures)))

pub check_monadic-returns-in_err-operator_in : goal.check_monadic-returns-in_err-operator_in
unfolding choose kinds
check_monadic-returns-in_err-operator_in t c = walk.handed _ c.from_residual.ensures.1 (sym (walk.monadic_stop _ _ _ (sym c.in_err-operator_in.ensures)))

pub check_monadic-returns-in_err-a : goal.check_monadic-returns-in_err-a
unfolding choose kinds
check_monadic-returns-in_err-a t c = walk.handed _ c.from_residual-in_err-a.ensures.1 (ap monadic_one c.in_err-a.ensures ∙ sym (walk.monadic_is _ _ _ (sym c.in_ok-operator_in.ensures)))

pub check_monadic-returns : goal.check_monadic-returns
unfolding choose kinds
check_monadic-returns t c = ap Ok (c.or_misplaced.ensures ∙ ap (λ (b : Bool). or_misplaced b Other) c.plain_shape.ensures) ∙ ap monadic_one c.in_ok-a.ensures ∙ sym (walk.monadic_is _ _ _ (sym c.in_ok-operator_in.ensures))

pub check_one-returns-in_err-n : goal.check_one-returns-in_err-n
unfolding choose kinds
check_one-returns-in_err-n t c = walk.handed _ c.from_residual.ensures.1 (sym (walk.one_stop _ _ _ (sym c.in_err-n.ensures)))

pub check_two-returns-in_err-n : goal.check_two-returns-in_err-n
unfolding choose kinds
check_two-returns-in_err-n t c = walk.handed _ c.from_residual.ensures.1 (sym (walk.two_stop _ _ _ (sym c.in_err-n.ensures)))

pub check_two-returns-in_err-b : goal.check_two-returns-in_err-b
unfolding choose kinds
check_two-returns-in_err-b t c = walk.handed _ c.from_residual-in_err-b.ensures.1 (sym (walk.two_bad _ _ _ _ _ (sym c.in_ok-n.ensures) (sym c.in_err-b.ensures)))

pub check_two-returns : goal.check_two-returns
unfolding choose kinds
check_two-returns t c = sym (walk.two_are _ _ _ _ _ (sym c.in_ok-n.ensures) (sym c.in_ok-b.ensures))

pub check_node-returns-in_err-items-in-12 : goal.check_node-returns-in_err-items-in-12
unfolding choose kinds
check_node-returns-in_err-items-in-12 t c = walk.handed _ c.from_residual.ensures.1 (ap array_one c.in_err-items-in-12.ensures ∙ sym (walk.array_is _ _) ∙ sym (walk.node_as _ _ 12 _ c.if-levels-eq0.false c.in-12.is))

pub check_node-returns-in_ok-items-in-12 : goal.check_node-returns-in_ok-items-in-12
unfolding choose kinds
check_node-returns-in_ok-items-in-12 t c = ap Ok (c.or_misplaced.ensures ∙ ap (or_misplaced _) c.array_shape.ensures) ∙ ap array_one c.in_ok-items-in-12.ensures ∙ sym (walk.array_is _ _) ∙ sym (walk.node_as _ _ 12 _ c.if-levels-eq0.false c.in-12.is)

pub check_node-returns-in_err-a-in-13 : goal.check_node-returns-in_err-a-in-13
unfolding choose kinds
check_node-returns-in_err-a-in-13 t c = walk.handed _ c.from_residual-in_err-a-in-13.ensures.1 (ap interval_one c.in_err-a-in-13.ensures ∙ sym (walk.interval_is _ _) ∙ sym (walk.node_as _ _ 13 _ c.if-levels-eq0.false c.in-13.is))

pub check_node-returns-in_ok-a-in-13 : goal.check_node-returns-in_ok-a-in-13
unfolding choose kinds
check_node-returns-in_ok-a-in-13 t c = ap Ok (c.or_misplaced-in-13.ensures ∙ ap (λ (b : Bool). or_misplaced b Interval) c.are_plain.ensures) ∙ ap interval_one c.in_ok-a-in-13.ensures ∙ sym (walk.interval_is _ _) ∙ sym (walk.node_as _ _ 13 _ c.if-levels-eq0.false c.in-13.is)
