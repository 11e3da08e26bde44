-- `order::is_same` meets its contract: `zip_turn` says at which place of both this turn's bytes stand, `zip_end` where the loop ends.
use Rattle.std.proofs.Common.{sym, ap, ◌∙◌, arith, ◌≡◌, refl, length}
use Rattle.std.specs.Ordering.{is_eq}
use Rattle.std.specs.Iterator.Adapters.{zip_first, zip_second}
use Rattle.std.specs.Slice.Iter.{iter_rest}
use Rattle.std.proofs.lemmas.Slice.Zip.{zip_turn, zip_end}
use Rattle.std.proofs.lemmas.List.{length_push}
use Rattle.order.specs.OrderLaws.{order_level, order-apart, order_stop, cmp-level}
use Rattle.order.proofs.is_same.Goals as goal

pub loop-x-preserved : goal.loop-x-preserved
loop-x-preserved c =
    let h = c.into_iter-x-iterator.ensures.into_iter_gives in
    let first = ap (λ z. iter_rest (zip_first z)) h ∙ ap iter_rest c.zip-x-items.ensures.first ∙ c.iter.ensures.rest in
    let second = ap (λ z. iter_rest (zip_second z)) h ∙ c.zip-x-items.ensures.second.0 in
    let t = zip_turn c.args.a.now c.args.b.now c.loop-x.yielded c.into_iter-x-iterator.result c.loop-x.x-iterator c.next.new.self c.next.result first second c.loop-x.yielded_by _ c.in-Some.is c.next.ensures.steps in
    rw (length_push c.loop-x.yielded (c.in-Some.x, c.in-Some.y))
    (sym (order_level c.args.a.now c.args.b.now _ t.0 t.1 (sym (t.2 0) ∙ c.if-x-y.false ∙ t.3 0)) ∙ c.loop-x.invariant)

pub returns-then-x-y : goal.returns-then-x-y
returns-then-x-y c =
    let h = c.into_iter-x-iterator.ensures.into_iter_gives in
    let first = ap (λ z. iter_rest (zip_first z)) h ∙ ap iter_rest c.zip-x-items.ensures.first ∙ c.iter.ensures.rest in
    let second = ap (λ z. iter_rest (zip_second z)) h ∙ c.zip-x-items.ensures.second.0 in
    let t = zip_turn c.args.a.now c.args.b.now c.loop-x.yielded c.into_iter-x-iterator.result c.loop-x.x-iterator c.next.new.self c.next.result first second c.loop-x.yielded_by _ c.in-Some.is c.next.ensures.steps in
    sym (ap is_eq (sym c.loop-x.invariant) ∙ order-apart c.args.a.now c.args.b.now _ t.0 t.1 (λ e. c.if-x-y.true (t.2 0 ∙ e ∙ sym (t.3 0))))

pub returns : goal.returns
returns c =
    let h = c.into_iter-x-iterator.ensures.into_iter_gives in
    let first = ap (λ z. iter_rest (zip_first z)) h ∙ ap iter_rest c.zip-x-items.ensures.first ∙ c.iter.ensures.rest in
    let second = ap (λ z. iter_rest (zip_second z)) h ∙ c.zip-x-items.ensures.second.0 in
    let t = zip_end c.args.a.now c.args.b.now c.loop-x.yielded c.into_iter-x-iterator.result c.loop-x.x-iterator c.next.new.self c.next.result first second c.loop-x.yielded_by c.in-None.is c.next.ensures.steps in
    sym (ap is_eq (sym c.loop-x.invariant ∙ order_stop c.args.a.now c.args.b.now _ t ∙ cmp-level (length c.args.a.now) (length c.args.b.now) (omega arith)))
