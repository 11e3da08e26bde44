-- Of two proper intervals exactly one of Allen's thirteen predicates is true and twelve are false: the thirteen depend only on how each start
-- and end of one lies to those of the other, transitivity leaves thirteen such tables of four orders, and at each the answers are computed.
use Rattle.std.specs.Prelude.{ℕ, ◌≡◌, List, [], ◌∷◌, Bool, true, false, T}
use Rattle.std.proofs.Math.Path.{refl}
use Rattle.std.proofs.Common.{ap, ◌∙◌, ⊎_elim, eq-eqb, ne_eqb}
use Rattle.std.proofs.lemmas.Bool.{false≢true}
use Rattle.std.proofs.Math.Dec.{eqb}
use Rattle.prelude.specs.Choice.{pick, both, either, negated, some}
use Rattle.prelude.specs.Table.{both_left, both_right}
use Rattle.std.specs.declared.cmp.Ordering.{Ordering}
use Rattle.std.specs.declared.cmp.Ordering.TheVariants.{Less, Equal, Greater}
use Rattle.order.specs.Order.{order}
use Rattle.order.specs.OrderLaws.{order_same, order_above, order_below, order_trans, order_cases, below-is}
use Rattle.op.specs.declared.Op.{Op}
use Rattle.op.specs.declared.Op.TheVariants.{TAfter, TBefore, TContains, TDuring, TEquals, TFinishedBy, TFinishes, TMeets, TMetBy, TOverlappedBy, TOverlaps, TStartedBy, TStarts}
use Rattle.op.specs.Op.{op_number, one_of}
use Rattle.op.specs.OpLaws.{every_op, alike}
use Rattle.tree.specs.Tree.{Tree, interval}
use Rattle.tree.specs.Tests.{first, second, is_interval, start_of, stop_of, ends_of, columns_of}
use Rattle.literal.specs.declared.Writing.{Writing}
use Rattle.literal.specs.Literal.{first_end, second_end}
use Rattle.sql.specs.Condition as sql
use Rattle.sql.specs.Translators.{translate, t_after, t_before, t_contains, t_during, t_equals, t_finished_by, t_finishes, t_meets, t_met_by, t_overlapped_by, t_overlaps, t_started_by, t_starts}
use Rattle.row.specs.Row.{val, Column, Found, absent, has}
use Rattle.row.specs.Row as row
use Rattle.truth.specs.declared.Truth.{Truth}
use Rattle.truth.specs.declared.Truth.TheVariants.{True, False}
use Rattle.lexer.specs.declared.Kind.{Kind}
use Rattle.lexer.specs.declared.Kind.TheVariants.{Lt as LT, Gt as GT, Eq as EQ}
use Rattle.truth.specs.Grammar.{and3, truth_of, compared, holds}
use Rattle.time.specs.FilterTruth.{end_on, sign_of, cond_truth, end_values, temporal_truth, is_value, lies_below, proper}
use Rattle.time.specs.Converse.{thirteen}
use Rattle.time.specs.Claims.{ExactlyOne}
use Rattle.time.specs.OperatorLaws.{AllOf, done, ◌also◌, among}
use Rattle.time.specs.TruthLaws.{and3-known, guard, guard_passes, check_ids_lem}

-- What a condition comes to where every end has a value, by the order of any two of them.
unfoldable decides : (ℕ → ℕ → Ordering) → sql.Cond → Bool
decides o (sql.test i s j) = holds (sign_of s) (o i j)
decides o (sql.is_not_null i) = true
decides o (sql.not_null i) = true
decides o (sql.and c d) = both (decides o c) (decides o d)
decides o (sql.or c d) = either (decides o c) (decides o d)
decides o (sql.not c) = negated (decides o c)
decides o (sql.brackets c) = decides o c

-- the orders of a start or end of the first interval, 0 or 1, and one of the second, 2 or 3
abbrev table : (ac ad bc bd : Ordering) → ℕ → ℕ → Ordering
table ac ad bc bd i j = pick (eqb i 0) (pick (eqb j 2) ac ad) (pick (eqb j 2) bc bd)

-- an operator's predicate on two intervals, by the four orders
unfoldable by : (ac ad bc bd : Ordering) → Op → Bool
by ac ad bc bd q = decides (table ac ad bc bd) (translate (op_number q) true true (λ j. false))

module _ (v : ℕ → Found) (c : ℕ → Bool) (x0 x1 x2 x3 : List ℕ)
    (e0 : v 0 ≡ has (val x0)) (e1 : v 1 ≡ has (val x1)) (e2 : v 2 ≡ has (val x2)) (e3 : v 3 ≡ has (val x3)) where
  value : (i : ℕ) (x : List ℕ) → v i ≡ has (val x) → is_value (v i) ≡ true
  unfolding is_value
  value i x e = rw e

  -- two guards pass
  open_guards : (i j : ℕ) (base : sql.Cond) → is_value (v i) ≡ true → is_value (v j) ≡ true → cond_truth v (sql.check_ids c i j base) ≡ cond_truth v base
  open_guards i j base h k =
      check_ids_lem v c i j base ∙ guard_passes (c i) (v i) (guard (c j) (v j) (cond_truth v base)) h ∙ guard_passes (c j) (v j) (cond_truth v base) k

  abbrev Answers : Op → Type 0
  Answers q =
      cond_truth v (translate (op_number q) true true c) ≡ truth_of (by (order x0 x2) (order x0 x3) (order x1 x2) (order x1 x3) q)

  compare : (op : Kind) (i j : ℕ) (x y : List ℕ) → v i ≡ has (val x) → v j ≡ has (val y) → compared op (v i) (v j) ≡ truth_of (holds op (order x y))
  compare op i j x y e f = rw (e, f)

  after_answers : Answers TAfter
  unfolding by decides translate cond_truth t_after sql.check_ids
  after_answers = open_guards 1 2 (sql.test 0 sql.gt 3) (value 1 x1 e1) (value 2 x2 e2) ∙ compare GT 0 3 x0 x3 e0 e3

  before_answers : Answers TBefore
  unfolding by decides translate cond_truth t_before sql.check_ids
  before_answers = open_guards 0 3 (sql.test 1 sql.lt 2) (value 0 x0 e0) (value 3 x3 e3) ∙ compare LT 1 2 x1 x2 e1 e2

  contains_answers : Answers TContains
  unfolding by decides translate cond_truth t_contains
  contains_answers = rw (e0, e1, e2, e3) (and3-known (holds LT (order x0 x2)) (holds GT (order x1 x3)))

  during_answers : Answers TDuring
  unfolding by decides translate cond_truth t_during
  during_answers = rw (e0, e1, e2, e3) (and3-known (holds GT (order x0 x2)) (holds LT (order x1 x3)))

  equals_answers : Answers TEquals
  unfolding by decides translate cond_truth t_equals
  equals_answers = rw (e0, e1, e2, e3) (and3-known (holds EQ (order x0 x2)) (holds EQ (order x1 x3)))

  finished_answers : Answers TFinishedBy
  unfolding by decides translate cond_truth t_finished_by
  finished_answers = rw (e0, e1, e2, e3) (and3-known (holds LT (order x0 x2)) (holds EQ (order x1 x3)))

  finishes_answers : Answers TFinishes
  unfolding by decides translate cond_truth t_finishes
  finishes_answers = rw (e0, e1, e2, e3) (and3-known (holds GT (order x0 x2)) (holds EQ (order x1 x3)))

  meets_answers : Answers TMeets
  unfolding by decides translate cond_truth t_meets sql.check_ids
  meets_answers = open_guards 0 3 (sql.test 1 sql.eq 2) (value 0 x0 e0) (value 3 x3 e3) ∙ compare EQ 1 2 x1 x2 e1 e2

  met_answers : Answers TMetBy
  unfolding by decides translate cond_truth t_met_by sql.check_ids
  met_answers = open_guards 1 2 (sql.test 0 sql.eq 3) (value 1 x1 e1) (value 2 x2 e2) ∙ compare EQ 0 3 x0 x3 e0 e3

  overlapped_answers : Answers TOverlappedBy
  unfolding by decides translate cond_truth t_overlapped_by
  overlapped_answers =
      rw (e0, e1, e2, e3)
      (ap (λ b. and3 b (truth_of (holds GT (order x1 x3)))) (and3-known (holds GT (order x0 x2)) (holds LT (order x0 x3)))
      ∙ and3-known (both (holds GT (order x0 x2)) (holds LT (order x0 x3))) (holds GT (order x1 x3)))

  overlaps_answers : Answers TOverlaps
  unfolding by decides translate cond_truth t_overlaps
  overlaps_answers =
      rw (e0, e1, e2, e3)
      (ap (λ b. and3 b (truth_of (holds LT (order x1 x3)))) (and3-known (holds LT (order x0 x2)) (holds GT (order x1 x2)))
      ∙ and3-known (both (holds LT (order x0 x2)) (holds GT (order x1 x2))) (holds LT (order x1 x3)))

  started_answers : Answers TStartedBy
  unfolding by decides translate cond_truth t_started_by
  started_answers = rw (e0, e1, e2, e3) (and3-known (holds EQ (order x0 x2)) (holds GT (order x1 x3)))

  starts_answers : Answers TStarts
  unfolding by decides translate cond_truth t_starts
  starts_answers = rw (e0, e1, e2, e3) (and3-known (holds EQ (order x0 x2)) (holds LT (order x1 x3)))

  answers : AllOf Answers thirteen
  unfolding thirteen
  answers =
      after_answers also before_answers also contains_answers also during_answers also equals_answers also finished_answers
      also finishes_answers also meets_answers also met_answers also overlapped_answers also overlaps_answers also started_answers
      also starts_answers also done

-- One table: p's predicate holds, and no other's.
alike_equal : (a b : Bool) → T (alike a b) → a ≡ b
alike_equal true true t = refl
alike_equal true false t = absurd t
alike_equal false true t = absurd t
alike_equal false false t = refl

computed : (f g : Op → Bool) (os : List Op) → T (every_op (λ o. alike (f o) (g o)) os) → AllOf (λ o. f o ≡ g o) os
computed f g [] t = done
computed f g (o ∷ os) t =
    alike_equal (f o) (g o) (both_left (alike (f o) (g o)) (every_op (λ p. alike (f p) (g p)) os) t)
    also computed f g os (both_right (alike (f o) (g o)) (every_op (λ p. alike (f p) (g p)) os) t)

abbrev only : (ac ad bc bd : Ordering) → Op → Bool
only ac ad bc bd p = every_op (λ q. alike (by ac ad bc bd q) (eqb (op_number q) (op_number p))) thirteen

unfoldable Table : (Op → Bool) → Type 0
Table f = (p : Op) × (one_of p thirteen ≡ true) × ((q : Op) → one_of q thirteen ≡ true → f q ≡ eqb (op_number q) (op_number p))

module _ (x0 x1 x2 x3 : List ℕ) where
  abbrev Tabled : Type 0
  Tabled = Table (by (order x0 x2) (order x0 x3) (order x1 x2) (order x1 x3))

  tabled : (p : Op) (ac ad bc bd : Ordering) → one_of p thirteen ≡ true → T (only ac ad bc bd p)
      → order x0 x2 ≡ ac → order x0 x3 ≡ ad → order x1 x2 ≡ bc → order x1 x3 ≡ bd → Tabled
  unfolding Table
  tabled p ac ad bc bd m t e f g h =
      rw (e, f, g, h) (
        p,
        m,
        among (λ q. by ac ad bc bd q ≡ eqb (op_number q) (op_number p))
            (computed (by ac ad bc bd) (λ q. eqb (op_number q) (op_number p)) thirteen t),
      )

  three : (x y : List ℕ) → (order x y ≡ Less → Tabled) → (order x y ≡ Equal → Tabled) → (order x y ≡ Greater → Tabled) → Tabled
  three x y f g h = ⊎_elim f (⊎_elim g h) (order_cases x y)

  module _ (p : order x0 x1 ≡ Less) (q : order x2 x3 ≡ Less) where
    before : order x1 x2 ≡ Less → Tabled
    unfolding thirteen some by decides translate holds t_after t_before t_contains t_during t_equals t_finished_by t_finishes t_meets t_met_by t_overlapped_by t_overlaps t_started_by t_starts sql.check_ids
    before e =
        let f = order_trans x0 x1 x2 p e in
        tabled TBefore Less Less Less Less refl tt f (order_trans x0 x2 x3 f q) e (order_trans x1 x2 x3 e q)

    meets : order x1 x2 ≡ Equal → Tabled
    unfolding thirteen some by decides translate holds t_after t_before t_contains t_during t_equals t_finished_by t_finishes t_meets t_met_by t_overlapped_by t_overlaps t_started_by t_starts sql.check_ids
    meets e =
        let s : x1 ≡ x2 = order_same x1 x2 e in
        let f : order x0 x2 ≡ Less = rw s at p in
        tabled TMeets Less Less Equal Less refl tt f (order_trans x0 x2 x3 f q) e (rw s q)

    after : order x1 x2 ≡ Greater → order x0 x3 ≡ Greater → Tabled
    unfolding thirteen some by decides translate holds t_after t_before t_contains t_during t_equals t_finished_by t_finishes t_meets t_met_by t_overlapped_by t_overlaps t_started_by t_starts sql.check_ids
    after e f =
        let g = order_below x0 x3 f in
        tabled TAfter Greater Greater Greater Greater refl tt (order_above x2 x0 (order_trans x2 x3 x0 q g)) f e (order_above x3 x1 (order_trans x3 x0 x1 g p))

    met_by : order x1 x2 ≡ Greater → order x0 x3 ≡ Equal → Tabled
    unfolding thirteen some by decides translate holds t_after t_before t_contains t_during t_equals t_finished_by t_finishes t_meets t_met_by t_overlapped_by t_overlaps t_started_by t_starts sql.check_ids
    met_by e f =
        let s : x0 ≡ x3 = order_same x0 x3 f in
        let g : order x2 x0 ≡ Less = rw s q in
        let h : order x3 x1 ≡ Less = rw s at p in
        tabled TMetBy Greater Equal Greater Greater refl tt (order_above x2 x0 g) f e (order_above x3 x1 h)

    -- the two intervals share more than an end
    within : order x1 x2 ≡ Greater → order x0 x3 ≡ Less → Tabled
    unfolding thirteen some by decides translate holds t_after t_before t_contains t_during t_equals t_finished_by t_finishes t_meets t_met_by t_overlapped_by t_overlaps t_started_by t_starts sql.check_ids
    within e f =
        three x0 x2
        (λ g.
        three x1 x3 (λ h. tabled TOverlaps Less Less Greater Less refl tt g f e h) (λ h. tabled TFinishedBy Less Less Greater Equal refl tt g f e h)
        (λ h. tabled TContains Less Less Greater Greater refl tt g f e h))
        (λ g.
        three x1 x3 (λ h. tabled TStarts Equal Less Greater Less refl tt g f e h) (λ h. tabled TEquals Equal Less Greater Equal refl tt g f e h)
        (λ h. tabled TStartedBy Equal Less Greater Greater refl tt g f e h))
        (λ g.
        three x1 x3 (λ h. tabled TDuring Greater Less Greater Less refl tt g f e h) (λ h. tabled TFinishes Greater Less Greater Equal refl tt g f e h)
        (λ h. tabled TOverlappedBy Greater Less Greater Greater refl tt g f e h))

    one_table : Tabled
    one_table = three x1 x2 before meets (λ e. three x0 x3 (within e) (met_by e) (after e))

-- two ends of which the first lies below the second have values
ends_below : (f g : Found) → lies_below f g ≡ true
    → (x : List ℕ) × (y : List ℕ) × (f ≡ has (val x)) × (g ≡ has (val y)) × (order x y ≡ Less)
unfolding lies_below
ends_below absent g e = absurd (false≢true e)
ends_below (has row.null) g e = absurd (false≢true e)
ends_below (has (val x)) absent e = absurd (false≢true e)
ends_below (has (val x)) (has row.null) e = absurd (false≢true e)
ends_below (has (val x)) (has (val y)) e = (x, y, refl, refl, below-is x y e)

from_table : (f : Op → Bool) → Table f → (answer : Op → Truth) → ((q : Op) → one_of q thirteen ≡ true → answer q ≡ truth_of (f q))
    → ExactlyOne True False answer
unfolding Table
from_table f t answer h = record {
  which = t.0;
  among_them = t.1;
  is_true = h t.0 t.1 ∙ ap truth_of (t.2 t.0 t.1 ∙ eq-eqb (op_number t.0) (op_number t.0) refl);
  others_false = λ q m d. h q m ∙ ap truth_of (t.2 q m ∙ ne_eqb (op_number q) (op_number t.0) d);
}

-- answers that come from others by one function are exactly one true where those are, as reading's answers from truths
pub carried : {A B : Type 0} (h : A → B) (good bad : A) (f : Op → A) (g : Op → B) → ((q : Op) → one_of q thirteen ≡ true → g q ≡ h (f q))
    → ExactlyOne good bad f → ExactlyOne (h good) (h bad) g
carried h good bad f g e x = record {
  which = x.which;
  among_them = x.among_them;
  is_true = e x.which x.among_them ∙ ap h x.is_true;
  others_false = λ q m d. e q m ∙ ap h (x.others_false q m d);
}

-- Two intervals whose four ends are non-null, each start below its end.
pub exactly_one : (writing : Writing) (cs : List Column) (a b c d : Tree) → proper writing cs a b ≡ true → proper writing cs c d ≡ true
    → ExactlyOne True False (λ o. temporal_truth writing cs o (interval a b) (interval c d))
unfolding temporal_truth is_interval ends_of start_of stop_of first second
exactly_one writing cs a b c d p q =
    let h = ends_below (end_on writing cs first_end a) (end_on writing cs second_end b) p in
    let k = ends_below (end_on writing cs first_end c) (end_on writing cs second_end d) q in
    from_table (by (order h.0 k.0) (order h.0 k.1) (order h.1 k.0) (order h.1 k.1))
    (one_table h.0 h.1 k.0 k.1 h.4 k.4)
    (λ o. temporal_truth writing cs o (interval a b) (interval c d))
    (among
    (λ o. temporal_truth writing cs o (interval a b) (interval c d)
    ≡ truth_of (by (order h.0 k.0) (order h.0 k.1) (order h.1 k.0) (order h.1 k.1) o))
    (answers (end_values writing cs (interval a b) (interval c d)) (columns_of (interval a b) (interval c d)) h.0 h.1 k.0 k.1
    h.2 h.3 k.2 k.3))
