-- Demand 3 and the agreement with OGC 21-065r2, as theorems over the public calls: over texts that `lowering_within` answers within
-- limits no greater than the planner's (the definition in the contracts of the writing calls of crates gpkg and controller) and over `reading_of` (the definition in the contract of truth::read). Demand 2 is
-- `reads_truth` of ReadsTruth.antt. Each follows from reads-truth and the law of the same name over trees; string-reads, the round trip of a Str,
-- from reads-truth and the order alone.
use Rattle.std.specs.Prelude.{ℕ, ◌-◌, ◌≡◌, refl, List, Bool, true, false, ◌↔◌}
use Rattle.std.proofs.Common.{sym, ap, ◌∙◌, subst}
use Rattle.std.proofs.lemmas.Bool.{false≢true}
use Rattle.prelude.specs.Choice.{pick, both, some}
use Rattle.prelude.specs.ChoiceLaws.{both_true}
use Rattle.op.specs.declared.Op.{Op}
use Rattle.op.specs.declared.Op.TheVariants.{Eq, TDisjoint, TIntersects}
use Rattle.op.specs.Op.{one_of, is_temporal}
use Rattle.tree.specs.Tree.{Tree, str, id, dyadic, interval}
use Rattle.tree.specs.Limits.{depth_limit}
use Rattle.tree.specs.GoodWords.{Good}
use Rattle.tree.specs.Placed.{operands, in_place, inner, placed}
use Rattle.tree.specs.Tests.{everywhere, by_operator, is_interval, start_of, stop_of}
use Rattle.tree.specs.TestsLaws.{both_of}
use Rattle.std.specs.declared.cmp.Ordering.{Ordering}
use Rattle.std.specs.declared.cmp.Ordering.TheVariants.{Less, Equal, Greater}
use Rattle.order.specs.Order.{order}
use Rattle.order.specs.OrderLaws.{order_refl, order_same}
use Rattle.literal.specs.declared.Writing.{Writing}
use Rattle.row.specs.Row.{val, Column, has, look}
use Rattle.truth.specs.declared.Truth.{Truth}
use Rattle.truth.specs.declared.Truth.TheVariants.{True, False, Unknown, Missing}
use Rattle.truth.specs.Reading.{Reading, says_true, says_false, says_unknown}
use Rattle.lexer.specs.declared.Kind.TheVariants.{Eq as EQ}
use Rattle.truth.specs.Grammar.{value, holds as says, truth_of}
use Rattle.truth.specs.Reading.{answered, reading_of}
use Rattle.time.specs.Filter.{comparable, is_end, is_operand, time_filter}
use Rattle.time.specs.FilterTruth.{tree_atom, value_on, holds, temporal_truth, comparison, columns_non_null, proper, truth_on}
use Rattle.time.specs.Converse.{converse, Turned, keep, turn, in_both, in_neg, thirteen}
use Rattle.time.specs.Ogc.{Width, is_start, is_stop, is_point, writing_of, instants, ogc_operand, ogc_on}
use Rattle.time.specs.Accepted.{Lowers, IsRow}
use Rattle.time.specs.Claims.{Alike, both_yes, both_no, both_unknown, Opposite, ExactlyOne, Demand3}
use Rattle.time.specs.OperatorLaws.{AllOf, done, ◌also◌, among, of_temporal}
use Rattle.time.proofs.ConverseLaws.{turned_truth, converse_temporal, predicate_truth}
use Rattle.time.proofs.ComplementLaws.{complement-readings}
use Rattle.time.proofs.ThirteenLaws as laws
use Rattle.time.proofs.OgcLaws.{start_is_end, point_start, stop_start, ogc_agrees}
use Rattle.time.proofs.ReadsTruth.{parts, known, reads_as, reads_truth}

-- a temporal predicate is a time filter if its operands are operands
predicate_filter : (t u : Tree) (o : Op) → is_temporal o ≡ true → time_filter (dyadic o t u) ≡ both (is_operand t) (is_operand u)
unfolding time_filter by_operator is_temporal some
predicate_filter t u =
    of_temporal (λ o. time_filter (dyadic o t u) ≡ both (is_operand t) (is_operand u))
    (refl also refl also refl also refl also refl also refl also refl also refl also refl also refl also refl also refl also refl also refl also refl also done)

both_swap : (a b : Bool) → both a b ≡ true → both b a ≡ true
both_swap true true e = refl
both_swap true false e = e
both_swap false b e = absurd (false≢true e)

-- ---- Converses.

-- a filter in which predicates were turned is a filter, over the same columns
turned-filter : {t t' : Tree} → Turned t t' → time_filter t ≡ true → time_filter t' ≡ true
unfolding time_filter by_operator
turned-filter (keep t) e = e
turned-filter (turn o t u h) e =
    predicate_filter u t (converse o) (converse_temporal o h) ∙ both_swap (is_operand t) (is_operand u) (sym (predicate_filter t u o h) ∙ e)
turned-filter (in_both {t} {t'} {u} {u'} o h p q) e =
    let f : both (time_filter t) (time_filter u) ≡ true = rw h at e in
    let g = both_true (time_filter t) (time_filter u) f in
    rw h (both_of (time_filter t') (time_filter u') (turned-filter p g.0) (turned-filter q g.1))
turned-filter (in_neg {t} {t'} o h p) e = rw h (turned-filter p (rw h at e))

-- what is read from a truth that is known
alike : (a b : Truth) (r s : Reading) → known a ≡ true → a ≡ b → r ≡ answered a → s ≡ answered b → Alike says_true says_false says_unknown r s
alike True b r s k e f g = both_yes f (g ∙ ap answered (sym e))
alike False b r s k e f g = both_no f (g ∙ ap answered (sym e))
alike Unknown b r s k e f g = both_unknown f (g ∙ ap answered (sym e))
alike Missing b r s k e f g = absurd (false≢true k)

pub converse-reads : {writing : Writing} {t t' : Tree} {x x' row : List ℕ} {cs : List Column} → Turned t t' → Lowers writing t x → Lowers writing t' x' → time_filter t ≡ true
    → IsRow row cs → holds cs t ≡ true → Alike says_true says_false says_unknown (reading_of x row) (reading_of x' row)
converse-reads {writing} {t} {t'} {x} {x'} {row} {cs} T L L' f R h =
    let r = reads_truth L f R h in
    alike (truth_on writing cs t) (truth_on writing cs t') (reading_of x row) (reading_of x' row) r.1 (turned_truth writing cs T) r.0 (reads_as L' (turned-filter T f) R)

-- ---- Complement.

pub complement_reads : {writing : Writing} {t u : Tree} {x x' row : List ℕ} {cs : List Column} → Lowers writing (dyadic TDisjoint t u) x → Lowers writing (dyadic TIntersects t u) x'
    → is_operand t ≡ true → is_operand u ≡ true → IsRow row cs → columns_non_null cs t ≡ true → columns_non_null cs u ≡ true
    → Opposite says_true says_false says_unknown (reading_of x row) (reading_of x' row)
unfolding is_temporal some
complement_reads {writing} {t} {u} {x} {x'} {row} {cs} L L' p q R nt nu =
    let f = both_of (is_operand t) (is_operand u) p q in
    let a = reads_as L (predicate_filter t u TDisjoint refl ∙ f) R ∙ ap answered (predicate_truth writing cs TDisjoint t u refl) in
    let b = reads_as L' (predicate_filter t u TIntersects refl ∙ f) R ∙ ap answered (predicate_truth writing cs TIntersects t u refl) in
    subst (λ (r : Reading). Opposite says_true says_false says_unknown r (reading_of x' row)) (sym a)
    (subst (λ (r : Reading). Opposite says_true says_false says_unknown (answered (temporal_truth writing cs TDisjoint t u)) r) (sym b) (complement-readings writing cs t u nt nu))

-- ---- Exactly one of thirteen.

temporal_thirteen : AllOf (λ o. is_temporal o ≡ true) thirteen
unfolding thirteen is_temporal some
temporal_thirteen =
    refl also refl also refl also refl also refl also refl also refl also refl also refl also refl also refl also refl also refl also done

pub thirteen_temporal : (o : Op) → one_of o thirteen ≡ true → is_temporal o ≡ true
thirteen_temporal = among (λ o. is_temporal o ≡ true) temporal_thirteen

pub exactly_one_reads : {writing : Writing} {a b c d : Tree} {row : List ℕ} {cs : List Column} (x : Op → List ℕ)
    → ((o : Op) → one_of o thirteen ≡ true → Lowers writing (dyadic o (interval a b) (interval c d)) (x o))
    → is_operand (interval a b) ≡ true → is_operand (interval c d) ≡ true → IsRow row cs
    → proper writing cs a b ≡ true → proper writing cs c d ≡ true → ExactlyOne says_true says_false (λ o. reading_of (x o) row)
exactly_one_reads {writing} {a} {b} {c} {d} {row} {cs} x L p q R s t =
    laws.carried answered True False (λ o. temporal_truth writing cs o (interval a b) (interval c d)) (λ o. reading_of (x o) row) reads (laws.exactly_one writing cs a b c d s t)
  where
    reads : (o : Op) → one_of o thirteen ≡ true → reading_of (x o) row ≡ answered (temporal_truth writing cs o (interval a b) (interval c d))
    reads o m =
        let h = thirteen_temporal o m in
        reads_as (L o m) (predicate_filter (interval a b) (interval c d) o h ∙ both_of (is_operand (interval a b)) (is_operand (interval c d)) p q) R
        ∙ ap answered (predicate_truth writing cs o (interval a b) (interval c d) h)

-- Demand 3.
pub demand_3 : Demand3
demand_3 = record { converses = converse-reads; complement = complement_reads; thirteen-apart = exactly_one_reads }

-- ---- Agreement with OGC 21-065r2.

ogc-is_operand : (w : Width) (t : Tree) → ogc_operand w t ≡ true → is_operand t ≡ true
unfolding ogc_operand is_operand
ogc-is_operand w t e = go (is_interval t) e
  where
    go : (b : Bool) → pick b (both (is_start w (start_of t)) (is_stop w (stop_of t))) (is_point w t) ≡ true → pick b (both (is_end (start_of t)) (is_end (stop_of t))) (is_end t) ≡ true
    go true f =
        let h = both_true (is_start w (start_of t)) (is_stop w (stop_of t)) f in
        both_of (is_end (start_of t)) (is_end (stop_of t)) (start_is_end w (start_of t) h.0) (start_is_end w (stop_of t) (stop_start w (stop_of t) h.1))
    go false f = start_is_end w t (point_start w t f)

predicate_placed : (o : Op) (t u : Tree) → placed (dyadic o t u) ≡ true → operands o t u ≡ true
unfolding placed inner in_place everywhere by_operator is_interval
predicate_placed o t u e = (both_true (operands o t u) (both (inner t) (inner u)) e).0

-- On a row without NULL, in the first call all values valid ten-byte dates or all valid 19-byte timestamps, in the second all valid 24-byte values,
-- the written instants of that width, `..` only as an interval's start, in the second also as its end, and no NULL literal: a temporal predicate's
-- text reads true exactly if the predicate of 21-065r2 holds, and false exactly if not.
pub agrees_with_ogc : {o : Op} {t u : Tree} {x row : List ℕ} {cs : List Column} (w : Width) → Lowers (writing_of w) (dyadic o t u) x → is_temporal o ≡ true
    → IsRow row cs → holds cs t ≡ true → holds cs u ≡ true → instants w cs ≡ true → ogc_operand w t ≡ true → ogc_operand w u ≡ true
    → reading_of x row ≡ answered (truth_of (ogc_on w cs o t u))
unfolding Good
agrees_with_ogc {o} {t} {u} {cs = cs} w L i R ht hu n a b =
    let p = parts L in
    let f = both_of (is_operand t) (is_operand u) (ogc-is_operand w t a) (ogc-is_operand w u b) in
    reads_as L (predicate_filter t u o i ∙ f) R
    ∙ ap answered
    (predicate_truth (writing_of w) cs o t u i
    ∙ ogc_agrees w cs o t u (depth_limit - 1) (depth_limit - 1) i (predicate_placed o t u p.in_place_lem) p.good.2 p.good.3 n ht hu a b)

-- ---- Strings.

-- Round trip of a Str, whatever bytes it holds: its text, compared with a column, reads true exactly if the column's value is the string. A row's
-- value has at most 64 bytes; for a Str of any length `text_atom` (AtomLaws.antt) says that its text is one token, whose value is the string.
pub string_reads : {writing : Writing} {n s v x row : List ℕ} {cs : List Column} → Lowers writing (dyadic Eq (id n) (str 0 s)) x → IsRow row cs → look n cs ≡ has (val v)
    → (reading_of x row ≡ says_true) ↔ (v ≡ s)
unfolding time_filter by_operator comparable some truth_on value_on tree_atom value comparison says
string_reads {writing} {n} {s} {v} {x} {row} {cs} L R e = (only, back)
  where
    told : reading_of x row ≡ answered (truth_of (says EQ (order v s)))
    told = reads_as L refl R ∙ rw e refl

    only : reading_of x row ≡ says_true → v ≡ s
    only r = by (order v s) refl (sym told ∙ r)
      where
        by : (o : Ordering) → order v s ≡ o → answered (truth_of (says EQ o)) ≡ says_true → v ≡ s
        by Less q z = absurd (false≢true cc)
        by Equal q z = order_same v s q
        by Greater q z = absurd (false≢true cc)

    back : v ≡ s → reading_of x row ≡ says_true
    back q = told ∙ rw (ap (order v) (sym q) ∙ order_refl v) refl
