-- The hypotheses of reducing-reads, each with the smallest case outside it where the truth is not kept, and the paper's idle ones with a case that
-- shows nothing lost: document 02, slip 8. Every line is closed by computing, with the writing left open: it holds of both calls.
use Rattle.std.specs.Prelude.{◌≡◌, refl, List, [], ◌∷◌, true, false}
use Rattle.prelude.specs.Bytes.{bytes}
use Rattle.prelude.specs.Choice.{some, same}
use Rattle.op.specs.declared.Op.TheVariants.{TBefore, TEquals}
use Rattle.op.specs.Op.{is_temporal, is_instant_or_interval}
use Rattle.tree.specs.Tree.{Tree, null, unbounded, bool, date, timestamp, id, dyadic, interval}
use Rattle.tree.specs.Parse.{got, also}
use Rattle.tree.specs.Tests.{everywhere, by_operator, first, second, is_id, is_interval, start_of, stop_of, ends_of}
use Rattle.literal.specs.declared.Writing.{Writing}
use Rattle.literal.specs.Literal as literal
use Rattle.order.specs.Order.{order}
use Rattle.sql.specs.Condition.{check_id}
use Rattle.sql.specs.Translators.{translate, t_before, t_equals}
use Rattle.row.specs.Row.{Column, look}
use Rattle.row.specs.Row as row
use Rattle.truth.specs.declared.Truth.{Truth}
use Rattle.truth.specs.declared.Truth.TheVariants.{True, False, Unknown, Missing}
use Rattle.truth.specs.Grammar as grammar
use Rattle.time.specs.Filter.{time_filter, is_operand, is_end}
use Rattle.time.specs.FilterTruth.{tree_atom, end_atom, end_on, holds, cond_truth, temporal_truth, truth_on}
use Rattle.reduce.specs.Sort.{sort_of}
use Rattle.reduce.specs.Rules.{happens, meet_other, meet}
use Rattle.reduce.specs.Reduced.{met, two_reduced, reduced}
use Rattle.reduced_time.specs.Hypotheses.{lacks, without_null, of_one_width, besides, no_lone}

-- a column, and a row on which it is NULL
abbrev pub a : Tree
a = id (bytes "a")

abbrev pub nulled : List Column
nulled = record { called = bytes "a"; holds = row.null } ∷ []

-- what a case is: a time filter, its reduced tree, and the row's truth before and after
pub record Case (w : Writing) (cs : List Column) (t u : Tree) (before after : Truth) : Type 0 where
  pub filter : time_filter t ≡ true
  pub reduces : reduced t ≡ got u
  pub was : truth_on w cs t ≡ before
  pub is : truth_on w cs u ≡ after

-- Without Null. Null before an Interval whose end is a column that is NULL: the text's guard makes it false, and the reduced tree is Null, so unknown.
abbrev pub lone_null : Tree
lone_null = dyadic TBefore null (interval (date 2020 1 1) a)

pub lone_null_lem : (w : Writing) → Case w nulled lone_null null False Unknown × (holds nulled lone_null ≡ true) × (of_one_width lone_null ≡ true) × (without_null lone_null ≡ false)
unfolding reduced also two_reduced meet meet_other met sort_of happens is_instant_or_interval is_temporal some time_filter is_operand is_end by_operator truth_on temporal_truth cond_truth tree_atom end_atom end_on grammar.value translate t_before t_equals check_id is_id is_interval ends_of start_of stop_of first second look order literal.date literal.timestamp literal.clock literal.low literal.open_end grammar.holds holds everywhere lacks of_one_width besides no_lone
lone_null_lem w = (record { filter = refl; reduces = refl; was = refl; is = refl }, refl, refl, refl)

-- All dates or all timestamps. A Date and the Timestamp of its midnight: the same instant, but other strings.
abbrev pub mixed : Tree
mixed = dyadic TEquals (date 2020 1 1) (timestamp 2020 1 1 0 0 0)

pub mixed_widths : (w : Writing) → Case w [] mixed (bool true) False True × (holds [] mixed ≡ true) × (without_null mixed ≡ true) × (of_one_width mixed ≡ false)
unfolding reduced also two_reduced meet meet_other met sort_of happens is_instant_or_interval is_temporal some time_filter is_operand is_end by_operator truth_on temporal_truth cond_truth tree_atom end_atom end_on grammar.value translate t_before t_equals check_id is_id is_interval ends_of start_of stop_of first second look order literal.date literal.timestamp literal.clock literal.low literal.open_end grammar.holds holds everywhere lacks of_one_width besides no_lone
mixed_widths w = (record { filter = refl; reduces = refl; was = refl; is = refl }, refl, refl, refl)

-- Idle: a lone Unbounded. It lies below the earliest date, and the text says so, too.
abbrev pub lone_unbounded : Tree
lone_unbounded = dyadic TBefore unbounded (date 1 1 1)

pub lone_unbounded_lem : (w : Writing) → Case w [] lone_unbounded (bool true) True True
unfolding reduced also two_reduced meet meet_other met sort_of happens is_instant_or_interval is_temporal some time_filter is_operand is_end by_operator truth_on temporal_truth cond_truth tree_atom end_atom end_on grammar.value translate t_before t_equals check_id is_id is_interval ends_of start_of stop_of first second look order literal.date literal.timestamp literal.clock literal.low literal.open_end grammar.holds holds everywhere lacks of_one_width besides no_lone
lone_unbounded_lem w = record { filter = refl; reduces = refl; was = refl; is = refl }

-- Idle: the row's columns. Where one is missing it is missing after reducing.
abbrev pub lacking : Tree
lacking = dyadic TBefore a (date 2020 1 1)

pub missing_column : (w : Writing) → Case w [] lacking lacking Missing Missing × (holds [] lacking ≡ false)
unfolding reduced also two_reduced meet meet_other met sort_of happens is_instant_or_interval is_temporal some time_filter is_operand is_end by_operator truth_on temporal_truth cond_truth tree_atom end_atom end_on grammar.value translate t_before t_equals check_id is_id is_interval ends_of start_of stop_of first second look order literal.date literal.timestamp literal.clock literal.low literal.open_end grammar.holds holds everywhere lacks of_one_width besides no_lone
missing_column w = (record { filter = refl; reduces = refl; was = refl; is = refl }, refl)

-- With Null it would not be idle: a column is dropped with it.
abbrev pub dropped : Tree
dropped = dyadic TEquals null a

pub dropped_column : (w : Writing) → Case w [] dropped null Missing Unknown × (holds [] dropped ≡ false)
unfolding reduced also two_reduced meet meet_other met sort_of happens is_instant_or_interval is_temporal some time_filter is_operand is_end by_operator truth_on temporal_truth cond_truth tree_atom end_atom end_on grammar.value translate t_before t_equals check_id is_id is_interval ends_of start_of stop_of first second look order literal.date literal.timestamp literal.clock literal.low literal.open_end grammar.holds holds everywhere lacks of_one_width besides no_lone
dropped_column w = (record { filter = refl; reduces = refl; was = refl; is = refl }, refl)
