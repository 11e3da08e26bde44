-- The theorem of TruthKept.antt at work on bytes: a filter, what reducing gives for it, a row, the answer, in each writing. So its hypotheses are not
-- empty: settings, trees and rows that meet them are computed here (those of time/specs/Instances.antt). Then the cases of Examples.antt outside its
-- hypotheses, on bytes as well: the two texts do not read alike.
use Rattle.std.specs.Prelude.{◌≡◌, refl, true}
use Rattle.std.proofs.Common.{sym, ◌∙◌}
use Rattle.op.specs.declared.Op.TheVariants.{And, TAfter, TBefore}
use Rattle.tree.specs.Tree.{Tree, null, bool, date, dyadic}
use Rattle.tree.specs.Parse.{got}
use Rattle.literal.specs.declared.Writing.{Writing}
use Rattle.literal.specs.declared.Writing.TheVariants.{Rust, GeoPackage}
use Rattle.truth.specs.Reading.{says_true, says_false, says_unknown}
use Rattle.truth.specs.Reading.{answered, reading_of}
use Rattle.time.specs.Accepted.{Lowers}
use Rattle.time.specs.Filter.{time_filter}
use Rattle.time.specs.FilterTruth.{truth_on}
use Rattle.time.proofs.ReadsTruth.{reads_as}
use Rattle.time.proofs.Instances.{room, lowers_within, lowers_by, a, columns_null, is-row_null, row_null, columns_d, is-row_d, row_d, sql, columns_timestamp, is-row_timestamp, row_timestamp, midnight}
use Rattle.reduce.specs.Sort.{sort_of}
use Rattle.reduce.specs.Rules.{turn, meet, meet_and, meet_other, happens}
use Rattle.reduce.specs.Reduced.{turned, met, one_reduced, two_reduced, reduced}
use Rattle.reduce.specs.Reducing.{fitted, reducing}
use Rattle.reduced_time.specs.Hypotheses.{lacks, without_null, of_one_width}
use Rattle.reduced_time.proofs.TruthKept.{reducing-reads}
use Rattle.reduced_time.specs.Examples.{lone_null, mixed}
use Rattle.prelude.specs.Choice as prelude-choice
use Rattle.record.specs.Record as record-record
use Rattle.charset.specs.Charset as charset-charset
use Rattle.charset.specs.Named as charset-named
use Rattle.string.specs.Utf8 as string-utf8
use Rattle.string.specs.Quote as string-quote
use Rattle.word.specs.Case as word-case
use Rattle.keyword.specs.Reserved as keyword-reserved
use Rattle.keyword.specs.Keywords as keyword-keywords
use Rattle.civil.specs.Civil as civil-civil
use Rattle.op.specs.Op as op-op
use Rattle.spelling.specs.Spelling as spelling-spelling
use Rattle.settings.specs.Settings as settings-settings
use Rattle.tree.specs.Tree as tree-tree
use Rattle.tree.specs.Parse as tree-parse
use Rattle.tree.specs.Tests as tree-tests
use Rattle.tree.specs.Placed as tree_placed
use Rattle.tree.specs.Accepted as tree-accepted
use Rattle.literal.specs.Literal as literal-literal
use Rattle.sql.specs.Condition as sql-condition
use Rattle.sql.specs.Translators as sql-translators
use Rattle.text.specs.Text as gpkg-text
use Rattle.room.specs.Room as room-room
use Rattle.text.specs.Lowered as gpkg-lowered
use Rattle.order.specs.Order as order-order
use Rattle.row.specs.Row as row-row
use Rattle.lexer.specs.Lex as truth-lex
use Rattle.truth.specs.Grammar as truth-grammar
use Rattle.truth.specs.Reading as truth-reading
use Rattle.time.specs.Filter as time-filter
use Rattle.time.specs.FilterTruth as time-filtertruth

-- the first of January lies before the second, and a before the third; reduced, TRUE AND the latter
abbrev whole : Tree
whole = dyadic And (dyadic TBefore (date 2024 1 1) (date 2024 1 2)) (dyadic TAfter (date 2024 1 3) a)

abbrev part : Tree
part = dyadic And (bool true) (dyadic TAfter (date 2024 1 3) a)

-- the same of midnights, in the second call
abbrev stamped : Tree
stamped = dyadic And (dyadic TBefore (midnight 1) (midnight 2)) (dyadic TAfter (midnight 3) a)

abbrev stamped_part : Tree
stamped_part = dyadic And (bool true) (dyadic TAfter (midnight 3) a)

-- All that is computed, at once.
record Computed (w : Writing) : Type 0 where
  lowers : Lowers w whole (sql w whole)
  part_lowers : Lowers w part (sql w part)
  reduces : reducing lowers.tree room ≡ got part_lowers.tree
  filter : time_filter whole ≡ true
  no_null : without_null whole ≡ true
  dates : of_one_width whole ≡ true
  holds_there : answered (truth_on w columns_d whole) ≡ says_true
  stamped_lowers : Lowers GeoPackage stamped (sql GeoPackage stamped)
  stamped_part_lowers : Lowers GeoPackage stamped_part (sql GeoPackage stamped_part)
  stamped-reduces : reducing stamped_lowers.tree room ≡ got stamped_part_lowers.tree
  stamped-filter : time_filter stamped ≡ true
  stamped_no_null : without_null stamped ≡ true
  timestamps : of_one_width stamped ≡ true
  stamped_there : answered (truth_on GeoPackage columns_timestamp stamped) ≡ says_true

computed : (w : Writing) → Computed w
unfolding prelude-choice.some record-record.frame record-record.record_of charset-charset.letter charset-charset.digit charset-charset.name_start charset-charset.name_byte word-case.upper keyword-reserved.reserved_words keyword-keywords.keywords keyword-keywords.keyword_texts keyword-reserved.reserved charset-charset.name string-utf8.sequences string-utf8.goes_on string-utf8.valid string-quote.doubled string-quote.undoubled string-quote.closing string-quote.quoted_size charset-charset.spatial_byte civil-civil.leap civil-civil.days_in civil-civil.valid_date civil-civil.valid_time op-op.op_at op-op.is_arithmetic op-op.is_array op-op.is_comparison op-op.is_xtd_comparison op-op.is_spatial op-op.is_temporal op-op.is_instant_or_interval op-op.is_nullable spelling-spelling.spelled_as tree-tree.twos tree-tree.date_bytes tree-tree.counted tree-tree.encode_settings tree-tree.encode tree-parse.also tree-parse.cons tree-parse.end tree-parse.exactly tree-parse.many tree-tests.first tree-tests.second record-record.signed charset-named.named_at tree-parse.empty_body tree-parse.bool_body tree-parse.num_body tree-parse.str_body tree-parse.date_body tree-parse.timestamp_body tree-parse.spatial_body tree-parse.takes_one tree-parse.takes_two tree-parse.allowed tree-parse.operated tree-parse.read_function tree-parse.choose tree-parse.kinds tree-parse.node tree-parse.parse tree-tests.is_interval tree-tests.count tree-tests.is_pair tree_placed.is_between tree_placed.operands tree_placed.placed tree_placed.no_interval tree_placed.in_place tree_placed.inner tree-tests.everywhere tree-tests.everywhere_in tree-tests.by_operator settings-settings.is_frame settings-settings.settings_body settings-settings.is_settings tree-accepted.settings tree-accepted.accepted_tree tree-accepted.accepted literal-literal.low literal-literal.digits literal-literal.decimal literal-literal.pointed literal-literal.plain literal-literal.sign literal-literal.num_text literal-literal.quoted literal-literal.collate literal-literal.str_text literal-literal.spatial_text literal-literal.date literal-literal.clock literal-literal.timestamp literal-literal.after_seconds literal-literal.open_end sql-condition.print sql-condition.check_id sql-condition.check_ids sql-translators.t_after sql-translators.t_before sql-translators.t_disjoint sql-translators.t_equals sql-translators.t_intersects sql-translators.t_contains sql-translators.t_during sql-translators.t_finished_by sql-translators.t_finishes sql-translators.t_meets sql-translators.t_met_by sql-translators.t_overlapped_by sql-translators.t_overlaps sql-translators.t_started_by sql-translators.t_starts sql-translators.translate tree-tests.is_id tree-tests.is_literal_or_id tree-tests.is_monadic tree-tests.is_items tree-tests.start_of tree-tests.stop_of tree-tests.ends_of gpkg-text.joined gpkg-text.reduce_precision gpkg-text.monadic_text gpkg-text.reduces gpkg-text.dyadic_text tree-tests.is_literal gpkg-text.text room-room.sized gpkg-lowered.fitted gpkg-lowered.lowering_within gpkg-lowered.answer order-order.order order-order.below row-row.cell_of row-row.column_in row-row.framed row-row.front row-row.clash row-row.joined row-row.row_from row-row.row_of row-row.look truth-lex.run truth-lex.word_kind truth-lex.sign_kind truth-lex.sign_more truth-lex.quote_kind truth-lex.lexeme truth-lex.cut truth-lex.tokens_in truth-lex.tokens truth-lex.kind truth-lex.body truth-lex.rest truth-grammar.value truth-grammar.holds truth-grammar.eval truth-grammar.atom_of truth-grammar.not_null truth-grammar.null_test truth-grammar.from_atom truth-grammar.simple truth-grammar.or_e truth-reading.parse truth-reading.reading_of truth-reading.decided time-filter.comparable time-filter.is_end time-filter.is_operand time-filter.time_filter time-filtertruth.tree_atom time-filtertruth.holds time-filtertruth.value_on time-filtertruth.end_atom time-filtertruth.end_on time-filtertruth.cond_truth time-filtertruth.temporal_truth time-filtertruth.comparison time-filtertruth.truth_on time-filtertruth.is_value time-filtertruth.lies_below time-filtertruth.columns_non_null lacks of_one_width reduced one_reduced two_reduced turn turned meet meet_and meet_other met sort_of happens fitted reducing lowers_within lowers_by
computed w =
    record {
      lowers = lowers_by w whole refl refl refl;
      part_lowers = lowers_by w part refl refl refl;
      reduces = refl;
      filter = refl;
      no_null = refl;
      dates = refl;
      holds_there = refl;
      stamped_lowers = lowers_by GeoPackage stamped refl refl refl;
      stamped_part_lowers = lowers_by GeoPackage stamped_part refl refl refl;
      stamped-reduces = refl;
      stamped-filter = refl;
      stamped_no_null = refl;
      timestamps = refl;
      stamped_there = refl;
    }

-- the reduced filter's text is true on the row, since the filter's is
pub reducing_instance : (w : Writing) → reading_of (sql w part) row_d ≡ says_true
reducing_instance w =
    let k = computed w in
    sym (reducing-reads room k.lowers k.part_lowers k.reduces k.filter k.no_null k.dates is-row_d)
    ∙ reads_as k.lowers k.filter is-row_d ∙ k.holds_there

-- and in the second call with timestamps
pub geopackage_reducing_instance : reading_of (sql GeoPackage stamped_part) row_timestamp ≡ says_true
geopackage_reducing_instance =
    let k = computed GeoPackage in
    sym (reducing-reads room k.stamped_lowers k.stamped_part_lowers k.stamped-reduces k.stamped-filter k.stamped_no_null k.timestamps is-row_timestamp)
    ∙ reads_as k.stamped_lowers k.stamped-filter is-row_timestamp ∙ k.stamped_there

-- Outside the hypotheses.
record Apart (w : Writing) : Type 0 where
  null_lowers : Lowers w lone_null (sql w lone_null)
  nothing_lowers : Lowers w null (sql w null)
  null_reduces : reducing null_lowers.tree room ≡ got nothing_lowers.tree
  null_filters : (time_filter lone_null ≡ true) × (time_filter null ≡ true)
  null_truths : (answered (truth_on w columns_null lone_null) ≡ says_false) × (answered (truth_on w columns_null null) ≡ says_unknown)
  mixed_lowers : Lowers w mixed (sql w mixed)
  true_lowers : Lowers w (bool true) (sql w (bool true))
  mixed-reduces : reducing mixed_lowers.tree room ≡ got true_lowers.tree
  mixed_filters : (time_filter mixed ≡ true) × (time_filter (bool true) ≡ true)
  mixed_truths : (answered (truth_on w columns_null mixed) ≡ says_false) × (answered (truth_on w columns_null (bool true)) ≡ says_true)

apart : (w : Writing) → Apart w
unfolding prelude-choice.some record-record.frame record-record.record_of charset-charset.letter charset-charset.digit charset-charset.name_start charset-charset.name_byte word-case.upper keyword-reserved.reserved_words keyword-keywords.keywords keyword-keywords.keyword_texts keyword-reserved.reserved charset-charset.name string-utf8.sequences string-utf8.goes_on string-utf8.valid string-quote.doubled string-quote.undoubled string-quote.closing string-quote.quoted_size charset-charset.spatial_byte civil-civil.leap civil-civil.days_in civil-civil.valid_date civil-civil.valid_time op-op.op_at op-op.is_arithmetic op-op.is_array op-op.is_comparison op-op.is_xtd_comparison op-op.is_spatial op-op.is_temporal op-op.is_instant_or_interval op-op.is_nullable spelling-spelling.spelled_as tree-tree.twos tree-tree.date_bytes tree-tree.counted tree-tree.encode_settings tree-tree.encode tree-parse.also tree-parse.cons tree-parse.end tree-parse.exactly tree-parse.many tree-tests.first tree-tests.second record-record.signed charset-named.named_at tree-parse.empty_body tree-parse.bool_body tree-parse.num_body tree-parse.str_body tree-parse.date_body tree-parse.timestamp_body tree-parse.spatial_body tree-parse.takes_one tree-parse.takes_two tree-parse.allowed tree-parse.operated tree-parse.read_function tree-parse.choose tree-parse.kinds tree-parse.node tree-parse.parse tree-tests.is_interval tree-tests.count tree-tests.is_pair tree_placed.is_between tree_placed.operands tree_placed.placed tree_placed.no_interval tree_placed.in_place tree_placed.inner tree-tests.everywhere tree-tests.everywhere_in tree-tests.by_operator settings-settings.is_frame settings-settings.settings_body settings-settings.is_settings tree-accepted.settings tree-accepted.accepted_tree tree-accepted.accepted literal-literal.low literal-literal.digits literal-literal.decimal literal-literal.pointed literal-literal.plain literal-literal.sign literal-literal.num_text literal-literal.quoted literal-literal.collate literal-literal.str_text literal-literal.spatial_text literal-literal.date literal-literal.clock literal-literal.timestamp literal-literal.after_seconds literal-literal.open_end sql-condition.print sql-condition.check_id sql-condition.check_ids sql-translators.t_after sql-translators.t_before sql-translators.t_disjoint sql-translators.t_equals sql-translators.t_intersects sql-translators.t_contains sql-translators.t_during sql-translators.t_finished_by sql-translators.t_finishes sql-translators.t_meets sql-translators.t_met_by sql-translators.t_overlapped_by sql-translators.t_overlaps sql-translators.t_started_by sql-translators.t_starts sql-translators.translate tree-tests.is_id tree-tests.is_literal_or_id tree-tests.is_monadic tree-tests.is_items tree-tests.start_of tree-tests.stop_of tree-tests.ends_of gpkg-text.joined gpkg-text.reduce_precision gpkg-text.monadic_text gpkg-text.reduces gpkg-text.dyadic_text tree-tests.is_literal gpkg-text.text room-room.sized gpkg-lowered.fitted gpkg-lowered.lowering_within gpkg-lowered.answer order-order.order order-order.below row-row.cell_of row-row.column_in row-row.framed row-row.front row-row.clash row-row.joined row-row.row_from row-row.row_of row-row.look truth-lex.run truth-lex.word_kind truth-lex.sign_kind truth-lex.sign_more truth-lex.quote_kind truth-lex.lexeme truth-lex.cut truth-lex.tokens_in truth-lex.tokens truth-lex.kind truth-lex.body truth-lex.rest truth-grammar.value truth-grammar.holds truth-grammar.eval truth-grammar.atom_of truth-grammar.not_null truth-grammar.null_test truth-grammar.from_atom truth-grammar.simple truth-grammar.or_e truth-reading.parse truth-reading.reading_of truth-reading.decided time-filter.comparable time-filter.is_end time-filter.is_operand time-filter.time_filter time-filtertruth.tree_atom time-filtertruth.holds time-filtertruth.value_on time-filtertruth.end_atom time-filtertruth.end_on time-filtertruth.cond_truth time-filtertruth.temporal_truth time-filtertruth.comparison time-filtertruth.truth_on time-filtertruth.is_value time-filtertruth.lies_below time-filtertruth.columns_non_null lacks of_one_width reduced one_reduced two_reduced turn turned meet meet_and meet_other met sort_of happens fitted reducing lowers_within lowers_by
apart Rust =
    record {
      null_lowers = lowers_by Rust lone_null refl refl refl;
      nothing_lowers = lowers_by Rust null refl refl refl;
      null_reduces = refl;
      null_filters = (refl, refl);
      null_truths = (refl, refl);
      mixed_lowers = lowers_by Rust mixed refl refl refl;
      true_lowers = lowers_by Rust (bool true) refl refl refl;
      mixed-reduces = refl;
      mixed_filters = (refl, refl);
      mixed_truths = (refl, refl);
    }
apart GeoPackage =
    record {
      null_lowers = lowers_by GeoPackage lone_null refl refl refl;
      nothing_lowers = lowers_by GeoPackage null refl refl refl;
      null_reduces = refl;
      null_filters = (refl, refl);
      null_truths = (refl, refl);
      mixed_lowers = lowers_by GeoPackage mixed refl refl refl;
      true_lowers = lowers_by GeoPackage (bool true) refl refl refl;
      mixed-reduces = refl;
      mixed_filters = (refl, refl);
      mixed_truths = (refl, refl);
    }

-- lone-null: reducing gives Null, and the texts read false and unknown
pub lone_null_reads : (w : Writing) → (reading_of (sql w lone_null) row_null ≡ says_false) × (reading_of (sql w null) row_null ≡ says_unknown)
lone_null_reads w =
    let k = apart w in (
      reads_as k.null_lowers k.null_filters.0 is-row_null ∙ k.null_truths.0,
      reads_as k.nothing_lowers k.null_filters.1 is-row_null ∙ k.null_truths.1,
    )

-- mixed-widths: reducing gives true, and the texts read false and true
pub mixed_widths_read : (w : Writing) → (reading_of (sql w mixed) row_null ≡ says_false) × (reading_of (sql w (bool true)) row_null ≡ says_true)
mixed_widths_read w =
    let k = apart w in (
      reads_as k.mixed_lowers k.mixed_filters.0 is-row_null ∙ k.mixed_truths.0,
      reads_as k.true_lowers k.mixed_filters.1 is-row_null ∙ k.mixed_truths.1,
    )
