-- The theorems of demands 2 and 3 at work on bytes: a filter, a row, the answer, for each of them. So none of their hypotheses is empty:
-- settings, trees and rows that meet them are computed here. (Examples.antt has the cases outside.)
use Rattle.std.specs.Prelude.{ℕ, ◌≡◌, refl, List, [], ◌∷◌, ◌++◌, true, ltb}
use Rattle.std.proofs.Common.{◌∙◌, arith, ltb-true}
use Rattle.prelude.specs.Bytes.{bytes}
use Rattle.prelude.specs.Choice.{all}
use Rattle.prelude.specs.ChoiceLaws.{all_true}
use Rattle.op.specs.declared.Op.{Op}
use Rattle.op.specs.declared.Op.TheVariants.{TAfter, TBefore, TContains, TDisjoint, TDuring, TEquals, TFinishedBy, TFinishes, TIntersects, TMeets, TMetBy, TOverlappedBy, TOverlaps, TStartedBy, TStarts}
use Rattle.op.specs.Op.{is_temporal}
use Rattle.tree.specs.Tree.{Tree, Settings, unbounded, timestamp, id, dyadic, interval, encode, encode_settings, Bytes}
use Rattle.tree.specs.Parse.{got}
use Rattle.tree.specs.declared.Limits.{Limits}
use Rattle.tree.specs.Limits.{NoGreater, planner}
use Rattle.tree.specs.Accepted.{accepted}
use Rattle.literal.specs.declared.Writing.{Writing}
use Rattle.literal.specs.declared.Writing.TheVariants.{Rust, GeoPackage}
use Rattle.text.specs.Lowered.{lowering_within, lowering}
use Rattle.row.specs.Row.{Column, val, row_of, columns}
use Rattle.truth.specs.Reading.{says_true, says_false, says_unknown}
use Rattle.truth.specs.Grammar.{truth_of}
use Rattle.truth.specs.Reading.{answered, reading_of}
use Rattle.time.specs.Accepted.{Lowers, IsRow}
use Rattle.time.specs.Claims.{Alike, Opposite, ExactlyOne}
use Rattle.time.specs.Converse.{turn, thirteen}
use Rattle.time.specs.Filter.{time_filter, is_operand}
use Rattle.time.specs.FilterTruth.{holds, truth_on, columns_non_null, proper}
use Rattle.time.specs.Ogc.{ten, twenty_four, instants, ogc_operand, ogc_on}
use Rattle.time.specs.OperatorLaws.{AllOf, done, ◌also◌, among}
use Rattle.time.proofs.ReadsTruth.{reads_truth}
use Rattle.time.proofs.Theorems.{converse-reads, complement_reads, exactly_one_reads, agrees_with_ogc}
use Rattle.prelude.specs.Choice as prelude-choice
use Rattle.record.specs.Record as record-record
use Rattle.charset.specs.Charset as charset-charset
use Rattle.charset.specs.Named as charset-named
use Rattle.string.specs.Utf8 as string-utf8
use Rattle.string.specs.Quote as string-quote
use Rattle.word.specs.Case as word-case
use Rattle.keyword.specs.Reserved as keyword-reserved
use Rattle.keyword.specs.Keywords as keyword-keywords
use Rattle.civil.specs.Civil as civil-civil
use Rattle.op.specs.Op as op-op
use Rattle.spelling.specs.Spelling as spelling-spelling
use Rattle.settings.specs.Settings as settings-settings
use Rattle.tree.specs.Tree as tree-tree
use Rattle.tree.specs.Parse as tree-parse
use Rattle.tree.specs.Tests as tree-tests
use Rattle.tree.specs.Placed as tree_placed
use Rattle.tree.specs.Accepted as tree-accepted
use Rattle.literal.specs.Literal as literal-literal
use Rattle.sql.specs.Condition as sql-condition
use Rattle.sql.specs.Translators as sql-translators
use Rattle.text.specs.Text as gpkg-text
use Rattle.room.specs.Room as room-room
use Rattle.text.specs.Lowered as gpkg-lowered
use Rattle.order.specs.Order as order-order
use Rattle.row.specs.Row as row-row
use Rattle.lexer.specs.Lex as truth-lex
use Rattle.truth.specs.Grammar as truth-grammar
use Rattle.truth.specs.Reading as truth-reading
use Rattle.time.specs.Filter as time-filter
use Rattle.time.specs.FilterTruth as time-filtertruth
use Rattle.time.specs.Converse as time-converse
use Rattle.time.specs.Ogc as time-ogc

-- bytes, by a test that is computed
pub bytes-by : (s : List ℕ) → all (λ b. ltb b 256) s ≡ true → Bytes s
bytes-by [] e = tt
bytes-by (b ∷ s) e = let h = all_true (λ b. ltb b 256) b s e in (ltb-true b 256 h.0, bytes-by s h.1)

abbrev pub settings : Settings
settings = record { precision = 7; ci = bytes "NC"; ai = bytes "NA"; cai = bytes "NCA" }

abbrev pub room : ℕ
room = 100

-- a tree whose bytes are accepted and lowered within some limits
unfoldable pub lowers_within : (l : Limits) → NoGreater l planner → (w : Writing) (t : Tree) → all (λ b. ltb b 256) (encode t) ≡ true → accepted l (encode_settings settings) (encode t) ≡ got (settings, t)
    → lowering_within l w (encode_settings settings) (encode t) room ≡ got (gpkg-text.text w settings t) → Lowers w t (gpkg-text.text w settings t)
lowers_within k h w t b r l =
    record { limits = k; within = h; settings = encode_settings settings; tree = encode t; room = room; bytes = bytes-by (encode t) b; holds = settings; read = r; lowered = l }

-- for the planner
unfoldable pub lowers_by : (w : Writing) (t : Tree) → all (λ b. ltb b 256) (encode t) ≡ true → accepted planner (encode_settings settings) (encode t) ≡ got (settings, t)
    → lowering w (encode_settings settings) (encode t) room ≡ got (gpkg-text.text w settings t) → Lowers w t (gpkg-text.text w settings t)
lowers_by = lowers_within planner (record { tree = omega arith; depth = omega arith; text = omega arith })

-- for another caller, the limits being the controller's
abbrev smaller : Limits
smaller = record { tree = 2000; depth = 8; text = 4000 }

lowers_smaller : (w : Writing) (t : Tree) → all (λ b. ltb b 256) (encode t) ≡ true → accepted smaller (encode_settings settings) (encode t) ≡ got (settings, t)
    → lowering_within smaller w (encode_settings settings) (encode t) room ≡ got (gpkg-text.text w settings t) → Lowers w t (gpkg-text.text w settings t)
lowers_smaller = lowers_within smaller (record { tree = omega arith; depth = omega arith; text = omega arith })

abbrev pub a : Tree
a = id (bytes "a")

abbrev b : Tree
b = id (bytes "b")

abbrev c : Tree
c = id (bytes "c")

abbrev d : Tree
d = id (bytes "d")

abbrev pub day : ℕ → row-row.Value
day n = val (literal-literal.date 2024 1 n)

-- a row with a NULL: a NULL, b 2024-01-01, c 2024-01-02; as bytes, and its columns, the last one first
abbrev pub row_null : List ℕ
row_null =
    5 ∷ 0 ∷ 0 ∷ 0 ∷ 200 ∷ 0 ∷ 1 ∷ (bytes "a" ++ (0
    ∷ 15 ∷ 0 ∷ 0 ∷ 0 ∷ 200 ∷ 0 ∷ 1 ∷ (bytes "b" ++ (1 ∷ (bytes "2024-01-01"
    ++ (15 ∷ 0 ∷ 0 ∷ 0 ∷ 200 ∷ 0 ∷ 1 ∷ (bytes "c" ++ (1 ∷ bytes "2024-01-02"))))))))

abbrev pub columns_null : List Column
columns_null =
    record { called = bytes "c"; holds = day 2 } ∷ record { called = bytes "b"; holds = day 1 } ∷ record { called = bytes "a"; holds = row-row.null } ∷ []

-- a to d, the first to the fourth of January 2024
abbrev pub row_d : List ℕ
row_d =
    15 ∷ 0 ∷ 0 ∷ 0 ∷ 200 ∷ 0 ∷ 1 ∷ (bytes "a" ++ (1 ∷ (bytes "2024-01-01"
    ++ (15 ∷ 0 ∷ 0 ∷ 0 ∷ 200 ∷ 0 ∷ 1 ∷ (bytes "b" ++ (1 ∷ (bytes "2024-01-02"
    ++ (15 ∷ 0 ∷ 0 ∷ 0 ∷ 200 ∷ 0 ∷ 1 ∷ (bytes "c" ++ (1 ∷ (bytes "2024-01-03"
    ++ (15 ∷ 0 ∷ 0 ∷ 0 ∷ 200 ∷ 0 ∷ 1 ∷ (bytes "d" ++ (1 ∷ bytes "2024-01-04"))))))))))))))

abbrev pub columns_d : List Column
columns_d =
    record { called = bytes "d"; holds = day 4 } ∷ record { called = bytes "c"; holds = day 3 } ∷ record { called = bytes "b"; holds = day 2 }
    ∷ record { called = bytes "a"; holds = day 1 } ∷ []

-- the filters: sheet J, the same turned, its complement, and [a, c] against [b, d] under any operator
abbrev apart : Tree
apart = dyadic TDisjoint a (interval b c)

abbrev turned : Tree
turned = dyadic TDisjoint (interval b c) a

abbrev meeting : Tree
meeting = dyadic TIntersects a (interval b c)

abbrev pair : Op → Tree
pair o = dyadic o (interval a c) (interval b d)

-- the text of a filter by a writing
abbrev pub sql : Writing → Tree → List ℕ
sql w t = gpkg-text.text w settings t

-- In the second call: a is 2024-01-01T00:00:00.500Z, and the filter says that it lies after the midnight before it, or after one a day later.
abbrev pub row_timestamp : List ℕ
row_timestamp = 29 ∷ 0 ∷ 0 ∷ 0 ∷ 200 ∷ 0 ∷ 1 ∷ (bytes "a" ++ (1 ∷ bytes "2024-01-01T00:00:00.500Z"))

abbrev pub columns_timestamp : List Column
columns_timestamp = record { called = bytes "a"; holds = val (bytes "2024-01-01T00:00:00.500Z") } ∷ []

abbrev pub midnight : ℕ → Tree
midnight n = timestamp 2024 1 n 0 0 0

abbrev after : ℕ → Tree
after n = dyadic TAfter a (midnight n)

-- a stay that began at a and has not ended goes on at the next midnight
abbrev stay : Tree
stay = interval a unbounded

abbrev staying : Tree
staying = dyadic TIntersects stay (midnight 2)

-- All that is computed, at once; what names no timestamp is so in either writing.
record Computed (w : Writing) : Type 0 where
  row_null-is : row_of row_null ≡ columns columns_null
  row_d-is : row_of row_d ≡ columns columns_d
  apart_lowers : Lowers w apart (sql w apart)
  turned_lowers : Lowers w turned (sql w turned)
  meeting_lowers : Lowers w meeting (sql w meeting)
  pairs_lower : AllOf (λ o. Lowers w (pair o) (sql w (pair o))) thirteen
  apart-filter : time_filter apart ≡ true
  temporal : is_temporal TDisjoint ≡ true
  held_null : holds columns_null apart ≡ true
  unknown : answered (truth_on w columns_null apart) ≡ says_unknown
  instant : is_operand a ≡ true
  operands : (is_operand (interval b c) ≡ true) × (is_operand (interval a c) ≡ true) × (is_operand (interval b d) ≡ true)
  held_d : (holds columns_d a ≡ true) × (holds columns_d (interval b c) ≡ true)
  no_null : (columns_non_null columns_d a ≡ true) × (columns_non_null columns_d (interval b c) ≡ true)
  below : (proper w columns_d a c ≡ true) × (proper w columns_d b d ≡ true)
  dates : (instants ten columns_d ≡ true) × (ogc_operand ten a ≡ true) × (ogc_operand ten (interval b c) ≡ true)
  holds_there : answered (truth_of (ogc_on ten columns_d TDisjoint a (interval b c))) ≡ says_true
  row_timestamp-is : row_of row_timestamp ≡ columns columns_timestamp
  after_lowers : Lowers GeoPackage (after 1) (sql GeoPackage (after 1))
  later_lowers : Lowers GeoPackage (after 2) (sql GeoPackage (after 2))
  later-filter : time_filter (after 2) ≡ true
  after_temporal : is_temporal TAfter ≡ true
  held_timestamp : (holds columns_timestamp a ≡ true) × (holds columns_timestamp (midnight 1) ≡ true) × (holds columns_timestamp (after 2) ≡ true)
  stamps : (instants twenty_four columns_timestamp ≡ true) × (ogc_operand twenty_four a ≡ true) × (ogc_operand twenty_four (midnight 1) ≡ true)
  later : answered (truth_of (ogc_on twenty_four columns_timestamp TAfter a (midnight 1))) ≡ says_true
  not_later : answered (truth_on GeoPackage columns_timestamp (after 2)) ≡ says_false
  stay_lowers : Lowers GeoPackage staying (sql GeoPackage staying)
  meets_temporal : is_temporal TIntersects ≡ true
  held_stay : (holds columns_timestamp stay ≡ true) × (holds columns_timestamp (midnight 2) ≡ true)
  stays : (ogc_operand twenty_four stay ≡ true) × (ogc_operand twenty_four (midnight 2) ≡ true)
  stays_there : answered (truth_of (ogc_on twenty_four columns_timestamp TIntersects stay (midnight 2))) ≡ says_true

computed : (w : Writing) → Computed w
unfolding prelude-choice.some record-record.frame record-record.record_of charset-charset.letter charset-charset.digit charset-charset.name_start charset-charset.name_byte word-case.upper keyword-reserved.reserved_words keyword-keywords.keywords keyword-keywords.keyword_texts keyword-reserved.reserved charset-charset.name string-utf8.sequences string-utf8.goes_on string-utf8.valid string-quote.doubled string-quote.undoubled string-quote.closing string-quote.quoted_size charset-charset.spatial_byte civil-civil.leap civil-civil.days_in civil-civil.valid_date civil-civil.valid_time op-op.op_at op-op.is_arithmetic op-op.is_array op-op.is_comparison op-op.is_xtd_comparison op-op.is_spatial op-op.is_temporal op-op.is_instant_or_interval op-op.is_nullable spelling-spelling.spelled_as tree-tree.twos tree-tree.date_bytes tree-tree.counted tree-tree.encode_settings tree-tree.encode tree-parse.also tree-parse.cons tree-parse.end tree-parse.exactly tree-parse.many tree-tests.first tree-tests.second record-record.signed charset-named.named_at tree-parse.empty_body tree-parse.bool_body tree-parse.num_body tree-parse.str_body tree-parse.date_body tree-parse.timestamp_body tree-parse.spatial_body tree-parse.takes_one tree-parse.takes_two tree-parse.allowed tree-parse.operated tree-parse.read_function tree-parse.choose tree-parse.kinds tree-parse.node tree-parse.parse tree-tests.is_interval tree-tests.count tree-tests.is_pair tree_placed.is_between tree_placed.operands tree_placed.placed tree_placed.no_interval tree_placed.in_place tree_placed.inner tree-tests.everywhere tree-tests.everywhere_in tree-tests.by_operator settings-settings.is_frame settings-settings.settings_body settings-settings.is_settings tree-accepted.settings tree-accepted.accepted_tree tree-accepted.accepted literal-literal.low literal-literal.digits literal-literal.decimal literal-literal.pointed literal-literal.plain literal-literal.sign literal-literal.num_text literal-literal.quoted literal-literal.collate literal-literal.str_text literal-literal.spatial_text literal-literal.date literal-literal.clock literal-literal.timestamp literal-literal.after_seconds literal-literal.open_end sql-condition.print sql-condition.check_id sql-condition.check_ids sql-translators.t_after sql-translators.t_before sql-translators.t_disjoint sql-translators.t_equals sql-translators.t_intersects sql-translators.t_contains sql-translators.t_during sql-translators.t_finished_by sql-translators.t_finishes sql-translators.t_meets sql-translators.t_met_by sql-translators.t_overlapped_by sql-translators.t_overlaps sql-translators.t_started_by sql-translators.t_starts sql-translators.translate tree-tests.is_id tree-tests.is_literal_or_id tree-tests.is_monadic tree-tests.is_items tree-tests.start_of tree-tests.stop_of tree-tests.ends_of gpkg-text.joined gpkg-text.reduce_precision gpkg-text.monadic_text gpkg-text.reduces gpkg-text.dyadic_text tree-tests.is_literal gpkg-text.text room-room.sized gpkg-lowered.fitted gpkg-lowered.lowering_within gpkg-lowered.answer order-order.order order-order.below row-row.cell_of row-row.column_in row-row.framed row-row.front row-row.clash row-row.joined row-row.row_from row-row.row_of row-row.look truth-lex.run truth-lex.word_kind truth-lex.sign_kind truth-lex.sign_more truth-lex.quote_kind truth-lex.lexeme truth-lex.cut truth-lex.tokens_in truth-lex.tokens truth-lex.kind truth-lex.body truth-lex.rest truth-grammar.value truth-grammar.holds truth-grammar.eval truth-grammar.atom_of truth-grammar.not_null truth-grammar.null_test truth-grammar.from_atom truth-grammar.simple truth-grammar.or_e truth-reading.parse truth-reading.reading_of truth-reading.decided time-filter.comparable time-filter.is_end time-filter.is_operand time-filter.time_filter time-filtertruth.tree_atom time-filtertruth.holds time-filtertruth.value_on time-filtertruth.end_atom time-filtertruth.end_on time-filtertruth.cond_truth time-filtertruth.temporal_truth time-filtertruth.comparison time-filtertruth.truth_on time-filtertruth.is_value time-filtertruth.lies_below time-filtertruth.columns_non_null time-converse.converse time-converse.thirteen time-ogc.earlier time-ogc.same_moment time-ogc.ogc time-ogc.begins_date time-ogc.goes_on_time time-ogc.goes_on_milliseconds time-ogc.is_instant time-ogc.fields time-ogc.instants time-ogc.is_point time-ogc.is_start time-ogc.is_stop time-ogc.ogc_operand time-ogc.moment_on time-ogc.ogc_on
computed w =
    record {
      row_null-is = refl;
      row_d-is = refl;
      apart_lowers = lowers_by w apart refl refl refl;
      turned_lowers = lowers_smaller w turned refl refl refl;
      meeting_lowers = lowers_by w meeting refl refl refl;
      pairs_lower =
          lowers_by w (pair TAfter) refl refl refl
          also lowers_by w (pair TBefore) refl refl refl
          also lowers_by w (pair TContains) refl refl refl
          also lowers_by w (pair TDuring) refl refl refl
          also lowers_by w (pair TEquals) refl refl refl
          also lowers_by w (pair TFinishedBy) refl refl refl
          also lowers_by w (pair TFinishes) refl refl refl
          also lowers_by w (pair TMeets) refl refl refl
          also lowers_by w (pair TMetBy) refl refl refl
          also lowers_by w (pair TOverlappedBy) refl refl refl
          also lowers_by w (pair TOverlaps) refl refl refl
          also lowers_by w (pair TStartedBy) refl refl refl
          also lowers_by w (pair TStarts) refl refl refl
          also done;
      apart-filter = refl;
      temporal = refl;
      held_null = refl;
      unknown = refl;
      instant = refl;
      operands = (refl, refl, refl);
      held_d = (refl, refl);
      no_null = (refl, refl);
      below = (refl, refl);
      dates = (refl, refl, refl);
      holds_there = refl;
      row_timestamp-is = refl;
      after_lowers = lowers_by GeoPackage (after 1) refl refl refl;
      later_lowers = lowers_by GeoPackage (after 2) refl refl refl;
      later-filter = refl;
      after_temporal = refl;
      held_timestamp = (refl, refl, refl);
      stamps = (refl, refl, refl);
      later = refl;
      not_later = refl;
      stay_lowers = lowers_by GeoPackage staying refl refl refl;
      meets_temporal = refl;
      held_stay = (refl, refl);
      stays = (refl, refl);
      stays_there = refl;
    }

pub is-row_null : IsRow row_null columns_null
is-row_null = record { short = omega arith; reads = (computed Rust).row_null-is }

pub is-row_d : IsRow row_d columns_d
is-row_d = record { short = omega arith; reads = (computed Rust).row_d-is }

-- reads-truth: sheet J's filter on the row with a NULL is unknown
pub reads_truth_instance : (w : Writing) → reading_of (sql w apart) row_null ≡ says_unknown
reads_truth_instance w = (reads_truth (computed w).apart_lowers (computed w).apart-filter is-row_null (computed w).held_null).0 ∙ (computed w).unknown

-- converse-reads: the operands exchanged
pub converse_instance : (w : Writing) → Alike says_true says_false says_unknown (reading_of (sql w apart) row_null) (reading_of (sql w turned) row_null)
unfolding time-converse.converse prelude-choice.some
converse_instance w =
    converse-reads (turn TDisjoint a (interval b c) (computed w).temporal) (computed w).apart_lowers (computed w).turned_lowers (computed w).apart-filter is-row_null (computed w).held_null

-- complement-reads: on a row without NULL
pub complement_instance : (w : Writing) → Opposite says_true says_false says_unknown (reading_of (sql w apart) row_d) (reading_of (sql w meeting) row_d)
complement_instance w =
    complement_reads (computed w).apart_lowers (computed w).meeting_lowers (computed w).instant (computed w).operands.0 is-row_d
    (computed w).no_null.0 (computed w).no_null.1

-- agrees-with-ogc: a lies before the interval from b to c, so they are disjoint
pub ogc_instance : reading_of (sql Rust apart) row_d ≡ says_true
ogc_instance =
    agrees_with_ogc ten (computed Rust).apart_lowers (computed Rust).temporal is-row_d (computed Rust).held_d.0 (computed Rust).held_d.1 (computed Rust).dates.0 (computed Rust).dates.1 (computed Rust).dates.2
    ∙ (computed Rust).holds_there

-- exactly-one-reads: [a, c] and [b, d]
pub exactly_one_instance : (w : Writing) → ExactlyOne says_true says_false (λ o. reading_of (sql w (pair o)) row_d)
exactly_one_instance w =
    exactly_one_reads (λ o. sql w (pair o)) (among (λ o. Lowers w (pair o) (sql w (pair o))) (computed w).pairs_lower) (computed w).operands.1 (computed w).operands.2 is-row_d
    (computed w).below.0 (computed w).below.1

-- in the second call
pub is-row_timestamp : IsRow row_timestamp columns_timestamp
is-row_timestamp = record { short = omega arith; reads = (computed Rust).row_timestamp-is }

pub geopackage_truth_instance : reading_of (sql GeoPackage (after 2)) row_timestamp ≡ says_false
geopackage_truth_instance =
    (reads_truth (computed GeoPackage).later_lowers (computed GeoPackage).later-filter is-row_timestamp (computed GeoPackage).held_timestamp.2).0 ∙ (computed GeoPackage).not_later

pub geopackage_ogc_instance : reading_of (sql GeoPackage (after 1)) row_timestamp ≡ says_true
geopackage_ogc_instance =
    agrees_with_ogc twenty_four (computed GeoPackage).after_lowers (computed GeoPackage).after_temporal is-row_timestamp (computed GeoPackage).held_timestamp.0 (computed GeoPackage).held_timestamp.1 (computed GeoPackage).stamps.0 (computed GeoPackage).stamps.1 (computed GeoPackage).stamps.2
    ∙ (computed GeoPackage).later

-- and with an open end
pub open_end_instance : reading_of (sql GeoPackage staying) row_timestamp ≡ says_true
open_end_instance =
    agrees_with_ogc twenty_four (computed GeoPackage).stay_lowers (computed GeoPackage).meets_temporal is-row_timestamp (computed GeoPackage).held_stay.0 (computed GeoPackage).held_stay.1 (computed GeoPackage).stamps.0 (computed GeoPackage).stays.0 (computed GeoPackage).stays.1
    ∙ (computed GeoPackage).stays_there
