-- The sheets of both writing calls hold: both sides are computed from the definitions of the public calls.
use Rattle.std.specs.Prelude.{◌≡◌, refl, true}
use Rattle.literal.specs.declared.Writing.TheVariants.{Rust, GeoPackage}
use Rattle.prelude.specs.Bytes.{bytes}
use Rattle.truth.specs.Reading.{says_true, says_false}
use Rattle.sheets.specs.Sheets.{sheets, geopackage_sheets, open_end_sheets, all}
use Rattle.prelude.specs.Choice.{both}
use Rattle.prelude.specs.Choice as prelude-choice
use Rattle.record.specs.Record as record-record
use Rattle.charset.specs.Charset as charset-charset
use Rattle.charset.specs.Named as charset-named
use Rattle.string.specs.Utf8 as string-utf8
use Rattle.string.specs.Quote as string-quote
use Rattle.word.specs.Case as word-case
use Rattle.keyword.specs.Reserved as keyword-reserved
use Rattle.keyword.specs.Keywords as keyword-keywords
use Rattle.civil.specs.Civil as civil-civil
use Rattle.op.specs.Op as op-op
use Rattle.spelling.specs.Spelling as spelling-spelling
use Rattle.settings.specs.Settings as settings-settings
use Rattle.tree.specs.Tree as tree-tree
use Rattle.tree.specs.Parse as tree-parse
use Rattle.tree.specs.Tests as tree-tests
use Rattle.tree.specs.Placed as tree_placed
use Rattle.tree.specs.Accepted as tree-accepted
use Rattle.literal.specs.Literal as literal-literal
use Rattle.sql.specs.Condition as sql-condition
use Rattle.sql.specs.Translators as sql-translators
use Rattle.text.specs.Text as gpkg-text
use Rattle.room.specs.Room as room-room
use Rattle.text.specs.Lowered as gpkg-lowered
use Rattle.order.specs.Order as order-order
use Rattle.row.specs.Row as row-row
use Rattle.lexer.specs.Lex as truth-lex
use Rattle.truth.specs.Grammar as truth-grammar
use Rattle.truth.specs.Reading as truth-reading

pub sheets-hold :
    both (both (all Rust sheets) (all GeoPackage geopackage_sheets))
    (both (all Rust (open_end_sheets (bytes "'-2021-01-01'") says_false)) (all GeoPackage (open_end_sheets (bytes "'A'") says_true)))
    ≡ true
unfolding prelude-choice.some record-record.frame record-record.record_of charset-charset.letter charset-charset.digit charset-charset.name_start charset-charset.name_byte word-case.upper keyword-reserved.reserved_words keyword-keywords.keywords keyword-keywords.keyword_texts keyword-reserved.reserved charset-charset.name string-utf8.sequences string-utf8.goes_on string-utf8.valid string-quote.doubled string-quote.undoubled string-quote.closing string-quote.quoted_size charset-charset.spatial_byte civil-civil.leap civil-civil.days_in civil-civil.valid_date civil-civil.valid_time op-op.op_at op-op.is_arithmetic op-op.is_array op-op.is_comparison op-op.is_xtd_comparison op-op.is_spatial op-op.is_temporal op-op.is_instant_or_interval op-op.is_nullable spelling-spelling.spelled_as tree-tree.twos tree-tree.date_bytes tree-tree.counted tree-tree.encode_settings tree-tree.encode tree-parse.also tree-parse.cons tree-parse.end tree-parse.exactly tree-parse.many tree-tests.first tree-tests.second record-record.signed charset-named.named_at tree-parse.empty_body tree-parse.bool_body tree-parse.num_body tree-parse.str_body tree-parse.date_body tree-parse.timestamp_body tree-parse.spatial_body tree-parse.takes_one tree-parse.takes_two tree-parse.allowed tree-parse.operated tree-parse.read_function tree-parse.choose tree-parse.kinds tree-parse.node tree-parse.parse tree-tests.is_interval tree-tests.count tree-tests.is_pair tree_placed.is_between tree_placed.operands tree_placed.placed tree_placed.no_interval tree_placed.in_place tree_placed.inner tree-tests.everywhere tree-tests.everywhere_in tree-tests.by_operator settings-settings.is_frame settings-settings.settings_body settings-settings.is_settings tree-accepted.settings tree-accepted.accepted_tree tree-accepted.accepted literal-literal.low literal-literal.digits literal-literal.decimal literal-literal.pointed literal-literal.plain literal-literal.sign literal-literal.num_text literal-literal.quoted literal-literal.collate literal-literal.str_text literal-literal.spatial_text literal-literal.date literal-literal.clock literal-literal.after_seconds literal-literal.timestamp literal-literal.open_end sql-condition.print sql-condition.check_id sql-condition.check_ids sql-translators.t_after sql-translators.t_before sql-translators.t_disjoint sql-translators.t_equals sql-translators.t_intersects sql-translators.t_contains sql-translators.t_during sql-translators.t_finished_by sql-translators.t_finishes sql-translators.t_meets sql-translators.t_met_by sql-translators.t_overlapped_by sql-translators.t_overlaps sql-translators.t_started_by sql-translators.t_starts sql-translators.translate tree-tests.is_id tree-tests.is_literal_or_id tree-tests.is_monadic tree-tests.is_items tree-tests.start_of tree-tests.stop_of tree-tests.ends_of gpkg-text.joined gpkg-text.reduce_precision gpkg-text.monadic_text gpkg-text.reduces gpkg-text.dyadic_text tree-tests.is_literal gpkg-text.text room-room.sized gpkg-lowered.fitted gpkg-lowered.lowering_within gpkg-lowered.answer order-order.order order-order.below row-row.cell_of row-row.column_in row-row.framed row-row.front row-row.clash row-row.joined row-row.row_from row-row.row_of row-row.look truth-lex.run truth-lex.word_kind truth-lex.sign_kind truth-lex.sign_more truth-lex.quote_kind truth-lex.lexeme truth-lex.cut truth-lex.tokens_in truth-lex.tokens truth-lex.kind truth-lex.body truth-lex.rest truth-grammar.value truth-grammar.holds truth-grammar.eval truth-grammar.atom_of truth-grammar.not_null truth-grammar.null_test truth-grammar.from_atom truth-grammar.simple truth-grammar.or_e truth-reading.parse truth-reading.reading_of truth-reading.decided
sheets-hold = refl
