-- Computed instances of the laws of converses, complement, exactly one of thirteen, and agreement with OGC 21-065r2: what their hypotheses admit,
-- and for each hypothesis the smallest case outside it where the conclusion fails. Every line is closed by computing both sides.
use Rattle.std.specs.Prelude.{ℕ, ◌≡◌, refl, List, [], ◌∷◌, true, false}
use Rattle.std.proofs.Common.{arith}
use Rattle.prelude.specs.Bytes.{bytes}
use Rattle.prelude.specs.Choice.{some}
use Rattle.civil.specs.Civil.{leap, days_in, valid_date, valid_time}
use Rattle.order.specs.Order.{order, below}
use Rattle.charset.specs.Charset as charset
use Rattle.string.specs.Utf8 as utf8
use Rattle.string.specs.Quote as quote
use Rattle.word.specs.Case as case
use Rattle.keyword.specs.Reserved as keyword
use Rattle.keyword.specs.Keywords as keywords
use Rattle.op.specs.declared.Op.TheVariants.{Neg, Or, TAfter, TBefore, TContains, TDisjoint, TDuring, TEquals, TFinishes, TIntersects, TMeets, TMetBy, TOverlaps}
use Rattle.op.specs.Op as op
use Rattle.spelling.specs.Spelling as spelling
use Rattle.tree.specs.Tree.{Tree, Settings, null, unbounded, date, timestamp, id, monadic, dyadic, interval}
use Rattle.tree.specs.Placed.{operands}
use Rattle.tree.specs.Tests as trees
use Rattle.tree.specs.Placed as placed
use Rattle.tree.specs.GoodWords.{Good}
use Rattle.literal.specs.declared.Writing.TheVariants.{Rust, GeoPackage}
use Rattle.literal.specs.Literal as literal
use Rattle.sql.specs.Condition as sql
use Rattle.sql.specs.Translators as translators
use Rattle.text.specs.Text as gpkg
use Rattle.row.specs.Row.{Value, val, Column, look}
use Rattle.row.specs.Row as row
use Rattle.truth.specs.declared.Truth.TheVariants.{True, False, Unknown, Missing}
use Rattle.refusal.specs.declared.Refusal.TheVariants.{BadText, MissingColumn}
use Rattle.std.specs.Prelude.{Err}
use Rattle.truth.specs.Reading.{Reading, says_true}
use Rattle.lexer.specs.Lex as lex
use Rattle.truth.specs.Grammar.{not3, truth_of}
use Rattle.truth.specs.Grammar as grammar
use Rattle.truth.specs.Reading.{parse, verdict, answer}
use Rattle.time.specs.Filter.{is_operand, is_end, time_filter}
use Rattle.time.specs.FilterTruth.{tree_atom, end_atom, value_on, end_on, holds, cond_truth, temporal_truth, truth_on, is_value, columns_non_null, lies_below, proper}
use Rattle.time.specs.Converse.{converse, Turned, turn, in_both, in_neg}
use Rattle.time.specs.Claims.{ExactlyOne}
use Rattle.time.proofs.ConverseLaws.{turned_truth}
use Rattle.time.proofs.ComplementLaws.{disjoint_intersects}
use Rattle.time.proofs.ThirteenLaws.{exactly_one}
use Rattle.time.proofs.OgcLaws.{ogc_agrees}
use Rattle.time.specs.Ogc.{earlier, same_moment, ogc, begins_date, goes_on_time, goes_on_milliseconds, ten, nineteen, twenty_four, is_instant, fields, instants, is_point, is_start, is_stop, ogc_operand, moment_on, ogc_on}

-- Columns a, b, c, d, and values.
abbrev a : Tree
a = id (bytes "a")

abbrev b : Tree
b = id (bytes "b")

abbrev c : Tree
c = id (bytes "c")

abbrev d : Tree
d = id (bytes "d")

-- a day of January 2024
abbrev day : ℕ → Value
day n = val (literal.date 2024 1 n)

-- a second of the first minute of that year
abbrev second : ℕ → Value
second n = val (literal.timestamp Rust 2024 1 1 0 0 n)

abbrev row_of : (va vb vc vd : Value) → List Column
row_of va vb vc vd =
    record { called = bytes "a"; holds = va }
    ∷ record { called = bytes "b"; holds = vb }
    ∷ record { called = bytes "c"; holds = vc }
    ∷ record { called = bytes "d"; holds = vd }
    ∷ []

-- the first to the fourth of January
abbrev days : List Column
days = row_of (day 1) (day 2) (day 3) (day 4)

-- sheet N's row: a 2024-01-02, b NULL, c 2024-01-01
abbrev sheet_n : List Column
sheet_n = row_of (day 2) row.null (day 1) (day 4)

-- ---- Converses.

-- NOT TAfter(a, [b, c]) OR TDisjoint(a, [.., c]), and the same with both predicates turned
abbrev filter : Tree
filter = dyadic Or (monadic Neg (dyadic TAfter a (interval b c))) (dyadic TDisjoint a (interval unbounded c))

abbrev filter' : Tree
filter' = dyadic Or (monadic Neg (dyadic TBefore (interval b c) a)) (dyadic TDisjoint (interval unbounded c) a)

turned : Turned filter filter'
unfolding converse op.is_temporal some
turned = in_both Or refl (in_neg Neg refl (turn TAfter a (interval b c) refl)) (turn TDisjoint a (interval unbounded c) refl)

converse-admits :
    (time_filter filter ≡ true) × (time_filter filter' ≡ true) × (holds days filter ≡ true) × (truth_on Rust days filter ≡ True) × (truth_on Rust days filter' ≡ True)
    × (truth_on Rust sheet_n (dyadic TDisjoint a (interval b c)) ≡ Unknown) × (truth_on Rust sheet_n (dyadic TDisjoint (interval b c) a) ≡ Unknown)
unfolding time_filter is_operand is_end op.is_temporal op.is_nullable holds look some truth_on temporal_truth cond_truth translators.translate translators.t_after translators.t_before translators.t_disjoint sql.check_id sql.check_ids trees.is_interval trees.is_id trees.start_of trees.stop_of trees.ends_of value_on end_on order grammar.holds literal.date literal.low literal.open_end tree_atom end_atom grammar.value trees.by_operator trees.everywhere trees.first trees.second
converse-admits = (refl, refl, refl, refl, refl, refl, refl)

converse_instance : truth_on Rust days filter ≡ truth_on Rust days filter'
converse_instance = turned_truth Rust days turned

-- No time filter: TAfter(NOT a, b) is written `NOT a > b`, which reads as NOT (a > b); turned it is `b < NOT a`, which is refused (12).
-- Over the tree its truth would be unknown.
abbrev settings : Settings
settings = record { precision = 7; ci = bytes "NC"; ai = bytes "NA"; cai = bytes "NCA" }

abbrev reads : List Column → Tree → Reading
reads cs t = answer (verdict cs (parse (gpkg.text Rust settings t)))

abbrev negated-end : Tree
negated-end = dyadic TAfter (monadic Neg a) b

no-filter :
    (time_filter negated-end ≡ false) × (reads days negated-end ≡ says_true) × (reads days (dyadic TBefore b (monadic Neg a)) ≡ Err BadText)
    × (truth_on Rust days negated-end ≡ Unknown)
unfolding time_filter is_operand op.is_temporal op.is_nullable op.is_spatial op.is_array some truth_on temporal_truth cond_truth translators.translate translators.t_after translators.t_before trees.is_interval trees.is_id trees.is_literal trees.is_literal_or_id trees.start_of trees.stop_of trees.ends_of gpkg.text gpkg.monadic_text gpkg.dyadic_text spelling.spelled_as sql.print placed.is_between value_on end_on look order grammar.holds grammar.value grammar.eval grammar.atom_of grammar.not_null grammar.null_test grammar.from_atom grammar.simple grammar.or_e parse lex.run lex.word_kind lex.sign_kind lex.sign_more lex.quote_kind lex.lexeme lex.cut lex.tokens_in lex.tokens lex.kind lex.body lex.rest charset.letter charset.digit charset.name_start charset.name_byte case.upper keyword.reserved_words keywords.keywords keywords.keyword_texts keyword.reserved charset.name utf8.sequences utf8.goes_on utf8.valid quote.doubled quote.undoubled quote.closing quote.quoted_size literal.date literal.low tree_atom end_atom trees.by_operator trees.everywhere is_end trees.first trees.second
no-filter = (refl, refl, refl, refl)

-- A row that lacks a column: both texts are refused (13), and say neither true nor false nor unknown.
lacking-column :
    (holds [] (dyadic TAfter a b) ≡ false) × (reads [] (dyadic TAfter a b) ≡ Err MissingColumn)
    × (reads [] (dyadic TBefore b a) ≡ Err MissingColumn)
unfolding time_filter is_operand op.is_temporal op.is_nullable op.is_spatial op.is_array some truth_on temporal_truth cond_truth translators.translate translators.t_after translators.t_before trees.is_interval trees.is_id trees.is_literal trees.is_literal_or_id trees.start_of trees.stop_of trees.ends_of gpkg.text gpkg.monadic_text gpkg.dyadic_text spelling.spelled_as sql.print placed.is_between value_on end_on look order grammar.holds grammar.value grammar.eval grammar.atom_of grammar.not_null grammar.null_test grammar.from_atom grammar.simple grammar.or_e parse lex.run lex.word_kind lex.sign_kind lex.sign_more lex.quote_kind lex.lexeme lex.cut lex.tokens_in lex.tokens lex.kind lex.body lex.rest charset.letter charset.digit charset.name_start charset.name_byte case.upper keyword.reserved_words keywords.keywords keywords.keyword_texts keyword.reserved charset.name utf8.sequences utf8.goes_on utf8.valid quote.doubled quote.undoubled quote.closing quote.quoted_size literal.date literal.low tree_atom end_atom trees.by_operator trees.everywhere is_end trees.first trees.second holds
lacking-column = (refl, refl, refl)

-- ---- Complement.

complement-admits :
    (is_operand b ≡ true) × (is_operand (interval a c) ≡ true) × (columns_non_null days b ≡ true) × (columns_non_null days (interval a c) ≡ true)
    × (temporal_truth Rust days TIntersects b (interval a c) ≡ True) × (temporal_truth Rust days TDisjoint b (interval a c) ≡ False)
    × (temporal_truth Rust days TIntersects null a ≡ Unknown) × (temporal_truth Rust days TDisjoint null a ≡ Unknown)
unfolding temporal_truth cond_truth translators.translate translators.t_disjoint translators.t_intersects sql.check_id sql.check_ids trees.is_interval trees.is_id trees.start_of trees.stop_of trees.ends_of value_on end_on look order grammar.holds some literal.date literal.low is_operand is_end columns_non_null is_value tree_atom end_atom grammar.value trees.everywhere trees.first trees.second
complement-admits = (refl, refl, refl, refl, refl, refl, refl, refl)

complement_instance : temporal_truth Rust days TDisjoint b (interval a c) ≡ not3 (temporal_truth Rust days TIntersects b (interval a c))
unfolding columns_non_null is_value look literal.date value_on end_on tree_atom end_atom grammar.value trees.everywhere trees.is_id
complement_instance = disjoint_intersects Rust days b (interval a c) refl refl

-- A NULL column: on sheet N's row TDisjoint(a, [b, c]) is unknown and TIntersects is false.
null-column :
    (columns_non_null sheet_n (interval b c) ≡ false) × (temporal_truth Rust sheet_n TDisjoint a (interval b c) ≡ Unknown)
    × (temporal_truth Rust sheet_n TIntersects a (interval b c) ≡ False)
unfolding temporal_truth cond_truth translators.translate translators.t_disjoint translators.t_intersects sql.check_id sql.check_ids trees.is_interval trees.is_id trees.start_of trees.stop_of trees.ends_of value_on end_on look order grammar.holds some literal.date literal.low columns_non_null is_value tree_atom end_atom grammar.value trees.everywhere trees.first trees.second
null-column = (refl, refl, refl)

-- A column that the row lacks: both are missing (13).
lacking : (columns_non_null [] a ≡ false) × (temporal_truth Rust [] TDisjoint a b ≡ Missing) × (temporal_truth Rust [] TIntersects a b ≡ Missing)
unfolding temporal_truth cond_truth translators.translate translators.t_disjoint translators.t_intersects sql.check_id sql.check_ids trees.is_interval trees.is_id trees.start_of trees.stop_of trees.ends_of value_on end_on look order grammar.holds some literal.date literal.low columns_non_null is_value tree_atom end_atom grammar.value trees.everywhere trees.first trees.second
lacking = (refl, refl, refl)

-- ---- Exactly one of thirteen.

one-admits :
    (proper Rust days a c ≡ true) × (proper Rust days b d ≡ true) × (temporal_truth Rust days TOverlaps (interval a c) (interval b d) ≡ True)
    × (temporal_truth Rust days TMeets (interval a c) (interval b d) ≡ False)
unfolding temporal_truth cond_truth translators.translate translators.t_overlaps translators.t_meets sql.check_id sql.check_ids trees.is_interval trees.is_id trees.start_of trees.stop_of trees.ends_of value_on end_on look order grammar.holds some literal.date literal.low lies_below below tree_atom end_atom grammar.value trees.first trees.second
one-admits = (refl, refl, refl, refl)

one_instance : ExactlyOne True False (λ o. temporal_truth Rust days o (interval a c) (interval b d))
unfolding value_on end_on look lies_below below order literal.date literal.low tree_atom end_atom grammar.value
one_instance = exactly_one Rust days a c b d refl refl

-- An interval whose start is not below its end: [a, a] equals itself and meets itself.
improper :
    (proper Rust days a a ≡ false) × (temporal_truth Rust days TEquals (interval a a) (interval a a) ≡ True)
    × (temporal_truth Rust days TMeets (interval a a) (interval a a) ≡ True)
unfolding temporal_truth cond_truth translators.translate translators.t_equals translators.t_meets sql.check_id sql.check_ids trees.is_interval trees.is_id trees.start_of trees.stop_of trees.ends_of value_on end_on look order grammar.holds some literal.date literal.low lies_below below tree_atom end_atom grammar.value trees.first trees.second
improper = (refl, refl, refl)

-- `..` as an end lies below its start in the first call: [a, ..] is no proper interval either, and both meets [.., a] and is met by it. In the
-- second it lies above, so that [a, ..] and [.., ..] are proper.
open_end_lem :
    (proper Rust days a unbounded ≡ false) × (temporal_truth Rust days TMeets (interval a unbounded) (interval unbounded a) ≡ True)
    × (temporal_truth Rust days TMetBy (interval a unbounded) (interval unbounded a) ≡ True)
    × (proper GeoPackage days a unbounded ≡ true) × (proper GeoPackage days unbounded unbounded ≡ true)
unfolding temporal_truth cond_truth translators.translate translators.t_meets translators.t_met_by sql.check_id sql.check_ids trees.is_interval trees.is_id trees.start_of trees.stop_of trees.ends_of value_on end_on look order grammar.holds some literal.date literal.low lies_below below literal.open_end tree_atom end_atom grammar.value trees.first trees.second
open_end_lem = (refl, refl, refl, refl, refl)

-- A NULL end, written or in a column: whether such an interval equals itself is unknown.
null_end :
    (proper Rust days a null ≡ false) × (temporal_truth Rust days TEquals (interval a null) (interval a null) ≡ Unknown)
    × (proper Rust sheet_n b d ≡ false) × (temporal_truth Rust sheet_n TEquals (interval b d) (interval b d) ≡ Unknown)
unfolding temporal_truth cond_truth translators.translate translators.t_equals sql.check_id sql.check_ids trees.is_interval trees.is_id trees.start_of trees.stop_of trees.ends_of value_on end_on look order grammar.holds some literal.date literal.low lies_below below tree_atom end_atom grammar.value trees.first trees.second
null_end = (refl, refl, refl, refl)

-- ---- Agreement with OGC 21-065r2.

abbrev first_week : Tree
first_week = interval unbounded (date 2024 1 7)

good : (n : List ℕ) → charset.name n ≡ true → Good (id n) 1
unfolding Good
good n e = (omega arith, e)

good_instants : Good (interval b c) 2
unfolding Good charset.name charset.name_start charset.name_byte charset.letter charset.digit case.upper keyword.reserved keyword.reserved_words keywords.keywords keywords.keyword_texts some
good_instants = (omega arith, good (bytes "b") refl, good (bytes "c") refl)

good_week : Good first_week 2
unfolding Good valid_date days_in leap some
good_week = (omega arith, omega arith, (omega arith, refl))

ogc-admits :
    (instants ten days ≡ true) × (operands TDuring (interval b c) first_week ≡ true) × (ogc_operand ten (interval b c) ≡ true)
    × (ogc_operand ten first_week ≡ true) × (temporal_truth Rust days TDuring (interval b c) first_week ≡ True)
    × (ogc_on ten days TDuring (interval b c) first_week ≡ true) × (instants nineteen (row_of (second 1) (second 2) (second 3) (second 4)) ≡ true)
unfolding temporal_truth cond_truth translators.translate translators.t_during sql.check_id sql.check_ids trees.is_interval trees.is_id trees.start_of trees.stop_of trees.ends_of value_on end_on look order grammar.holds literal.date literal.low literal.timestamp literal.after_seconds literal.clock literal.open_end instants is_instant begins_date goes_on_time valid_date valid_time days_in leap charset.digit operands op.is_temporal op.is_instant_or_interval some ogc_operand is_start is_stop is_point ogc_on ogc earlier below moment_on fields tree_atom end_atom grammar.value is_end trees.first trees.second
ogc-admits = (refl, refl, refl, refl, refl, refl, refl)

ogc_instance : temporal_truth Rust days TDuring (interval b c) first_week ≡ truth_of (ogc_on ten days TDuring (interval b c) first_week)
unfolding op.is_temporal op.is_instant_or_interval some operands trees.is_interval instants is_instant begins_date valid_date days_in leap charset.digit holds look ogc_operand is_start is_stop is_point literal.date literal.low value_on end_on tree_atom end_atom grammar.value trees.everywhere trees.is_id trees.start_of trees.stop_of is_end trees.first trees.second
ogc_instance = ogc_agrees ten days TDuring (interval b c) first_week 2 2 refl refl good_instants good_week refl refl refl refl refl

-- A NULL literal, or a column that is NULL: unknown, where a predicate holds or does not.
ogc-null :
    (ogc_operand ten null ≡ false) × (temporal_truth Rust days TEquals a null ≡ Unknown) × (instants ten sheet_n ≡ false) × (temporal_truth Rust sheet_n TEquals a b ≡ Unknown)
unfolding temporal_truth cond_truth translators.translate translators.t_equals sql.check_id sql.check_ids trees.is_interval trees.is_id trees.start_of trees.stop_of trees.ends_of value_on end_on look order grammar.holds literal.date literal.low instants is_instant begins_date valid_date days_in leap charset.digit some ogc_operand tree_atom end_atom grammar.value is_end trees.first trees.second is_start is_stop is_point
ogc-null = (refl, refl, refl, refl)

-- Mixed widths: a date lies below its own midnight, as a shorter prefix comes first.
ogc-mixed :
    (ogc_operand ten (timestamp 2024 1 1 0 0 0) ≡ false) × (ogc_operand nineteen (date 2024 1 1) ≡ false)
    × (temporal_truth Rust [] TBefore (date 2024 1 1) (timestamp 2024 1 1 0 0 0) ≡ True) × (temporal_truth Rust [] TEquals (date 2024 1 1) (timestamp 2024 1 1 0 0 0) ≡ False)
unfolding temporal_truth cond_truth translators.translate translators.t_before translators.t_equals sql.check_id sql.check_ids trees.is_interval trees.is_id trees.start_of trees.stop_of trees.ends_of value_on end_on look order grammar.holds some literal.date literal.low literal.timestamp literal.after_seconds literal.clock ogc_operand tree_atom end_atom grammar.value is_end trees.first trees.second is_start is_stop is_point
ogc-mixed = (refl, refl, refl, refl)

-- A row of another width: two seconds of one day are ordered, their days are not.
abbrev seconds : List Column
seconds = row_of (second 1) (second 2) (second 3) (second 4)

ogc_width : (instants ten seconds ≡ false) × (temporal_truth Rust seconds TBefore a b ≡ True) × (ogc_on ten seconds TBefore a b ≡ false)
unfolding temporal_truth cond_truth translators.translate translators.t_before sql.check_id sql.check_ids trees.is_interval trees.is_id trees.start_of trees.stop_of trees.ends_of value_on end_on look order grammar.holds literal.date literal.low literal.timestamp literal.after_seconds literal.clock instants is_instant ogc_on ogc earlier below moment_on fields some tree_atom end_atom grammar.value trees.first trees.second
ogc_width = (refl, refl, refl)

-- A value as GeoPackage stores it, in each call. In the first the text of its own instant sorts below it, so that it reads as after itself; in the
-- second the two are equal, and half a second later is later. A date, also of that day, lies below its midnight.
abbrev timestamps : List Column
timestamps = row_of (val (bytes "2024-01-01T00:00:00.000Z")) (val (bytes "2024-01-01T00:00:00.500Z")) (val (bytes "2024-01-01T00:00:01.000Z")) (val (bytes "2024-01-01T00:00:01.999Z"))

abbrev midnight : Tree
midnight = timestamp 2024 1 1 0 0 0

ogc-milliseconds :
    (instants twenty_four timestamps ≡ true) × (ogc_operand twenty_four midnight ≡ true) × (ogc_operand twenty_four (date 2024 1 1) ≡ false)
    × (ogc_on twenty_four timestamps TEquals a midnight ≡ true) × (temporal_truth GeoPackage timestamps TEquals a midnight ≡ True)
    × (temporal_truth Rust timestamps TEquals a midnight ≡ False) × (temporal_truth Rust timestamps TAfter a midnight ≡ True)
    × (ogc_on twenty_four timestamps TAfter b midnight ≡ true) × (temporal_truth GeoPackage timestamps TAfter b midnight ≡ True)
    × (temporal_truth GeoPackage timestamps TBefore (date 2024 1 1) a ≡ True)
unfolding temporal_truth cond_truth translators.translate translators.t_before translators.t_equals sql.check_id sql.check_ids trees.is_interval trees.is_id trees.start_of trees.stop_of trees.ends_of value_on end_on look order grammar.holds some literal.date literal.low literal.timestamp literal.after_seconds literal.clock ogc_operand tree_atom end_atom grammar.value is_end trees.first trees.second is_start is_stop is_point instants is_instant ogc_on ogc earlier below moment_on fields charset.digit goes_on_time goes_on_milliseconds leap translators.t_after begins_date valid_date days_in valid_time same_moment
ogc-milliseconds = (refl, refl, refl, refl, refl, refl, refl, refl, refl, refl)

-- `..` as an end. In the first call it is written as a start: [a, ..] reads as before b, though an open end lies above every instant. In the second
-- it lies above b: [a, ..] is not before b and intersects it; it ends where [.., ..] does and begins later, and does not meet it. `..` as a whole
-- operand stays outside: in either call every instant is after it.
ogc-open-end :
    (ogc_operand ten (interval a unbounded) ≡ false) × (temporal_truth Rust days TBefore (interval a unbounded) b ≡ True)
    × (ogc_operand twenty_four (interval a unbounded) ≡ true) × (temporal_truth GeoPackage timestamps TBefore (interval a unbounded) b ≡ False)
    × (temporal_truth GeoPackage timestamps TIntersects (interval a unbounded) b ≡ True) × (ogc_on twenty_four timestamps TIntersects (interval a unbounded) b ≡ true)
    × (temporal_truth GeoPackage timestamps TFinishes (interval a unbounded) (interval unbounded unbounded) ≡ True)
    × (ogc_on twenty_four timestamps TFinishes (interval a unbounded) (interval unbounded unbounded) ≡ true)
    × (temporal_truth GeoPackage timestamps TMeets (interval a unbounded) (interval unbounded unbounded) ≡ False)
    × (ogc_on twenty_four timestamps TMeets (interval a unbounded) (interval unbounded unbounded) ≡ false)
    × (ogc_operand twenty_four unbounded ≡ false) × (temporal_truth Rust days TAfter a unbounded ≡ True) × (temporal_truth GeoPackage timestamps TAfter a unbounded ≡ True)
unfolding temporal_truth cond_truth translators.translate translators.t_before translators.t_after translators.t_intersects translators.t_finishes translators.t_meets sql.check_id sql.check_ids trees.is_interval trees.is_id trees.start_of trees.stop_of trees.ends_of value_on end_on look order grammar.holds some literal.date literal.low literal.open_end ogc_operand is_start is_stop is_point tree_atom end_atom grammar.value is_end trees.first trees.second ogc_on ogc earlier same_moment below moment_on fields
ogc-open-end = (refl, refl, refl, refl, refl, refl, refl, refl, refl, refl, refl, refl, refl)

-- A row of 19-byte values in the second call: a lies at the second that is written, and reads as before it.
ogc-seconds :
    (instants twenty_four seconds ≡ false) × (temporal_truth GeoPackage seconds TBefore a (timestamp 2024 1 1 0 0 1) ≡ True)
    × (temporal_truth Rust seconds TEquals a (timestamp 2024 1 1 0 0 1) ≡ True)
unfolding temporal_truth cond_truth translators.translate translators.t_before translators.t_equals sql.check_id sql.check_ids trees.is_interval trees.is_id trees.start_of trees.stop_of trees.ends_of value_on end_on look order grammar.holds some literal.date literal.low literal.timestamp literal.after_seconds literal.clock tree_atom end_atom grammar.value trees.first trees.second instants is_instant
ogc-seconds = (refl, refl, refl)

-- A value that is no date, `2024-01-0:` beside `2024-01-10`: bytes tell them apart, digits do not.
abbrev wrong : List Column
wrong = row_of (val (bytes "2024-01-0:")) (day 10) (day 3) (day 4)

ogc_invalid : (instants ten wrong ≡ false) × (temporal_truth Rust wrong TBefore a b ≡ True) × (ogc_on ten wrong TBefore a b ≡ false)
unfolding temporal_truth cond_truth translators.translate translators.t_before sql.check_id sql.check_ids trees.is_interval trees.is_id trees.start_of trees.stop_of trees.ends_of value_on end_on look order grammar.holds literal.date literal.low instants is_instant begins_date charset.digit ogc_on ogc earlier below moment_on fields some tree_atom end_atom grammar.value trees.first trees.second
ogc_invalid = (refl, refl, refl)

-- A written date that is none, day 100 (refusal 6): two of its digits are written.
ogc-field :
    (valid_date 2024 1 100 ≡ false) × (temporal_truth Rust [] TBefore (date 2024 1 100) (date 2024 1 1) ≡ True)
    × (ogc_on ten [] TBefore (date 2024 1 100) (date 2024 1 1) ≡ false)
unfolding temporal_truth cond_truth translators.translate translators.t_before sql.check_id sql.check_ids trees.is_interval trees.is_id trees.start_of trees.stop_of trees.ends_of value_on end_on look order grammar.holds literal.date literal.low valid_date days_in leap ogc_on ogc earlier below moment_on fields some tree_atom end_atom grammar.value trees.first trees.second
ogc-field = (refl, refl, refl)

-- An operator that wants two intervals, between instants (refusal 7): its ends e1 and e3 are Null.
ogc-instants :
    (operands TContains a b ≡ false) × (temporal_truth Rust days TContains a b ≡ Unknown)
unfolding temporal_truth cond_truth translators.translate translators.t_contains sql.check_id sql.check_ids trees.is_interval trees.is_id trees.start_of trees.stop_of trees.ends_of value_on end_on look order grammar.holds literal.date literal.low operands op.is_temporal op.is_instant_or_interval some tree_atom end_atom grammar.value trees.first trees.second
ogc-instants = (refl, refl)
