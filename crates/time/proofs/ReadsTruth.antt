-- Demand 2: the truth read from a time filter's text on a row holding its columns equals the three-valued definition over the tree.
-- The text reads back as the filter's condition (FilterReadsLaws.antt), within 34 of the 64 brackets, and no column of it is missing.
use Rattle.std.specs.Prelude.{ℕ, zero, suc, ◌≤◌, ◌≡◌, refl, List, [], ◌∷◌, Bool, true, false, eqb, length, get_or}
use Rattle.std.proofs.Common.{sym, ap, ◌∙◌, arith, le-ltb}
use Rattle.std.proofs.lemmas.Bool.{false≢true}
use Rattle.prelude.specs.Choice.{pick}
use Rattle.prelude.specs.ChoiceLaws.{both_true}
use Rattle.op.specs.Op.{op_number, one_of}
use Rattle.op.specs.declared.Op.TheVariants.{IsNull}
use Rattle.tree.specs.Kinds.{BOOL}
use Rattle.tree.specs.Tree.{Tree, Settings, kind_of}
use Rattle.order.specs.Order.{order}
use Rattle.tree.specs.Limits.{depth_limit, length_limit, planner}
use Rattle.tree.specs.Parse.{got, also}
use Rattle.tree.specs.ParseLaws.{parse_good}
use Rattle.tree.specs.GoodWords.{Good}
use Rattle.tree.specs.Placed.{placed}
use Rattle.tree.specs.Tests.{fields_of, everywhere, is_id, is_interval, start_of, stop_of, ends_of, columns_of}
use Rattle.tree.specs.TestsLaws.{everywhere_here, everywhere_start, everywhere_stop, by_operator_lem}
use Rattle.tree.specs.AcceptedLaws.{accepted-is}
use Rattle.tree.specs.LimitLaws.{accepted-more}
use Rattle.literal.specs.declared.Writing.{Writing}
use Rattle.literal.specs.Literal.{start_slot, stop_slot}
use Rattle.sql.specs.Condition as sql
use Rattle.sql.specs.Translators.{translate}
use Rattle.text.specs.Text as gpkg
use Rattle.text.specs.Lowered.{fitted, lowering_within}
use Rattle.text.specs.LoweredLaws.{fitted_got}
use Rattle.row.specs.Row.{Column, Found, absent, has, val}
use Rattle.row.specs.Row as row
use Rattle.truth.specs.declared.Truth.{Truth}
use Rattle.truth.specs.declared.Truth.TheVariants.{True, False, Unknown, Missing}
use Rattle.truth.specs.Grammar.{value, not3, and3, or3, truth_of, compared, nullity}
use Rattle.truth.specs.Grammar as grammar
use Rattle.lexer.specs.declared.Kind.{Kind}
use Rattle.lexer.specs.Lex.{kind}
use Rattle.truth.specs.Reading.{text_limit, row_limit, answered, decided, reading_of}
use Rattle.truth.specs.Reading as reading
use Rattle.time.specs.Filter.{is_neg, is_and, is_or, compares, time_filter}
use Rattle.time.specs.FilterTruth.{tree_atom, end_atom, value_on, end_on, found, at_column, holds, sign_of, cond_truth, end_values, temporal_truth, comparison, constant, monadic_truth, dyadic_truth, truth_on}
use Rattle.time.specs.Accepted.{Lowers, IsRow}
use Rattle.time.specs.TruthLaws.{end_on_lem, value_found}
use Rattle.time.specs.ReadBackLaws.{Prints, parses_back}
use Rattle.time.proofs.FilterReadsLaws.{filter_ast, filter-eval, filter-shown, deeper}

-- What an accepted filter is; the planner, too, accepts what another caller does.
pub record Parts (writing : Writing) (t : Tree) (x : List ℕ) : Type 0 where
  pub with : Settings
  pub text_is : x ≡ gpkg.text writing with t
  pub short : length x ≤ length_limit
  pub good : Good t depth_limit
  pub in_place_lem : placed t ≡ true

pub parts : {writing : Writing} {t : Tree} {x : List ℕ} → Lowers writing t x → Parts writing t x
unfolding lowering_within also
parts {writing} {t} {x} L =
    let r = accepted-more L.limits planner L.settings L.tree (L.holds, t) L.within L.read in
    let a = accepted-is planner L.settings L.tree L.holds t r in
    let e : fitted L.limits.text L.room (gpkg.text writing L.holds t) ≡ got x = rw L.read at L.lowered in
    let f = fitted_got L.limits.text L.room (gpkg.text writing L.holds t) x e in
    record {
      with = L.holds;
      text_is = sym f.is;
      short = omega (arith, ap length f.is, f.short, L.within.text);
      good = parse_good depth_limit L.tree t L.bytes a.2;
      in_place_lem = a.3;
    }

-- No name is missing.

abbrev pub known : Truth → Bool
known True = true
known False = true
known Unknown = true
known Missing = false

known_not : (a : Truth) → known a ≡ true → known (not3 a) ≡ true
known_not True e = refl
known_not False e = refl
known_not Unknown e = refl
known_not Missing e = e

known_and : (a b : Truth) → known a ≡ true → known b ≡ true → known (and3 a b) ≡ true
known_and True b e f = f
known_and False True e f = refl
known_and False False e f = refl
known_and False Unknown e f = refl
known_and False Missing e f = f
known_and Unknown True e f = refl
known_and Unknown False e f = refl
known_and Unknown Unknown e f = refl
known_and Unknown Missing e f = f
known_and Missing b e f = e

known_or : (a b : Truth) → known a ≡ true → known b ≡ true → known (or3 a b) ≡ true
known_or False b e f = f
known_or True True e f = refl
known_or True False e f = refl
known_or True Unknown e f = refl
known_or True Missing e f = f
known_or Unknown True e f = refl
known_or Unknown False e f = refl
known_or Unknown Unknown e f = refl
known_or Unknown Missing e f = f
known_or Missing b e f = e

known_bool : (b : Bool) → known (truth_of b) ≡ true
known_bool true = refl
known_bool false = refl

known-compared : (o : Kind) (x y : Found) → found x ≡ true → found y ≡ true → known (compared o x y) ≡ true
known-compared o absent y e f = absurd (false≢true e)
known-compared o (has x) absent e f = absurd (false≢true f)
known-compared o (has row.null) (has y) e f = refl
known-compared o (has (val x)) (has row.null) e f = refl
known-compared o (has (val x)) (has (val y)) e f = known_bool (grammar.holds o (order x y))

known_null : (x : Found) → found x ≡ true → known (nullity x) ≡ true
known_null absent e = absurd (false≢true e)
known_null (has row.null) e = refl
known_null (has (val x)) e = refl

known_cond : (v : ℕ → Found) → ((j : ℕ) → found (v j) ≡ true) → (c : sql.Cond) → known (cond_truth v c) ≡ true
unfolding cond_truth
known_cond v h (sql.test i s j) = known-compared (sign_of s) (v i) (v j) (h i) (h j)
known_cond v h (sql.is_not_null i) = known_not (nullity (v i)) (known_null (v i) (h i))
known_cond v h (sql.not_null i) = known_not (nullity (v i)) (known_null (v i) (h i))
known_cond v h (sql.and c d) = known_and (cond_truth v c) (cond_truth v d) (known_cond v h c) (known_cond v h d)
known_cond v h (sql.or c d) = known_or (cond_truth v c) (cond_truth v d) (known_cond v h c) (known_cond v h d)
known_cond v h (sql.not c) = known_not (cond_truth v c) (known_cond v h c)
known_cond v h (sql.brackets c) = known_cond v h c

-- a value on a row that holds the tree's columns, and those of its ends
held_found : (writing : Writing) (cs : List Column) (t : Tree) → holds cs t ≡ true → found (value_on writing cs t) ≡ true
unfolding holds
held_found writing cs t e = sym (value_found writing cs t) ∙ everywhere_here (at_column found cs) t e

start_held : (cs : List Column) (t : Tree) → holds cs t ≡ true → holds cs (start_of t) ≡ true
unfolding holds is_id
start_held cs = everywhere_start (at_column found cs) refl

stop_held : (cs : List Column) (t : Tree) → holds cs t ≡ true → holds cs (stop_of t) ≡ true
unfolding holds is_id
stop_held cs = everywhere_stop (at_column found cs) refl

ends_found : (writing : Writing) (cs : List Column) (t u : Tree) → holds cs t ≡ true → holds cs u ≡ true → (j : ℕ) → found (end_values writing cs t u j) ≡ true
unfolding ends_of end_on end_atom value_on tree_atom value
ends_found writing cs t u e f zero = end_on_lem found writing cs (start_slot (is_interval t)) (start_of t) refl (held_found writing cs (start_of t) (start_held cs t e))
ends_found writing cs t u e f (suc zero) = end_on_lem found writing cs (stop_slot (is_interval t)) (stop_of t) refl (held_found writing cs (stop_of t) (stop_held cs t e))
ends_found writing cs t u e f (suc (suc zero)) = end_on_lem found writing cs (start_slot (is_interval u)) (start_of u) refl (held_found writing cs (start_of u) (start_held cs u f))
ends_found writing cs t u e f (suc (suc (suc zero))) = end_on_lem found writing cs (stop_slot (is_interval u)) (stop_of u) refl (held_found writing cs (stop_of u) (stop_held cs u f))
ends_found writing cs t u e f (suc (suc (suc (suc j)))) = refl

pick_known : (b : Bool) (p q : Truth) → known p ≡ true → known q ≡ true → known (pick b p q) ≡ true
pick_known true p q e f = e
pick_known false p q e f = f

known_constant : (t : Tree) → known (constant t) ≡ true
known_constant t = pick_known (eqb (kind_of t) BOOL) _ _ (known_bool (eqb (get_or (fields_of t) 0 0) 1)) refl

pub truth_known : (writing : Writing) (cs : List Column) (t : Tree) → holds cs t ≡ true → known (truth_on writing cs t) ≡ true
unfolding truth_on temporal_truth holds everywhere is_id
truth_known writing cs =
    by_operator_lem constant (monadic_truth writing cs) (dyadic_truth writing cs) (λ t a. holds cs t ≡ true → known a ≡ true) (λ t e. known_constant t)
    (λ o t a f e.
    pick_known (is_neg o) _ _ (known_not a (f e))
    (pick_known (one_of o (IsNull ∷ [])) _ _ (known_null (value_on writing cs t) (held_found writing cs t e)) (known_not (nullity (value_on writing cs t)) (known_null (value_on writing cs t) (held_found writing cs t e)))))
    (λ o t u a b f g e.
    let h = both_true (holds cs t) (holds cs u) e in
    pick_known (is_and o) _ _ (known_and a b (f h.0) (g h.1))
    (pick_known (is_or o) _ _ (known_or a b (f h.0) (g h.1))
    (pick_known (compares o) _ _ (known-compared (comparison o) (value_on writing cs t) (value_on writing cs u) (held_found writing cs t h.0) (held_found writing cs u h.1))
    (known_cond (end_values writing cs t u) (ends_found writing cs t u h.0 h.1) (translate (op_number o) (is_interval t) (is_interval u) (columns_of t u))))))

-- The theorem.

abbrev more : ℕ → ℕ → ℕ
more zero d = d
more (suc n) d = suc (more n d)

up : {l : ℕ} {s : List ℕ} {x : grammar.Ast} (n : ℕ) {d : ℕ} → Prints d l s x → Prints (more n d) l s x
up zero p = p
up (suc n) p = deeper (up n p)

-- on any row
pub reads_as : {writing : Writing} {t : Tree} {x row : List ℕ} {cs : List Column} → Lowers writing t x → time_filter t ≡ true → IsRow row cs → reading_of x row ≡ answered (truth_on writing cs t)
unfolding reading_of decided kind
reads_as {writing} {t} {x} {row} {cs} L f R =
    let p = parts L in
    let q : reading.parse x ≡ grammar.got (filter_ast writing t) [] = parses_back 3 x (filter_ast writing t) (omega arith) (rw p.text_is (up 30 (filter-shown writing p.with depth_limit t f p.good))) in
    rw (le-ltb text_limit (length x) p.short, le-ltb row_limit (length row) R.short, R.reads, q) (ap answered (filter-eval writing cs t))

-- on a row that holds its columns no name is missing, so that the answer is true, false or unknown
pub reads_truth : {writing : Writing} {t : Tree} {x row : List ℕ} {cs : List Column} → Lowers writing t x → time_filter t ≡ true → IsRow row cs → holds cs t ≡ true
    → (reading_of x row ≡ answered (truth_on writing cs t)) × (known (truth_on writing cs t) ≡ true)
reads_truth {writing} {cs = cs} L f R h = (reads_as L f R, truth_known writing cs _ h)
