-- A time filter's text reads back as the filter: its atoms are names, quoted texts and NULL, its operands stand in brackets unless they are
-- literals, and a temporal predicate is the condition of CondLaws.antt. What is read has the truth that FilterTruth.antt gives the tree.
use Rattle.std.specs.Prelude.{ℕ, zero, suc, ◌+◌, ◌-◌, ◌/◌, ◌%◌, ◌<◌, ◌≡◌, List, [], ◌∷◌, ◌++◌, Bool, T, get_or}
use Rattle.std.proofs.Math.Path.{refl}
use Rattle.std.proofs.Common.{sym, ap, ◌∙◌, subst, append-nil, le-leb, ne_eqb}
use Rattle.std.proofs.Math.Bool.{true, false}
use Rattle.std.proofs.lemmas.Bool.{false≢true}
use native.Mathlib.Omega.{arith}
use Rattle.prelude.specs.Choice.{pick, both, either, negated, all, some}
use Rattle.prelude.specs.Bytes.{bytes}
use Rattle.prelude.specs.ChoiceLaws.{both_true, all_true}
use Rattle.charset.specs.Charset.{name}
use Rattle.string.specs.Quote.{doubled}
use Rattle.string.specs.QuoteLaws.{unmarked}
use Rattle.op.specs.declared.Op.{Op}
use Rattle.op.specs.declared.Op.TheVariants.{Neg, And, Or, IsNull, IsNotNull, Eq, Neq, Lt, Gt, Lte, Gte}
use Rattle.op.specs.Op.{op_number, operators, one_of, is_temporal, is_nullable, is_spatial, is_array}
use Rattle.op.specs.OpLaws.{each, every_op}
use Rattle.spelling.specs.Spelling.{spelled_as}
use Rattle.tree.specs.Kinds.{ID, INTERVAL}
use Rattle.tree.specs.Tree.{Tree, Settings, null, bool, id, monadic, dyadic}
use Rattle.tree.specs.Placed.{is_between}
use Rattle.tree.specs.Tests as trees
use Rattle.tree.specs.Tests.{first, second, everywhere, by_operator, is_interval, is_id, is_literal, is_literal_or_id, start_of, stop_of, ends_of, columns_of}
use Rattle.tree.specs.TestsLaws.{OfKind, of_id, of_interval, id_is, interval_is, by-operators}
use Rattle.tree.specs.GoodWords.{Good}
use Rattle.literal.specs.declared.Writing.{Writing}
use Rattle.literal.specs.declared.Writing.TheVariants.{Rust, GeoPackage}
use Rattle.literal.specs.Literal as literal
use Rattle.literal.specs.Literal.{Slot, alone, first_end, second_end, start_slot, stop_slot, low}
use Rattle.sql.specs.Translators.{translate}
use Rattle.text.specs.Text as gpkg
use Rattle.text.specs.Text.{children, bare, monadic_text, dyadic_text, end_text, start_text, stop_text}
use Rattle.row.specs.Row.{Column}
use Rattle.lexer.specs.declared.Kind.{Kind}
use Rattle.truth.specs.declared.Truth.{Truth}
use Rattle.truth.specs.Grammar.{column, text, Ast, cmp, is_null, const, neg, conj, disj, value, eval, not3, nullity}
use Rattle.time.specs.Filter.{comparable, is_end, is_operand, is_neg, is_and, is_or, compares, time_filter}
use Rattle.time.specs.FilterLaws.{EndIs, null_end, open_end_lem, date-end, timestamp-end, column_end, end_is, ComparableIs, comparable_str, comparable-date, comparable-timestamp, comparable_id, comparable-is, FilterIs, null_filter, bool_filter, monadic_filter, dyadic_filter, filter-is}
use Rattle.time.specs.FilterTruth.{tree_atom, end_atom, value_on, end_on, slot_at, end_values, temporal_truth, comparison, constant, monadic_truth, dyadic_truth, truth_on}
use Rattle.time.specs.OperatorLaws.{AllOf, done, ◌also◌, among, fifteen, of_temporal}
use Rattle.time.specs.ReadBackLaws.{Prints, item, lift, bracket, not_bracket, not_word, and_join, or_join}
use Rattle.time.specs.AtomLaws.{AtomText, bare_atom, text_atom, unmarked_atom, null_atom, SignText, sign_lt, sign_gt, sign_le, sign_ge, sign_eq, sign_ne, compare_item, null_item, true_item, false_item, bare-name, is_null_item, is_not_null_item}
use Rattle.time.specs.CondLaws.{cond_ast, cond_eval, Ends, translated}

-- Atoms.

pub atom_value : (writing : Writing) (cs : List Column) (t : Tree) → value cs (tree_atom writing t) ≡ value_on writing cs t
unfolding value_on
atom_value writing cs t = refl

pub end-value : (writing : Writing) (cs : List Column) (slot : Slot) (t : Tree) → value cs (end_atom writing slot t) ≡ end_on writing cs slot t
unfolding end_on
end-value writing cs slot t = refl

-- written instants are made of plain bytes, and none is an apostrophe
all_append : (p : ℕ → Bool) (x y : List ℕ) → all p x ≡ true → all p y ≡ true → all p (x ++ y) ≡ true
all_append p [] y a b = b
all_append p (c ∷ x) y a b = let h = all_true p c x a in rw h.0 (all_append p x y h.1 b)

digit_str : (n : ℕ) → n < 10 → unmarked (48 + n) ≡ true
digit_str n h = rw (le-leb 32 (48 + n) (omega arith), le-leb (48 + n) 126 (omega arith), ne_eqb (48 + n) 39 (λ e. omega arith))

open_str : (writing : Writing) (slot : Slot) → all unmarked (literal.open_end writing slot) ≡ true
unfolding literal.open_end
open_str writing alone = refl
open_str writing first_end = refl
open_str Rust second_end = refl
open_str GeoPackage second_end = refl

low_str : (w n : ℕ) → all unmarked (low w n) ≡ true
unfolding low
low_str zero n = refl
low_str (suc w) n =
    all_append unmarked (low w (n / 10)) ((48 + n % 10) ∷ []) (low_str w (n / 10)) (rw (digit_str (n % 10) (omega arith)) refl)

date_str : (y m d : ℕ) → all unmarked (literal.date y m d) ≡ true
unfolding literal.date
date_str y m d =
    all_append unmarked (low 4 y) (bytes "-" ++ (low 2 m ++ (bytes "-" ++ low 2 d))) (low_str 4 y)
    (all_append unmarked (low 2 m) (bytes "-" ++ low 2 d) (low_str 2 m) (low_str 2 d))

clock_str : (h i s : ℕ) → all unmarked (literal.clock h i s) ≡ true
unfolding literal.clock
clock_str h i s =
    all_append unmarked (low 2 h) (bytes ":" ++ (low 2 i ++ (bytes ":" ++ low 2 s))) (low_str 2 h)
    (all_append unmarked (low 2 i) (bytes ":" ++ low 2 s) (low_str 2 i) (low_str 2 s))

after_seconds_str : (writing : Writing) → all unmarked (literal.after_seconds writing) ≡ true
unfolding literal.after_seconds
after_seconds_str Rust = refl
after_seconds_str GeoPackage = refl

timestamp_str : (writing : Writing) (y m d h i s : ℕ) → all unmarked (literal.timestamp writing y m d h i s) ≡ true
unfolding literal.timestamp
timestamp_str writing y m d h i s =
    all_append unmarked (literal.date y m d) (bytes "T" ++ (literal.clock h i s ++ literal.after_seconds writing)) (date_str y m d)
    (all_append unmarked (literal.clock h i s) (literal.after_seconds writing) (clock_str h i s) (after_seconds_str writing))

-- the text of an end in its slot is that of its atom
pub end_text_lem : (writing : Writing) (g : Settings) (slot : Slot) (t : Tree) (n : ℕ) → is_end t ≡ true → Good t n → AtomText (end_text writing slot t (gpkg.text writing g t)) (end_atom writing slot t)
unfolding gpkg.text end_atom tree_atom Good literal.quoted
end_text_lem writing g slot t n e x = go t (end_is t e) x
  where
    go : (t : Tree) → EndIs t → Good t n → AtomText (end_text writing slot t (gpkg.text writing g t)) (end_atom writing slot t)
    go t null_end x = null_atom
    go t open_end_lem x = unmarked_atom (literal.open_end writing slot) (open_str writing slot)
    go t (date-end y m d) x = unmarked_atom (literal.date y m d) (date_str y m d)
    go t (timestamp-end y m d h i s) x = unmarked_atom (literal.timestamp writing y m d h i s) (timestamp_str writing y m d h i s)
    go t (column_end s) x = bare_atom s x.1

-- and so is the text of what is compared
pub comparable_text : (writing : Writing) (g : Settings) (t : Tree) (n : ℕ) → comparable t ≡ true → Good t n → AtomText (gpkg.text writing g t) (tree_atom writing t)
unfolding gpkg.text tree_atom Good literal.quoted literal.str_text
comparable_text writing g t n e x = go t (comparable-is t e) x
  where
    go : (t : Tree) → ComparableIs t → Good t n → AtomText (gpkg.text writing g t) (tree_atom writing t)
    go t (comparable_str f s e) x =
        let q : literal.str_text g.ci g.ai g.cai f s ≡ bytes "'" ++ (doubled s ++ bytes "'") = rw e (append-nil (bytes "'" ++ (doubled s ++ bytes "'"))) in
        subst (λ (l : List ℕ). AtomText l (text s)) (sym q) (text_atom s x.3)
    go t (comparable-date y m d) x = unmarked_atom (literal.date y m d) (date_str y m d)
    go t (comparable-timestamp y m d h i s) x = unmarked_atom (literal.timestamp writing y m d h i s) (timestamp_str writing y m d h i s)
    go t (comparable_id s) x = bare_atom s x.1

-- Operands: their ends, and the ends' texts.
pub record Operand (writing : Writing) (g : Settings) (t : Tree) : Type 0 where
  pub start_atom : AtomText (start_text writing t (gpkg.text writing g t) (children writing g t)) (end_atom writing (start_slot (is_interval t)) (start_of t))
  pub stop_atom : AtomText (stop_text writing t (children writing g t)) (end_atom writing (stop_slot (is_interval t)) (stop_of t))
  pub start_name : is_id (start_of t) ≡ true → (end_atom writing (start_slot (is_interval t)) (start_of t) ≡ column (start_text writing t (gpkg.text writing g t) (children writing g t))) × (name (start_text writing t (gpkg.text writing g t) (children writing g t)) ≡ true)
  pub stop_name : is_id (stop_of t) ≡ true → (end_atom writing (stop_slot (is_interval t)) (stop_of t) ≡ column (stop_text writing t (children writing g t))) × (name (stop_text writing t (children writing g t)) ≡ true)

-- an end that is a column is a name
end-name : (writing : Writing) (g : Settings) (slot : Slot) (t : Tree) (n : ℕ) → Good t n → is_id t ≡ true → (end_atom writing slot t ≡ column (end_text writing slot t (gpkg.text writing g t))) × (name (end_text writing slot t (gpkg.text writing g t)) ≡ true)
unfolding gpkg.text end_atom tree_atom Good
end-name writing g slot t n x e = go t (id_is t e) x
  where
    go : (t : Tree) → OfKind ID t → Good t n → (end_atom writing slot t ≡ column (end_text writing slot t (gpkg.text writing g t))) × (name (end_text writing slot t (gpkg.text writing g t)) ≡ true)
    go t (of_id s) x = (refl, x.1)

-- an instant: it is its own start, and Null its stop
instant_operand : (writing : Writing) (g : Settings) (t : Tree) (n : ℕ) → is_interval t ≡ false → start_of t ≡ t → stop_of t ≡ null → is_end t ≡ true → Good t n → Operand writing g t
unfolding gpkg.text is_id end_atom tree_atom
instant_operand writing g t n i p q e x =
    record {
      start_atom = rw (i, p) (end_text_lem writing g alone t n e x);
      stop_atom = rw (i, q) null_atom;
      start_name = λ c. rw (i, p) (end-name writing g alone t n x (rw p at c));
      stop_name = λ c. absurd (false≢true (rw q at c));
    }

interval_operand : (writing : Writing) (g : Settings) (t : Tree) (n : ℕ) → OfKind INTERVAL t → is_operand t ≡ true → Good t n → Operand writing g t
unfolding is_operand is_interval start_of stop_of first second children Good
interval_operand writing g t n (of_interval a b) e x =
    let f = both_true (is_end a) (is_end b) e in
    record {
      start_atom = end_text_lem writing g first_end a (n - 1) f.0 x.1;
      stop_atom = end_text_lem writing g second_end b (n - 1) f.1 x.2;
      start_name = end-name writing g first_end a (n - 1) x.1;
      stop_name = end-name writing g second_end b (n - 1) x.2;
    }

pub operand : (writing : Writing) (g : Settings) (t : Tree) (n : ℕ) → is_operand t ≡ true → Good t n → Operand writing g t
unfolding is_operand start_of stop_of
operand writing g t n e x = go (is_interval t) refl e
  where
    go : (b : Bool) → is_interval t ≡ b → pick b (both (is_end (start_of t)) (is_end (stop_of t))) (is_end t) ≡ true → Operand writing g t
    go true i f = interval_operand writing g t n (interval_is t i) e x
    go false i f = instant_operand writing g t n i (ap (λ b. pick b (first (trees.children t)) t) i) (ap (λ b. pick b (second (trees.children t)) null) i) f x

-- the four ends of two operands
pub four_ends : (writing : Writing) (g : Settings) (t u : Tree) → Operand writing g t → Operand writing g u
    → Ends (λ j. get_or (start_text writing t (gpkg.text writing g t) (children writing g t) ∷ stop_text writing t (children writing g t) ∷ start_text writing u (gpkg.text writing g u) (children writing g u) ∷ stop_text writing u (children writing g u) ∷ []) j [])
    (λ j. end_atom writing (slot_at t u j) (get_or (ends_of t u) j null)) (columns_of t u)
unfolding ends_of
four_ends writing g t u A B = record { atoms = λ j h. atoms j h; names = λ j h c. names j h c }
  where
    atoms : (j : ℕ) → j < 4 → AtomText (get_or (start_text writing t (gpkg.text writing g t) (children writing g t) ∷ stop_text writing t (children writing g t) ∷ start_text writing u (gpkg.text writing g u) (children writing g u) ∷ stop_text writing u (children writing g u) ∷ []) j []) (end_atom writing (slot_at t u j) (get_or (start_of t ∷ stop_of t ∷ start_of u ∷ stop_of u ∷ []) j null))
    atoms zero h = A.start_atom
    atoms (suc zero) h = A.stop_atom
    atoms (suc (suc zero)) h = B.start_atom
    atoms (suc (suc (suc zero))) h = B.stop_atom
    atoms (suc (suc (suc (suc j)))) h = absurd (omega arith)

    names : (j : ℕ) → j < 4 → is_id (get_or (start_of t ∷ stop_of t ∷ start_of u ∷ stop_of u ∷ []) j null) ≡ true
        → (end_atom writing (slot_at t u j) (get_or (start_of t ∷ stop_of t ∷ start_of u ∷ stop_of u ∷ []) j null) ≡ column (get_or (start_text writing t (gpkg.text writing g t) (children writing g t) ∷ stop_text writing t (children writing g t) ∷ start_text writing u (gpkg.text writing g u) (children writing g u) ∷ stop_text writing u (children writing g u) ∷ []) j []))
        × (name (get_or (start_text writing t (gpkg.text writing g t) (children writing g t) ∷ stop_text writing t (children writing g t) ∷ start_text writing u (gpkg.text writing g u) (children writing g u) ∷ stop_text writing u (children writing g u) ∷ []) j []) ≡ true)
    names zero h c = A.start_name c
    names (suc zero) h c = A.stop_name c
    names (suc (suc zero)) h c = B.start_name c
    names (suc (suc (suc zero))) h c = B.stop_name c
    names (suc (suc (suc (suc j)))) h c = absurd (omega arith)

-- Filters.

-- the condition that a filter is read as
abbrev monadic_ast : Writing → Op → Tree → Ast → Ast
monadic_ast writing o t a =
    pick (is_neg o) (neg a)
    (pick (one_of o (IsNull ∷ [])) (is_null (tree_atom writing t)) (neg (is_null (tree_atom writing t))))

abbrev dyadic_ast : Writing → Op → Tree → Tree → Ast → Ast → Ast
dyadic_ast writing o t u a b =
    pick (is_and o) (conj a b)
    (pick (is_or o) (disj a b)
    (pick (compares o) (cmp (comparison o) (tree_atom writing t) (tree_atom writing u))
    (cond_ast (λ j. end_atom writing (slot_at t u j) (get_or (ends_of t u) j null)) (translate (op_number o) (is_interval t) (is_interval u) (columns_of t u)))))

unfoldable pub filter_ast : Writing → Tree → Ast
filter_ast writing = by_operator (λ t. const (constant t)) (monadic_ast writing) (dyadic_ast writing)

-- it has the filter's truth
pick-eval : (cs : List Column) (b : Bool) (x y : Ast) (p q : Truth) → eval cs x ≡ p → eval cs y ≡ q → eval cs (pick b x y) ≡ pick b p q
pick-eval cs true x y p q e f = e
pick-eval cs false x y p q e f = f

pub filter-eval : (writing : Writing) (cs : List Column) (t : Tree) → eval cs (filter_ast writing t) ≡ truth_on writing cs t
unfolding filter_ast truth_on eval temporal_truth
filter-eval writing cs =
    by-operators (λ t. const (constant t)) (monadic_ast writing) (dyadic_ast writing) constant (monadic_truth writing cs) (dyadic_truth writing cs) (λ t x a. eval cs x ≡ a) (λ t. refl)
    (λ o t x a e.
    pick-eval cs (is_neg o) _ _ _ _ (ap not3 e)
    (pick-eval cs (one_of o (IsNull ∷ [])) _ _ _ _ (ap nullity (atom_value writing cs t)) (ap (λ f. not3 (nullity f)) (atom_value writing cs t))))
    (λ o t u x y a b e f.
    pick-eval cs (is_and o) _ _ _ _ (rw (e, f) refl)
    (pick-eval cs (is_or o) _ _ _ _ (rw (e, f) refl)
    (pick-eval cs (compares o) _ _ _ _ (rw (atom_value writing cs t, atom_value writing cs u) refl)
    (cond_eval cs (λ j. end_atom writing (slot_at t u j) (get_or (ends_of t u) j null)) (end_values writing cs t u) (λ j. end-value writing cs (slot_at t u j) (get_or (ends_of t u) j null))
    (translate (op_number o) (is_interval t) (is_interval u) (columns_of t u))))))

-- Brackets that a filter of n levels needs: one a level, and two in a temporal predicate.
abbrev pub room : ℕ → ℕ
room zero = 2
room (suc n) = suc (room n)

pub deeper : {d l : ℕ} {s : List ℕ} {x : Ast} → Prints d l s x → Prints (suc d) l s x
deeper (item i) = item i
deeper (lift h p) = lift h (deeper p)
deeper (bracket h p) = bracket h (deeper p)
deeper (not_bracket h p) = not_bracket h (deeper p)
deeper (not_word h p) = not_word h (deeper p)
deeper (and_join h i p q) = and_join h i (deeper p) (deeper q)
deeper (or_join h i p q) = or_join h i (deeper p) (deeper q)

in_room : {l : ℕ} {s : List ℕ} {x : Ast} (n : ℕ) → Prints 2 l s x → Prints (room n) l s x
in_room zero p = p
in_room (suc n) p = deeper (in_room n p)

-- an operand of And, Or, Neg: in brackets unless it is a literal, which is TRUE or FALSE
bool_prints : (d : ℕ) (b : Bool) → Prints d 0 (literal.bool_text b) (const (constant (bool b)))
bool_prints d true = item true_item
bool_prints d false = item false_item

operand_prints : (writing : Writing) (g : Settings) (t : Tree) (n : ℕ) → time_filter t ≡ true → Prints (room n) 3 (gpkg.text writing g t) (filter_ast writing t)
    → Prints (room (suc n)) 0 (bare (is_literal_or_id t) (gpkg.text writing g t)) (filter_ast writing t)
unfolding is_literal_or_id is_literal everywhere is_id gpkg.text filter_ast by_operator
operand_prints writing g t n e p = go t (filter-is t e) p
  where
    go : (t : Tree) → FilterIs t → Prints (room n) 3 (gpkg.text writing g t) (filter_ast writing t) → Prints (room (suc n)) 0 (bare (is_literal_or_id t) (gpkg.text writing g t)) (filter_ast writing t)
    go t null_filter p = bracket {l = 3} (omega arith) p
    go t (bool_filter b) p = bool_prints (room (suc n)) b
    go t (monadic_filter o u) p = bracket {l = 3} (omega arith) p
    go t (dyadic_filter o u v) p = bracket {l = 3} (omega arith) p

-- a test of operators that implies another, computed over all of them
implies : (f g : Op → Bool) → T (every_op (λ o. either (negated (f o)) (g o)) operators) → (o : Op) → f o ≡ true → g o ≡ true
implies f g t o e = go (g o) refl
  where
    go : (b : Bool) → g o ≡ b → g o ≡ true
    go true q = q
    go false q = absurd (subst T (ap (λ b. either (negated b) (g o)) e ∙ q) (each (λ p. either (negated (f p)) (g p)) t o))

abbrev joins : Op → Bool
joins o = either (is_and o) (is_or o)

-- what is compared is a literal or a name
comparable-bare : (t : Tree) → comparable t ≡ true → is_literal_or_id t ≡ true
unfolding is_literal_or_id is_literal everywhere is_id
comparable-bare t e = go t (comparable-is t e)
  where
    go : (t : Tree) → ComparableIs t → is_literal_or_id t ≡ true
    go t (comparable_str f s e) = refl
    go t (comparable-date y m d) = refl
    go t (comparable-timestamp y m d h i s) = refl
    go t (comparable_id s) = refl

module _ (writing : Writing) (g : Settings) where
  -- what is to be shown of a filter that may be n levels deep
  abbrev pub Shown : ℕ → Tree → Type 0
  Shown n t = Prints (room n) 3 (gpkg.text writing g t) (filter_ast writing t)

  neg_shown : (n : ℕ) (t : Tree) → time_filter t ≡ true → Shown n t → Shown (suc n) (monadic Neg t)
  unfolding gpkg.text filter_ast by_operator monadic_text is_nullable some spelled_as
  neg_shown n t e p = lift {l = 1} {m = 3} (omega arith) (not_word {l = 0} (omega arith) (operand_prints writing g t n e p))

  null_shown : (n : ℕ) (s : List ℕ) → name s ≡ true → Shown n (monadic IsNull (id s))
  unfolding gpkg.text filter_ast by_operator monadic_text is_nullable some spelled_as is_literal_or_id is_literal everywhere is_id tree_atom
  null_shown n s e = lift {l = 0} {m = 3} (omega arith) (item (is_null_item (bare-name s e)))

  not_null_shown : (n : ℕ) (s : List ℕ) → name s ≡ true → Shown n (monadic IsNotNull (id s))
  unfolding gpkg.text filter_ast by_operator monadic_text is_nullable some spelled_as is_literal_or_id is_literal everywhere is_id tree_atom
  not_null_shown n s e = lift {l = 0} {m = 3} (omega arith) (item (is_not_null_item (bare-name s e)))

  and_shown : (n : ℕ) (t u : Tree) → time_filter t ≡ true → time_filter u ≡ true → Shown n t → Shown n u → Shown (suc n) (dyadic And t u)
  unfolding gpkg.text filter_ast by_operator dyadic_text is_between is_spatial is_temporal is_array some spelled_as
  and_shown n t u e f p q =
      lift {l = 2} {m = 3} (omega arith) (and_join {l = 0} {m = 0} (omega arith) (omega arith) (operand_prints writing g t n e p) (operand_prints writing g u n f q))

  or_shown : (n : ℕ) (t u : Tree) → time_filter t ≡ true → time_filter u ≡ true → Shown n t → Shown n u → Shown (suc n) (dyadic Or t u)
  unfolding gpkg.text filter_ast by_operator dyadic_text is_between is_spatial is_temporal is_array some spelled_as
  or_shown n t u e f p q =
      or_join {l = 0} {m = 0} (omega arith) (omega arith) (operand_prints writing g t n e p) (operand_prints writing g u n f q)

  -- comparisons
  module _ (n : ℕ) (t u : Tree) (p : is_literal_or_id t ≡ true) (q : is_literal_or_id u ≡ true) (A : AtomText (gpkg.text writing g t) (tree_atom writing t)) (B : AtomText (gpkg.text writing g u) (tree_atom writing u)) where
    compared_as : {w : List ℕ} {k : Kind} → SignText w k → Prints (room n) 3 (bare (is_literal_or_id t) (gpkg.text writing g t) ++ (bytes " " ++ (w ++ (bytes " " ++ bare (is_literal_or_id u) (gpkg.text writing g u))))) (cmp k (tree_atom writing t) (tree_atom writing u))
    compared_as S = rw (p, q) (lift {l = 0} {m = 3} (omega arith) (item (compare_item A S B)))

    compares-shown : AllOf (λ o. Shown n (dyadic o t u)) (Eq ∷ Neq ∷ Lt ∷ Gt ∷ Lte ∷ Gte ∷ [])
    unfolding gpkg.text filter_ast by_operator dyadic_text is_between is_spatial is_temporal is_array some spelled_as comparison
    compares-shown =
        compared_as sign_eq also compared_as sign_ne also compared_as sign_lt also compared_as sign_gt also compared_as sign_le also compared_as sign_ge also done

  -- temporal predicates
  module _ (n : ℕ) (t u : Tree) (A : Operand writing g t) (B : Operand writing g u) where
    temporal_shown : AllOf (λ o. Shown n (dyadic o t u)) fifteen
    unfolding gpkg.text filter_ast by_operator dyadic_text is_between is_spatial is_temporal is_array some
    temporal_shown =
        in_room n (translated (four_ends writing g t u A B) 26 (is_interval t) (is_interval u))
        also in_room n (translated (four_ends writing g t u A B) 27 (is_interval t) (is_interval u))
        also in_room n (translated (four_ends writing g t u A B) 28 (is_interval t) (is_interval u))
        also in_room n (translated (four_ends writing g t u A B) 29 (is_interval t) (is_interval u))
        also in_room n (translated (four_ends writing g t u A B) 30 (is_interval t) (is_interval u))
        also in_room n (translated (four_ends writing g t u A B) 31 (is_interval t) (is_interval u))
        also in_room n (translated (four_ends writing g t u A B) 32 (is_interval t) (is_interval u))
        also in_room n (translated (four_ends writing g t u A B) 33 (is_interval t) (is_interval u))
        also in_room n (translated (four_ends writing g t u A B) 34 (is_interval t) (is_interval u))
        also in_room n (translated (four_ends writing g t u A B) 35 (is_interval t) (is_interval u))
        also in_room n (translated (four_ends writing g t u A B) 36 (is_interval t) (is_interval u))
        also in_room n (translated (four_ends writing g t u A B) 37 (is_interval t) (is_interval u))
        also in_room n (translated (four_ends writing g t u A B) 38 (is_interval t) (is_interval u))
        also in_room n (translated (four_ends writing g t u A B) 39 (is_interval t) (is_interval u))
        also in_room n (translated (four_ends writing g t u A B) 40 (is_interval t) (is_interval u))
        also done

  -- IsNull or IsNotNull of an Id
  nullable_shown : (n : ℕ) (o : Op) (t : Tree) → is_nullable o ≡ true → is_id t ≡ true → Good t (n - 1) → Shown n (monadic o t)
  unfolding Good is_nullable
  nullable_shown n o t e c x = go t (id_is t c) x
    where
      go : (t : Tree) → OfKind ID t → Good t (n - 1) → Shown n (monadic o t)
      go t (of_id s) x = among (λ o. Shown n (monadic o (id s))) (null_shown n s x.1 also not_null_shown n s x.1 also done) o e

  -- one level less
  below : (t : Tree) (n : ℕ) → Good t (suc n - 1) → Good t n
  below t n x = let e : suc n - 1 ≡ n = omega arith in subst (λ (m : ℕ). Good t m) e x

  monadic_shown : (n : ℕ) (o : Op) (t : Tree) → time_filter (monadic o t) ≡ true → Good (monadic o t) (suc n) → (time_filter t ≡ true → Good t n → Shown n t) → Shown (suc n) (monadic o t)
  unfolding time_filter by_operator Good
  monadic_shown n o t e x f = go (is_neg o) refl e
    where
      go : (b : Bool) → is_neg o ≡ b → pick b (time_filter t) (both (is_nullable o) (is_id t)) ≡ true → Shown (suc n) (monadic o t)
      go true q r = among (λ p. Shown (suc n) (monadic p t)) (neg_shown n t r (f r (below t n x.2)) also done) o q
      go false q r = let h = both_true (is_nullable o) (is_id t) r in nullable_shown (suc n) o t h.0 h.1 x.2

  dyadic_shown : (n : ℕ) (o : Op) (t u : Tree) → time_filter (dyadic o t u) ≡ true → Good (dyadic o t u) (suc n)
      → (time_filter t ≡ true → Good t n → Shown n t) → (time_filter u ≡ true → Good u n → Shown n u) → Shown (suc n) (dyadic o t u)
  unfolding time_filter by_operator Good some
  dyadic_shown n o t u e x f k = go (joins o) refl e
    where
      rest : (b : Bool) → compares o ≡ b → pick b (both (comparable t) (comparable u)) (both (is_temporal o) (both (is_operand t) (is_operand u))) ≡ true → Shown (suc n) (dyadic o t u)
      rest true q r =
          let h = both_true (comparable t) (comparable u) r in
          among (λ p. Shown (suc n) (dyadic p t u))
          (compares-shown (suc n) t u (comparable-bare t h.0) (comparable-bare u h.1) (comparable_text writing g t n h.0 (below t n x.2)) (comparable_text writing g u n h.1 (below u n x.3))) o
          (implies compares (λ p. one_of p (Eq ∷ Neq ∷ Lt ∷ Gt ∷ Lte ∷ Gte ∷ [])) tt o q)
      rest false q r =
          let h = both_true (is_temporal o) (both (is_operand t) (is_operand u)) r in
          let i = both_true (is_operand t) (is_operand u) h.1 in
          of_temporal (λ p. Shown (suc n) (dyadic p t u)) (temporal_shown (suc n) t u (operand writing g t n i.0 (below t n x.2)) (operand writing g u n i.1 (below u n x.3))) o h.0

      go : (b : Bool) → joins o ≡ b → pick b (both (time_filter t) (time_filter u)) (pick (compares o) (both (comparable t) (comparable u)) (both (is_temporal o) (both (is_operand t) (is_operand u)))) ≡ true → Shown (suc n) (dyadic o t u)
      go true q r =
          let h = both_true (time_filter t) (time_filter u) r in
          among (λ p. Shown (suc n) (dyadic p t u))
          (and_shown n t u h.0 h.1 (f h.0 (below t n x.2)) (k h.1 (below u n x.3)) also or_shown n t u h.0 h.1 (f h.0 (below t n x.2)) (k h.1 (below u n x.3)) also done) o
          (implies joins (λ p. one_of p (And ∷ Or ∷ [])) tt o q)
      go false q r = rest (compares o) refl r

  -- no filter has no level
  no_level : (t : Tree) → FilterIs t → Good t 0 → ⊥
  unfolding Good
  no_level t null_filter x = omega arith
  no_level t (bool_filter b) x = omega arith
  no_level t (monadic_filter o u) x = omega (arith, x.0)
  no_level t (dyadic_filter o u v) x = omega (arith, x.0)

  shown : (n : ℕ) (t : Tree) → FilterIs t → time_filter t ≡ true → Good t (suc n) → ((u : Tree) → time_filter u ≡ true → Good u n → Shown n u) → Shown (suc n) t
  unfolding gpkg.text filter_ast by_operator
  shown n t null_filter e x f = lift {l = 0} {m = 3} (omega arith) (item null_item)
  shown n t (bool_filter b) e x f = lift {l = 0} {m = 3} (omega arith) (bool_prints (room (suc n)) b)
  shown n t (monadic_filter o u) e x f = monadic_shown n o u e x (f u)
  shown n t (dyadic_filter o u v) e x f = dyadic_shown n o u v e x (f u) (f v)

  pub filter-shown : (n : ℕ) (t : Tree) → time_filter t ≡ true → Good t n → Shown n t
  filter-shown zero t e x = absurd (no_level t (filter-is t e) x)
  filter-shown (suc n) t e x = shown n t (filter-is t e) e x (λ u f y. filter-shown n u f y)
