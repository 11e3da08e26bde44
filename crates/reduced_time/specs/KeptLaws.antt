-- What reducing keeps of a time filter in either writing: that it is one, and its truth on every row, over trees (the definition of specs/FilterTruth.antt
-- of time), where Null is no operand of its own and the written instants are of one width: document 02, slip 8.
use Rattle.std.specs.Prelude.{ℕ, ◌-◌, ◌≡◌, List, [], ◌∷◌, Bool, eqb}
use Rattle.std.proofs.Math.Path.{refl, sym, ap}
use Rattle.std.proofs.Common.{◌∙◌, subst, ⊎_elim}
use Rattle.std.proofs.Math.Bool.{true, false}
use Rattle.std.proofs.lemmas.Bool.{false≢true}
use Rattle.prelude.specs.Choice.{pick, both, either, negated, some}
use Rattle.prelude.specs.ChoiceLaws.{both_true}
use Rattle.civil.specs.Civil.{valid_date, valid_time}
use Rattle.op.specs.declared.Op.{Op}
use Rattle.op.specs.declared.Op.TheVariants.{Neg, And, Or, CaseI, AccentI, TAfter, TBefore, TDisjoint, TEquals, TIntersects, IsNull, IsNotNull}
use Rattle.op.specs.Op.{one_of, is_temporal, is_instant_or_interval, is_nullable}
use Rattle.op.specs.OpLaws.{agree}
use Rattle.tree.specs.Kinds.{NULL, DATE, TIMESTAMP, ID, INTERVAL}
use Rattle.tree.specs.Tree.{Tree, null, unbounded, bool, num, str, date, timestamp, spatial, id, monadic, dyadic, function, array, interval}
use Rattle.tree.specs.Parse.{got}
use Rattle.tree.specs.Parse as parse
use Rattle.tree.specs.ParseLaws.{also_got}
use Rattle.tree.specs.GoodWords.{Good}
use Rattle.tree.specs.Tests.{first, second, everywhere, by_operator, is_id, is_interval, start_of, stop_of, ends_of}
use Rattle.tree.specs.TestsLaws.{both_of, OfKind, of_id, of_interval, id_is, interval_is}
use Rattle.literal.specs.declared.Writing.{Writing}
use Rattle.sql.specs.Translators.{translate, t_after, t_before, t_disjoint, t_equals, t_intersects}
use Rattle.row.specs.Row.{Column}
use Rattle.std.specs.declared.cmp.Ordering.{Ordering}
use Rattle.truth.specs.declared.Truth.{Truth}
use Rattle.lexer.specs.declared.Kind.{Kind}
use Rattle.lexer.specs.declared.Kind.TheVariants.{Lt as LT, Gt as GT, Eq as EQ, Ne as NE}
use Rattle.truth.specs.Grammar.{not3, and3, or3, truth_of, compared, value}
use Rattle.truth.specs.Grammar as grammar
use Rattle.time.specs.Filter.{comparable, is_end, is_operand, is_neg, is_and, is_or, compares, time_filter}
use Rattle.time.specs.FilterLaws.{EndIs, null_end, open_end_lem, date-end, timestamp-end, column_end, end_is, ComparableIs, comparable_str, comparable-date, comparable-timestamp, comparable_id, comparable-is, FilterIs, null_filter, bool_filter, monadic_filter, dyadic_filter, filter-is}
use Rattle.time.specs.FilterTruth.{tree_atom, end_atom, end_on, slot_at, cond_truth, temporal_truth, truth_on}
use Rattle.time.specs.Ogc.{ten}
use Rattle.time.specs.InstantLaws.{date-instant}
use Rattle.time.specs.OperatorLaws.{done, ◌also◌, among}
use Rattle.time.proofs.ConverseLaws.{predicate_truth}
use Rattle.reduce.specs.Sort.{same_sort, is_logic, sort_of, key_of, key, null_sort, instant_sort, case_sort, accent_sort, other_sort}
use Rattle.reduce.specs.Rules.{turn, meet, meet_and, meet_or, happens}
use Rattle.reduce.specs.Reduced.{turned, met, one_reduced, two_reduced, reduced}
use Rattle.reduce.specs.ReducedLaws.{same_tree}
use Rattle.reduce.specs.MeetLaws.{and_stays, or_stays, Instants, others_meet}
use Rattle.reduced_time.specs.Hypotheses.{is_not, lacks, besides, no_lone}
use Rattle.reduced_time.specs.KeyLaws.{by_key, dates_by_key, timestamps-by-key, opens_by_key, open_by_key, by_key_open, width_of, written-timestamp, key_positive, below_key, above_key, same_key, other_key}

-- ---- What is kept.

pub record Kept (w : Writing) (cs : List Column) (t u : Tree) : Type 0 where
  pub filter : time_filter u ≡ true
  pub truth : truth_on w cs u ≡ truth_on w cs t

kept_as : {w : Writing} {cs : List Column} {t u v : Tree} → u ≡ v → Kept w cs t u → Kept w cs t v
kept_as {w} {cs} {t} e k = subst (λ (x : Tree). Kept w cs t x) e k

kept_then : {w : Writing} {cs : List Column} {t u v : Tree} → Kept w cs t u → Kept w cs u v → Kept w cs t v
kept_then k l = record { filter = l.filter; truth = l.truth ∙ k.truth }

-- ---- Views.

-- Null or Bool
data Logic : Tree → Type 0 where
  unknown : Logic null
  known : (b : Bool) → Logic (bool b)

logic_is : {v : Tree} → FilterIs v → is_logic (sort_of v) ≡ true → Logic v
unfolding sort_of
logic_is null_filter e = unknown
logic_is (bool_filter b) e = known b
logic_is (monadic_filter o t) e = absurd (go (one_of o (CaseI ∷ [])) (one_of o (AccentI ∷ [])) e)
  where
    go : (a b : Bool) → is_logic (pick a case_sort (pick b accent_sort other_sort)) ≡ true → ⊥
    go true b q = false≢true q
    go false true q = false≢true q
    go false false q = false≢true q
logic_is (dyadic_filter o t u) e = absurd (false≢true e)

-- an operand of a temporal operator
data OperandIs : Tree → Type 0 where
  end_operand : {t : Tree} → EndIs t → OperandIs t
  interval_operand : {t u : Tree} → EndIs t → EndIs u → OperandIs (interval t u)

pair_is : {t : Tree} → OfKind INTERVAL t → both (is_end (start_of t)) (is_end (stop_of t)) ≡ true → OperandIs t
unfolding start_of stop_of is_interval first second
pair_is (of_interval t u) e = let k = both_true (is_end t) (is_end u) e in interval_operand (end_is t k.0) (end_is u k.1)

operand_is : (t : Tree) → is_operand t ≡ true → OperandIs t
unfolding is_operand
operand_is t e = go (is_interval t) refl e
  where
    go : (b : Bool) → is_interval t ≡ b → pick b (both (is_end (start_of t)) (is_end (stop_of t))) (is_end t) ≡ true → OperandIs t
    go true q h = pair_is (interval_is t q) h
    go false q h = end_operand (end_is t h)

-- ---- What is compared stays as it is.

comparable-same : {t : Tree} → ComparableIs t → (reduced t ≡ got t) × (same_sort (sort_of t) null_sort ≡ false)
unfolding reduced sort_of
comparable-same (comparable_str f s e) = (refl, refl)
comparable-same (comparable-date y m d) = (refl, refl)
comparable-same (comparable-timestamp y m d h i s) = (refl, refl)
comparable-same (comparable_id s) = (refl, refl)

end_same : {t : Tree} → EndIs t → reduced t ≡ got t
unfolding reduced
end_same null_end = refl
end_same open_end_lem = refl
end_same (date-end y m d) = refl
end_same (timestamp-end y m d h i s) = refl
end_same (column_end s) = refl

operand_same : {t : Tree} → OperandIs t → reduced t ≡ got t
unfolding reduced parse.also
operand_same (end_operand p) = end_same p
operand_same (interval_operand p q) = let x = end_same p in let y = end_same q in rw (x, y) refl

operand_sort : {t : Tree} → OperandIs t → is_not NULL t ≡ true → same_sort (sort_of t) null_sort ≡ false
unfolding sort_of
operand_sort (end_operand null_end) e = absurd (false≢true e)
operand_sort (end_operand open_end_lem) e = refl
operand_sort (end_operand (date-end y m d)) e = refl
operand_sort (end_operand (timestamp-end y m d h i s)) e = refl
operand_sort (end_operand (column_end s)) e = refl
operand_sort (interval_operand p q) e = refl

-- ---- Two written instants.

-- the kind that is not written, where all instants are dates, or none is
abbrev pub unwritten : Bool → ℕ
unwritten true = TIMESTAMP
unwritten false = DATE

-- Unbounded, a Date or a Timestamp, of one width
data Written (dates : Bool) : Tree → Type 0 where
  unbound : Written dates unbounded
  day : (y m d : ℕ) → dates ≡ true → valid_date y m d ≡ true → Written dates (date y m d)
  moment : (y m d h i s : ℕ) → dates ≡ false → valid_date y m d ≡ true → valid_time h i s ≡ true → Written dates (timestamp y m d h i s)

are_dates : (dates : Bool) → negated (eqb DATE (unwritten dates)) ≡ true → dates ≡ true
are_dates true e = refl
are_dates false e = absurd (false≢true e)

are_timestamps : (dates : Bool) → negated (eqb TIMESTAMP (unwritten dates)) ≡ true → dates ≡ false
are_timestamps true e = absurd (false≢true e)
are_timestamps false e = refl

written_is : (dates : Bool) (n : ℕ) {t : Tree} → OperandIs t → same_sort (sort_of t) instant_sort ≡ true → Good t n → lacks (unwritten dates) t ≡ true → Written dates t
unfolding sort_of Good lacks everywhere
written_is dates n (end_operand null_end) e g f = absurd (false≢true e)
written_is dates n (end_operand open_end_lem) e g f = unbound
written_is dates n (end_operand (date-end y m d)) e g f = day y m d (are_dates dates f) g.1
written_is dates n (end_operand (timestamp-end y m d h i s)) e g f = moment y m d h i s (are_timestamps dates f) g.1 g.2
written_is dates n (end_operand (column_end s)) e g f = absurd (false≢true e)
written_is dates n (interval_operand p q) e g f = absurd (false≢true e)

-- it is no interval, and is its own start
plain : {dates : Bool} {t : Tree} → Written dates t → (start_of t ≡ t) × (is_interval t ≡ false)
unfolding start_of is_interval
plain unbound = (refl, refl)
plain (day y m d p e) = (refl, refl)
plain (moment y m d h i s p e f) = (refl, refl)

module _ (w : Writing) (cs : List Column) (dates : Bool) where
  -- their strings compare as their places in time
  compared-key : (sign : Kind) {t u : Tree} → Written dates t → Written dates u
      → compared sign (end_on w cs (slot_at t u 0) t) (end_on w cs (slot_at t u 2) u) ≡ truth_of (grammar.holds sign (by_key (key_of t) (key_of u)))
  unfolding end_on end_atom tree_atom value sort_of is_interval
  compared-key sign unbound unbound = ap (λ (i : Ordering). truth_of (grammar.holds sign i)) (opens_by_key w)
  compared-key sign unbound (day y m d p e) =
      ap (λ (i : Ordering). truth_of (grammar.holds sign i)) (open_by_key w ten _ (key y m d 0 0 0) (date-instant y m d e) (key_positive y m d 0 0 0 e))
  compared-key sign unbound (moment y m d h i s p e f) =
      ap (λ (i : Ordering). truth_of (grammar.holds sign i))
      (open_by_key w (width_of w) _ (key y m d h i s) (written-timestamp w y m d h i s e f) (key_positive y m d h i s e))
  compared-key sign (day y m d p e) unbound =
      ap (λ (i : Ordering). truth_of (grammar.holds sign i)) (by_key_open w ten _ (key y m d 0 0 0) (date-instant y m d e) (key_positive y m d 0 0 0 e))
  compared-key sign (day y m d p e) (day y' m' d' p' e') = ap (λ (i : Ordering). truth_of (grammar.holds sign i)) (dates_by_key y m d y' m' d' e e')
  compared-key sign (day y m d p e) (moment y' m' d' h' i' s' p' e' f') = absurd (false≢true (sym p' ∙ p))
  compared-key sign (moment y m d h i s p e f) unbound =
      ap (λ (i : Ordering). truth_of (grammar.holds sign i))
      (by_key_open w (width_of w) _ (key y m d h i s) (written-timestamp w y m d h i s e f) (key_positive y m d h i s e))
  compared-key sign (moment y m d h i s p e f) (day y' m' d' p' e') = absurd (false≢true (sym p ∙ p'))
  compared-key sign (moment y m d h i s p e f) (moment y' m' d' h' i' s' p' e' f') =
      ap (λ (i : Ordering). truth_of (grammar.holds sign i)) (timestamps-by-key y m d h i s e f w y' m' d' h' i' s' e' f')

  abbrev Happens : Tree → Tree → Op → Type 0
  Happens t u o = temporal_truth w cs o t u ≡ truth_of (happens o (key_of t) (key_of u))

  -- so the five say of them what reducing says
  instants-meet : (t u : Tree) → Written dates t → Written dates u → (o : Op) → is_instant_or_interval o ≡ true → Happens t u o
  unfolding is_instant_or_interval temporal_truth translate t_after t_before t_disjoint t_equals t_intersects cond_truth ends_of happens some
  instants-meet t u p q =
      let a = plain p in
      let b = plain q in
      let x = key_of t in
      let y = key_of u in
      let after : Happens t u TAfter = rw (a.1, b.1, a.0, b.0) (compared-key GT p q ∙ ap truth_of (above_key x y)) in
      let before : Happens t u TBefore = rw (a.1, b.1, a.0, b.0) (compared-key LT p q ∙ ap truth_of (below_key x y)) in
      let disjoint : Happens t u TDisjoint = rw (a.1, b.1, a.0, b.0) (compared-key NE p q ∙ ap truth_of (other_key x y)) in
      let equals : Happens t u TEquals = rw (a.1, b.1, a.0, b.0) (compared-key EQ p q ∙ ap truth_of (same_key x y)) in
      let intersects : Happens t u TIntersects = rw (a.1, b.1, a.0, b.0) (compared-key EQ p q ∙ ap truth_of (same_key x y)) in
      among (Happens t u) {os = TAfter ∷ TBefore ∷ TDisjoint ∷ TEquals ∷ TIntersects ∷ []} (after also before also disjoint also equals also intersects also done)

-- ---- Neg, And, Or.

module _ (w : Writing) (cs : List Column) where
  kept_same : (t : Tree) → time_filter t ≡ true → Kept w cs t t
  kept_same t f = record { filter = f; truth = refl }

  -- below an operator that stays
  neg_below : {t v : Tree} → Kept w cs t v → Kept w cs (monadic Neg t) (monadic Neg v)
  unfolding time_filter truth_on by_operator some
  neg_below k = record { filter = k.filter; truth = ap not3 k.truth }

  and_below : {t s a b : Tree} → Kept w cs t a → Kept w cs s b → Kept w cs (dyadic And t s) (dyadic And a b)
  unfolding time_filter truth_on by_operator some
  and_below {t} {s} {a} {b} k l =
      record {
        filter = both_of (time_filter a) (time_filter b) k.filter l.filter;
        truth = ap (λ (x : Truth). and3 x (truth_on w cs b)) k.truth ∙ ap (λ (x : Truth). and3 (truth_on w cs t) x) l.truth;
      }

  or_below : {t s a b : Tree} → Kept w cs t a → Kept w cs s b → Kept w cs (dyadic Or t s) (dyadic Or a b)
  unfolding time_filter truth_on by_operator some
  or_below {t} {s} {a} {b} k l =
      record {
        filter = both_of (time_filter a) (time_filter b) k.filter l.filter;
        truth = ap (λ (x : Truth). or3 x (truth_on w cs b)) k.truth ∙ ap (λ (x : Truth). or3 (truth_on w cs t) x) l.truth;
      }

  -- on Null and Bool
  neg_turned : {v : Tree} → FilterIs v → time_filter v ≡ true → Kept w cs (monadic Neg v) (one_reduced Neg v)
  unfolding one_reduced turn turned sort_of time_filter truth_on by_operator some
  neg_turned null_filter f = record { filter = refl; truth = refl }
  neg_turned (bool_filter true) f = record { filter = refl; truth = refl }
  neg_turned (bool_filter false) f = record { filter = refl; truth = refl }
  neg_turned (monadic_filter o t) f = go (one_of o (CaseI ∷ [])) (one_of o (AccentI ∷ []))
    where
      go : (a b : Bool) → Kept w cs (monadic Neg (monadic o t)) (turned (turn Neg (pick a case_sort (pick b accent_sort other_sort))) Neg (monadic o t))
      go true b = record { filter = f; truth = refl }
      go false true = record { filter = f; truth = refl }
      go false false = record { filter = f; truth = refl }
  neg_turned (dyadic_filter o t u) f = record { filter = f; truth = refl }

  and_met : {a b u : Tree} → Logic a → Logic b → two_reduced And a b ≡ got u → Kept w cs (dyadic And a b) u
  unfolding two_reduced meet meet_and met sort_of time_filter truth_on by_operator some
  and_met unknown unknown e = kept_as (same_tree e) (record { filter = refl; truth = refl })
  and_met unknown (known true) e = kept_as (same_tree e) (record { filter = refl; truth = refl })
  and_met unknown (known false) e = kept_as (same_tree e) (record { filter = refl; truth = refl })
  and_met (known true) unknown e = kept_as (same_tree e) (record { filter = refl; truth = refl })
  and_met (known true) (known true) e = kept_as (same_tree e) (record { filter = refl; truth = refl })
  and_met (known true) (known false) e = kept_as (same_tree e) (record { filter = refl; truth = refl })
  and_met (known false) unknown e = kept_as (same_tree e) (record { filter = refl; truth = refl })
  and_met (known false) (known true) e = kept_as (same_tree e) (record { filter = refl; truth = refl })
  and_met (known false) (known false) e = kept_as (same_tree e) (record { filter = refl; truth = refl })

  or_met : {a b u : Tree} → Logic a → Logic b → two_reduced Or a b ≡ got u → Kept w cs (dyadic Or a b) u
  unfolding two_reduced meet meet_or met sort_of time_filter truth_on by_operator some
  or_met unknown unknown e = kept_as (same_tree e) (record { filter = refl; truth = refl })
  or_met unknown (known true) e = kept_as (same_tree e) (record { filter = refl; truth = refl })
  or_met unknown (known false) e = kept_as (same_tree e) (record { filter = refl; truth = refl })
  or_met (known true) unknown e = kept_as (same_tree e) (record { filter = refl; truth = refl })
  or_met (known true) (known true) e = kept_as (same_tree e) (record { filter = refl; truth = refl })
  or_met (known true) (known false) e = kept_as (same_tree e) (record { filter = refl; truth = refl })
  or_met (known false) unknown e = kept_as (same_tree e) (record { filter = refl; truth = refl })
  or_met (known false) (known true) e = kept_as (same_tree e) (record { filter = refl; truth = refl })
  or_met (known false) (known false) e = kept_as (same_tree e) (record { filter = refl; truth = refl })

  -- both are Null or Bool, or the node stays
  module _ {o : Op} {t s a b u : Tree} (below : Kept w cs (dyadic o t s) (dyadic o a b)) (p : FilterIs a) (q : FilterIs b) where
    join_kept : (Logic a → Logic b → Kept w cs (dyadic o a b) u) → (both (is_logic (sort_of a)) (is_logic (sort_of b)) ≡ false → dyadic o a b ≡ u) → Kept w cs (dyadic o t s) u
    join_kept meets stays = go (is_logic (sort_of a)) (is_logic (sort_of b)) refl refl
      where
        go : (x y : Bool) → is_logic (sort_of a) ≡ x → is_logic (sort_of b) ≡ y → Kept w cs (dyadic o t s) u
        go true true i j = kept_then below (meets (logic_is p i) (logic_is q j))
        go true false i j = kept_as (stays (ap (λ (x : Bool). both x (is_logic (sort_of b))) i ∙ j)) below
        go false y i j = kept_as (stays (ap (λ (x : Bool). both x (is_logic (sort_of b))) i)) below

  and_kept : {t s a b u : Tree} → Kept w cs t a → Kept w cs s b → two_reduced And a b ≡ got u → Kept w cs (dyadic And t s) u
  and_kept {a = a} {b = b} {u = u} k l e =
      join_kept (and_below k l) (filter-is a k.filter) (filter-is b l.filter) (λ x y. and_met x y e) (λ z. and_stays a b u z e)

  or_kept : {t s a b u : Tree} → Kept w cs t a → Kept w cs s b → two_reduced Or a b ≡ got u → Kept w cs (dyadic Or t s) u
  or_kept {a = a} {b = b} {u = u} k l e =
      join_kept (or_below k l) (filter-is a k.filter) (filter-is b l.filter) (λ x y. or_met x y e) (λ z. or_stays a b u z e)

-- ---- The operators' classes.

temporal_not : (o : Op) → is_temporal o ≡ true → (is_and o ≡ false) × (is_or o ≡ false)
unfolding is_temporal some
temporal_not o e = go (is_temporal o) (is_and o) (is_or o) e (agree (λ p. both (is_temporal p) (either (is_and p) (is_or p))) (λ p. false) tt o)
  where
    go : (c a b : Bool) → c ≡ true → both c (either a b) ≡ false → (a ≡ false) × (b ≡ false)
    go true true b f g = absurd (false≢true (sym g))
    go true false true f g = absurd (false≢true (sym g))
    go true false false f g = (refl, refl)
    go false a b f g = absurd (false≢true f)

-- an operator of 8 to 13 is neither And nor Or nor one of the five
compares_not : (o : Op) → compares o ≡ true → (is_and o ≡ false) × (is_or o ≡ false) × (is_instant_or_interval o ≡ false)
unfolding is_instant_or_interval some
compares_not o e =
    let k = agree (λ p. both (compares p) (either (is_and p) (either (is_or p) (is_instant_or_interval p)))) (λ p. false) tt o in
    go (compares o) (is_and o) (is_or o) (is_instant_or_interval o) e k
  where
    go : (c a b d : Bool) → c ≡ true → both c (either a (either b d)) ≡ false → (a ≡ false) × (b ≡ false) × (d ≡ false)
    go true true b d f g = absurd (false≢true (sym g))
    go true false true d f g = absurd (false≢true (sym g))
    go true false false true f g = absurd (false≢true (sym g))
    go true false false false f g = (refl, refl, refl)
    go false a b d f g = absurd (false≢true f)

-- ---- The law.

split : {A : Type 0} (b : Bool) (x y : Bool) → (b ≡ true → x ≡ true → A) → (b ≡ false → y ≡ true → A) → pick b x y ≡ true → A
split true x y f g e = f refl e
split false x y f g e = g refl e

or_else : {A : Type 0} (a b : Bool) → (a ≡ true → A) → (b ≡ true → A) → either a b ≡ true → A
or_else true b f g e = f refl
or_else false b f g e = g e

module _ (w : Writing) (cs : List Column) where
  kept_bool : (t : Tree) (b : Bool) → truth_on w cs t ≡ truth_of b → Kept w cs t (bool b)
  unfolding time_filter truth_on by_operator
  kept_bool t true e = record { filter = refl; truth = sym e }
  kept_bool t false e = record { filter = refl; truth = sym e }

  nullable_kept : {t u : Tree} → OfKind ID t → (o : Op) → is_nullable o ≡ true → parse.also (reduced t) (λ v. got (one_reduced o v)) ≡ got u → Kept w cs (monadic o t) u
  unfolding is_nullable reduced parse.also one_reduced turn turned sort_of time_filter by_operator is_id some
  nullable_kept {u = u} (of_id s) o n =
      among (λ p. got (one_reduced p (id s)) ≡ got u → Kept w cs (monadic p (id s)) u)
      ((λ e. kept_as (same_tree e) (kept_same w cs (monadic IsNull (id s)) refl)) also (λ e. kept_as (same_tree e) (kept_same w cs (monadic IsNotNull (id s)) refl)) also done)
      o n

  neg_kept : {t v u : Tree} → Kept w cs t v → (o : Op) → is_neg o ≡ true → got (one_reduced o v) ≡ got u → Kept w cs (monadic o t) u
  neg_kept {t} {v} {u} k =
      among (λ p. got (one_reduced p v) ≡ got u → Kept w cs (monadic p t) u)
      {os = Neg ∷ []} ((λ e. kept_as (same_tree e) (kept_then (neg_below w cs k) (neg_turned w cs (filter-is v k.filter) k.filter))) also done)

  joined_kept : {t s a b u : Tree} → Kept w cs t a → Kept w cs s b → (o : Op) → either (is_and o) (is_or o) ≡ true → two_reduced o a b ≡ got u → Kept w cs (dyadic o t s) u
  joined_kept {t} {s} {a} {b} {u} k l o =
      or_else (is_and o) (is_or o)
      (among (λ r. two_reduced r a b ≡ got u → Kept w cs (dyadic r t s) u) {os = And ∷ []} ((λ e. and_kept w cs k l e) also done) o)
      (among (λ r. two_reduced r a b ≡ got u → Kept w cs (dyadic r t s) u) {os = Or ∷ []} ((λ e. or_kept w cs k l e) also done) o)

  -- operands that stay
  operands-stay : {t s a b u : Tree} (o : Op) → reduced t ≡ got t → reduced s ≡ got s → reduced t ≡ got a → reduced s ≡ got b → two_reduced o a b ≡ got u → two_reduced o t s ≡ got u
  operands-stay {t} {s} {a} {b} o v r h k z =
      ap (λ (i : Tree). two_reduced o i s) (same_tree (sym v ∙ h)) ∙ ap (λ (i : Tree). two_reduced o a i) (same_tree (sym r ∙ k)) ∙ z

  compared_kept : {t s u : Tree} (o : Op) → time_filter (dyadic o t s) ≡ true → compares o ≡ true → ComparableIs t → ComparableIs s → two_reduced o t s ≡ got u → Kept w cs (dyadic o t s) u
  compared_kept {t} {s} {u} o f c p q z =
      let n = compares_not o c in
      ⊎_elim (λ r. kept_as r (kept_same w cs (dyadic o t s) f)) (λ r. absurd (false≢true (sym n.2 ∙ r.five)))
      (others_meet o t s u n.0 n.1 (comparable-same p).1 (comparable-same q).1 z)

  temporal_kept : (dates : Bool) (n : ℕ) {t s u : Tree} (o : Op) → time_filter (dyadic o t s) ≡ true → is_temporal o ≡ true → OperandIs t → OperandIs s
      → is_not NULL t ≡ true → is_not NULL s ≡ true → Good t n → Good s n → lacks (unwritten dates) t ≡ true → lacks (unwritten dates) s ≡ true
      → two_reduced o t s ≡ got u → Kept w cs (dyadic o t s) u
  temporal_kept dates n {t} {s} {u} o f c p q a b g h i j z =
      let m = temporal_not o c in
      ⊎_elim (λ r. kept_as r (kept_same w cs (dyadic o t s) f))
      (λ (r : Instants o t s u). kept_as r.is
      (kept_bool (dyadic o t s) (happens o (key_of t) (key_of s))
      (predicate_truth w cs o t s c ∙ instants-meet w cs dates t s (written_is dates n p r.left g i) (written_is dates n q r.right h j) o r.five)))
      (others_meet o t s u m.0 m.1 (operand_sort p a) (operand_sort q b) z)

  -- Of a time filter in which no temporal operator has Null as an operand of its own, its written instants all dates or all timestamps, reducing keeps
  -- the truth on every row, whatever columns it holds; and the reduced tree is a time filter.
  pub reduced_kept : (dates : Bool) (t u : Tree) (n : ℕ) → Good t n → time_filter t ≡ true → no_lone NULL t ≡ true → lacks (unwritten dates) t ≡ true → reduced t ≡ got u → Kept w cs t u
  unfolding reduced parse.also Good time_filter by_operator no_lone besides lacks everywhere
  reduced_kept dates null u n g f a i e = kept_as (same_tree e) (kept_same w cs null refl)
  reduced_kept dates unbounded u n g f a i e = absurd (false≢true f)
  reduced_kept dates (bool b) u n g f a i e = kept_as (same_tree e) (kept_same w cs (bool b) refl)
  reduced_kept dates (num m s) u n g f a i e = absurd (false≢true f)
  reduced_kept dates (str j s) u n g f a i e = absurd (false≢true f)
  reduced_kept dates (date y m d) u n g f a i e = absurd (false≢true f)
  reduced_kept dates (timestamp y m d h j s) u n g f a i e = absurd (false≢true f)
  reduced_kept dates (spatial r s) u n g f a i e = absurd (false≢true f)
  reduced_kept dates (id s) u n g f a i e = absurd (false≢true f)
  reduced_kept dates (monadic o t) u n g f a i e =
      let p = also_got (reduced t) (λ v. got (one_reduced o v)) u e in
      let j = (both_true (is_not (unwritten dates) (monadic o t)) (lacks (unwritten dates) t) i).1 in
      split (is_neg o) (time_filter t) (both (is_nullable o) (is_id t))
      (λ c d. neg_kept (reduced_kept dates t p.0 (n - 1) g.2 d a j p.1) o c p.2)
      (λ c d. let k = both_true (is_nullable o) (is_id t) d in nullable_kept (id_is t k.1) o k.0 e)
      f
  reduced_kept dates (dyadic o t s) u n g f a i e =
      let p = also_got (reduced t) (λ x. parse.also (reduced s) (λ y. two_reduced o x y)) u e in
      let q = also_got (reduced s) (λ y. two_reduced o p.0 y) u p.2 in
      let j = both_true (lacks (unwritten dates) t) (lacks (unwritten dates) s) (both_true (is_not (unwritten dates) (dyadic o t s)) (both (lacks (unwritten dates) t) (lacks (unwritten dates) s)) i).1 in
      let l = both_true (either (negated (is_temporal o)) (both (is_not NULL t) (is_not NULL s))) (both (no_lone NULL t) (no_lone NULL s)) a in
      let m = both_true (no_lone NULL t) (no_lone NULL s) l.1 in
      split (either (is_and o) (is_or o)) (both (time_filter t) (time_filter s)) (pick (compares o) (both (comparable t) (comparable s)) (both (is_temporal o) (both (is_operand t) (is_operand s))))
      (λ c d. let k = both_true (time_filter t) (time_filter s) d in
      joined_kept (reduced_kept dates t p.0 (n - 1) g.2 k.0 m.0 j.0 p.1) (reduced_kept dates s q.0 (n - 1) g.3 k.1 m.1 j.1 q.1) o c q.2)
      (λ c d. split (compares o) (both (comparable t) (comparable s)) (both (is_temporal o) (both (is_operand t) (is_operand s)))
      (λ x y. let k = both_true (comparable t) (comparable s) y in
      let v = comparable-is t k.0 in
      let r = comparable-is s k.1 in
      compared_kept o f x v r (operands-stay o (comparable-same v).0 (comparable-same r).0 p.1 q.1 q.2))
      (λ x y. let k = both_true (is_temporal o) (both (is_operand t) (is_operand s)) y in
      let z = both_true (is_operand t) (is_operand s) k.1 in
      let v = operand_is t z.0 in
      let r = operand_is s z.1 in
      let b : both (is_not NULL t) (is_not NULL s) ≡ true = rw k.0 at l.0 in
      let h = both_true (is_not NULL t) (is_not NULL s) b in
      temporal_kept dates (n - 1) o f k.0 v r h.0 h.1 g.2 g.3 j.0 j.1 (operands-stay o (operand_same v) (operand_same r) p.1 q.1 q.2))
      d)
      f
  reduced_kept dates (function r ts) u n g f a i e = absurd (false≢true f)
  reduced_kept dates (array ts) u n g f a i e = absurd (false≢true f)
  reduced_kept dates (interval t s) u n g f a i e = absurd (false≢true f)
