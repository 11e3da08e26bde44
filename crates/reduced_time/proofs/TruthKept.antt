-- Reducing keeps the truth: document 02, slip 8: "On a time filter that reducing accepts, without Null or a lone Unbounded, its written instants all
-- dates or all timestamps, reducing keeps the truth on every row holding its original columns". Over the texts, for each writing call and caller.
--
-- Two of the paper's hypotheses are idle, and the theorem has neither. A lone Unbounded: `..` lies below every written instant and equals itself, in its
-- text as in the order of instants. The row's columns: without Null no column is dropped, so that a row that lacks one gets the same 13 from either
-- text; on a row that holds them the answer is true, false or unknown (`reads_truth` of time). The others are needed: specs/Examples.antt.
use Rattle.std.specs.Prelude.{ℕ, ◌≡◌, refl, List, Bool, true, false}
use Rattle.std.proofs.Common.{sym, ap, ◌∙◌}
use Rattle.prelude.specs.Choice.{both, either, negated}
use Rattle.prelude.specs.ChoiceLaws.{both_true}
use Rattle.op.specs.Op.{is_temporal}
use Rattle.tree.specs.Kinds.{NULL, DATE, TIMESTAMP}
use Rattle.tree.specs.Limits.{depth_limit, planner}
use Rattle.tree.specs.Tree.{Tree, Trees, none, ◌then◌, null, unbounded, bool, num, str, date, timestamp, spatial, id, monadic, dyadic, function, array, interval}
use Rattle.tree.specs.Parse.{got}
use Rattle.tree.specs.Tests.{everywhere, everywhere_in, by_operator}
use Rattle.tree.specs.TestsLaws.{both_of, everywhere_here}
use Rattle.tree.specs.Accepted.{accepted_tree}
use Rattle.tree.specs.AcceptedLaws.{accepted-is, tree_of}
use Rattle.tree.specs.LimitLaws.{accepted-more}
use Rattle.literal.specs.declared.Writing.{Writing}
use Rattle.row.specs.Row.{Column}
use Rattle.truth.specs.Reading.{answered, reading_of}
use Rattle.time.specs.Filter.{time_filter}
use Rattle.time.specs.Accepted.{Lowers, IsRow}
use Rattle.time.proofs.ReadsTruth.{parts, reads_as}
use Rattle.reduce.specs.Reduced.{reduced}
use Rattle.reduce.specs.Reducing.{reducing}
use Rattle.reduce.specs.ReducedLaws.{same_tree}
use Rattle.reduce.specs.PlaceLaws.{reduced_taken}
use Rattle.reduce.specs.ReducingLaws.{given}
use Rattle.reduced_time.specs.Hypotheses.{is_not, lacks, without_null, of_one_width, besides, no_lone}
use Rattle.reduced_time.specs.KeptLaws.{Kept, reduced_kept}

-- without Null there is none that stands alone
mutual
  unfolding lacks no_lone besides everywhere everywhere_in by_operator

  without_lone : (t : Tree) → without_null t ≡ true → no_lone NULL t ≡ true
  without_lone null e = refl
  without_lone unbounded e = refl
  without_lone (bool b) e = refl
  without_lone (num m s) e = refl
  without_lone (str f s) e = refl
  without_lone (date y m d) e = refl
  without_lone (timestamp y m d h i s) e = refl
  without_lone (spatial n s) e = refl
  without_lone (id s) e = refl
  without_lone (monadic o t) e = without_lone t e
  without_lone (dyadic o t u) e =
      let k = both_true (without_null t) (without_null u) e in
      let x : is_not NULL t ≡ true = everywhere_here (is_not NULL) t k.0 in
      let y : is_not NULL u ≡ true = everywhere_here (is_not NULL) u k.1 in
      both_of (either (negated (is_temporal o)) (both (is_not NULL t) (is_not NULL u))) (both (no_lone NULL t) (no_lone NULL u))
      (right (negated (is_temporal o)) (both (is_not NULL t) (is_not NULL u)) (both_of (is_not NULL t) (is_not NULL u) x y))
      (both_of (no_lone NULL t) (no_lone NULL u) (without_lone t k.0) (without_lone u k.1))
    where
      right : (a b : Bool) → b ≡ true → either a b ≡ true
      right true b z = refl
      right false b z = z
  without_lone (function n ts) e = without_lones ts e
  without_lone (array ts) e = without_lones ts e
  without_lone (interval t u) e =
      let k = both_true (without_null t) (without_null u) e in
      both_of (no_lone NULL t) (no_lone NULL u) (without_lone t k.0) (without_lone u k.1)

  without_lones : (ts : Trees) → everywhere_in (is_not NULL) ts ≡ true → everywhere_in (besides NULL) ts ≡ true
  without_lones none e = refl
  without_lones (t then ts) e =
      let k = both_true (without_null t) (everywhere_in (is_not NULL) ts) e in
      both_of (no_lone NULL t) (everywhere_in (besides NULL) ts) (without_lone t k.0) (without_lones ts k.1)

-- all are dates, or all are timestamps
kept : {w : Writing} {t u : Tree} {x : List ℕ} (cs : List Column) → Lowers w t x → time_filter t ≡ true → no_lone NULL t ≡ true → of_one_width t ≡ true → reduced t ≡ got u → Kept w cs t u
unfolding of_one_width
kept {w} {t} {u} cs L f a i e = go (lacks TIMESTAMP t) refl i
  where
    go : (b : Bool) → lacks TIMESTAMP t ≡ b → either b (lacks DATE t) ≡ true → Kept w cs t u
    go true q z = reduced_kept w cs true t u depth_limit (parts L).good f a q e
    go false q z = reduced_kept w cs false t u depth_limit (parts L).good f a z e

-- Over trees, and with less than "without Null": no temporal operator has Null as an operand of its own.
pub reduced_reads : {w : Writing} {t u : Tree} {x x' row : List ℕ} {cs : List Column} → Lowers w t x → Lowers w u x' → time_filter t ≡ true → no_lone NULL t ≡ true
    → of_one_width t ≡ true → reduced t ≡ got u → IsRow row cs → reading_of x row ≡ reading_of x' row
reduced_reads {cs = cs} L L' f a i e R =
    let k = kept cs L f a i e in
    reads_as L f R ∙ ap answered (sym k.truth) ∙ sym (reads_as L' k.filter R)

-- the planner's checks 2 to 7 accept what a caller lowers
accepts : {w : Writing} {t : Tree} {x : List ℕ} (L : Lowers w t x) → accepted_tree planner L.tree ≡ got t
accepts {t = t} L =
    let r = accepted-more L.limits planner L.settings L.tree (L.holds, t) L.within L.read in
    let a = accepted-is planner L.settings L.tree L.holds t r in
    tree_of planner L.tree t a.1 a.2 a.3

-- the second tree is the first one reduced
reduced_is : {w : Writing} {t u : Tree} {x x' : List ℕ} (room : ℕ) (L : Lowers w t x) (L' : Lowers w u x') → reducing L.tree room ≡ got L'.tree → reduced t ≡ got u
reduced_is {t = t} {u = u} room L L' e =
    let g = (given L.tree room L'.tree e).0 in
    let p : g.tree ≡ t = same_tree (sym g.read ∙ accepts L) in
    let r = reduced_taken L.tree g.tree g.becomes L.bytes g.read g.reduces in
    let q : g.becomes ≡ u = same_tree (sym r ∙ ap (accepted_tree planner) g.is ∙ accepts L') in
    ap reduced (sym p) ∙ g.reduces ∙ ap got q

-- A tree and what reducing gives for it, each lowered by the same writing call, with any settings, for any caller: their texts read alike on every row.
pub reducing-reads : {w : Writing} {t u : Tree} {x x' row : List ℕ} {cs : List Column} (room : ℕ) (L : Lowers w t x) (L' : Lowers w u x')
    → reducing L.tree room ≡ got L'.tree → time_filter t ≡ true → without_null t ≡ true → of_one_width t ≡ true → IsRow row cs → reading_of x row ≡ reading_of x' row
reducing-reads {t = t} room L L' e f a i R = reduced_reads L L' f (without_lone t a) i (reduced_is room L L' e) R
