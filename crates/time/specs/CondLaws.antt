-- A temporal predicate's condition reads back as the same condition over atoms, and that has the condition's truth.
-- Each translator is put together from `Prints`; the ends are four atoms, and a guarded end is a column.
use Rattle.std.specs.Prelude.{ℕ, suc, ◌<◌, ◌≡◌, Bool, eqb}
use Rattle.std.proofs.Math.Path.{refl, ap, subst}
use Rattle.std.proofs.Common.{sym, arith}
use mathlib.Core.List.{List, ◌++◌, append_assoc}
use Rattle.std.proofs.Math.Bool.{true, false}
use Rattle.prelude.specs.Bytes.{bytes}
use Rattle.prelude.specs.Choice.{pick}
use Rattle.charset.specs.Charset.{name}
use Rattle.sql.specs.Condition as sql
use Rattle.sql.specs.Condition.{Cond, print, check_id, check_ids}
use Rattle.sql.specs.Translators.{t_after, t_before, t_contains, t_disjoint, t_during, t_equals, t_finished_by, t_finishes, t_intersects, t_meets, t_met_by, t_overlapped_by, t_overlaps, t_started_by, t_starts, translate}
use Rattle.row.specs.Row.{Column, Found}
use Rattle.truth.specs.Grammar.{Atom, column, Ast, cmp, is_null, neg, conj, disj, value, eval}
use Rattle.time.specs.FilterTruth.{sign_of, cond_truth}
use Rattle.time.specs.ReadBackLaws.{Item, Prints, item, lift, bracket, not_bracket, and_join, or_join}
use Rattle.time.specs.AtomLaws.{AtomText, compare_item, sign_lt, sign_gt, sign_eq, sign_bang, quoted-name, is_not_null_item, not_null_item}

-- a condition over atoms
unfoldable pub cond_ast : (ℕ → Atom) → Cond → Ast
cond_ast a (sql.test i s j) = cmp (sign_of s) (a i) (a j)
cond_ast a (sql.is_not_null i) = neg (is_null (a i))
cond_ast a (sql.not_null i) = neg (is_null (a i))
cond_ast a (sql.and c d) = conj (cond_ast a c) (cond_ast a d)
cond_ast a (sql.or c d) = disj (cond_ast a c) (cond_ast a d)
cond_ast a (sql.not c) = neg (cond_ast a c)
cond_ast a (sql.brackets c) = cond_ast a c

-- it has the condition's truth
pub cond_eval : (cs : List Column) (a : ℕ → Atom) (v : ℕ → Found) → ((j : ℕ) → value cs (a j) ≡ v j) → (c : Cond) → eval cs (cond_ast a c) ≡ cond_truth v c
unfolding cond_ast cond_truth eval
cond_eval cs a v e (sql.test i s j) = rw (e i, e j) refl
cond_eval cs a v e (sql.is_not_null i) = rw (e i) refl
cond_eval cs a v e (sql.not_null i) = rw (e i) refl
cond_eval cs a v e (sql.and c d) = rw (cond_eval cs a v e c, cond_eval cs a v e d) refl
cond_eval cs a v e (sql.or c d) = rw (cond_eval cs a v e c, cond_eval cs a v e d) refl
cond_eval cs a v e (sql.not c) = rw (cond_eval cs a v e c) refl
cond_eval cs a v e (sql.brackets c) = cond_eval cs a v e c

-- What is known of the four ends: each is an atom, and one that is taken for a column is a name.
pub record Ends (end : ℕ → List ℕ) (a : ℕ → Atom) (column? : ℕ → Bool) : Type 0 where
  pub atoms : (j : ℕ) → j < 4 → AtomText (end j) (a j)
  pub names : (j : ℕ) → j < 4 → column? j ≡ true → (a j ≡ column (end j)) × (name (end j) ≡ true)

module _ {end : ℕ → List ℕ} {a : ℕ → Atom} {col : ℕ → Bool} (E : Ends end a col) where
  -- comparisons
  tested : (d : ℕ) (i j : ℕ) (s : sql.Sign) → i < 4 → j < 4 → Prints d 0 (print end (sql.test i s j)) (cond_ast a (sql.test i s j))
  unfolding print cond_ast
  tested d i j sql.lt p q = item (compare_item (E.atoms i p) sign_lt (E.atoms j q))
  tested d i j sql.gt p q = item (compare_item (E.atoms i p) sign_gt (E.atoms j q))
  tested d i j sql.eq p q = item (compare_item (E.atoms i p) sign_eq (E.atoms j q))
  tested d i j sql.ne p q = item (compare_item (E.atoms i p) sign_bang (E.atoms j q))

  -- guards
  guard-is : (d i : ℕ) → i < 4 → col i ≡ true → Prints d 0 (print end (sql.is_not_null i)) (cond_ast a (sql.is_not_null i))
  unfolding print cond_ast
  guard-is d i p c =
      let n = E.names i p c in
      let t = ap (λ l. bytes "\"" ++ l) (append_assoc (end i) (bytes "\"") (bytes " IS NOT NULL")) in
      let q = subst (λ (l : List ℕ). Item l (neg (is_null (column (end i))))) t (is_not_null_item (quoted-name (end i) n.1)) in
      item (subst (λ (b : Atom). Item (bytes "\"" ++ (end i ++ bytes "\" IS NOT NULL")) (neg (is_null b))) (sym n.0) q)

  guard_not : (d i : ℕ) → i < 4 → col i ≡ true → Prints d 0 (print end (sql.not_null i)) (cond_ast a (sql.not_null i))
  unfolding print cond_ast
  guard_not d i p c =
      let n = E.names i p c in
      let t = ap (λ l. bytes "\"" ++ l) (append_assoc (end i) (bytes "\"") (bytes " NOT NULL")) in
      let q = subst (λ (l : List ℕ). Item l (neg (is_null (column (end i))))) t (not_null_item (quoted-name (end i) n.1)) in
      item (subst (λ (b : Atom). Item (bytes "\"" ++ (end i ++ bytes "\" NOT NULL")) (neg (is_null b))) (sym n.0) q)

  -- check_ids: a guard in front of a test
  guarded : (d i : ℕ) (base : Cond) → i < 4 → Prints d 0 (print end base) (cond_ast a base)
      → col i ≡ true → Prints (suc d) 2 (print end (sql.and (sql.is_not_null i) (sql.brackets base))) (cond_ast a (sql.and (sql.is_not_null i) (sql.brackets base)))
  unfolding print cond_ast
  guarded d i base p b c = and_join {l = 0} {m = 0} (omega arith) (omega arith) (guard-is (suc d) i p c) (bracket {l = 0} (omega arith) b)

  -- a test without brackets of its own, at any depth
  Plain : Cond → Type 0
  Plain base = (d : ℕ) → Prints d 0 (print end base) (cond_ast a base)

  Printed : ℕ → ℕ → Cond → Type 0
  Printed d l c = Prints d l (print end c) (cond_ast a c)

  id_prints : (d i : ℕ) (base : Cond) → i < 4 → Plain base → Printed (suc d) 2 (check_id col i base)
  unfolding check_id Plain Printed
  id_prints d i base p b = go (col i) refl
    where
      go : (c : Bool) → col i ≡ c → Printed (suc d) 2 (pick c (sql.and (sql.is_not_null i) (sql.brackets base)) base)
      go true e = guarded d i base p (b d) e
      go false e = lift {l = 0} {m = 2} (omega arith) (b (suc d))

  ids_prints : (d i j : ℕ) (base : Cond) → i < 4 → j < 4 → Plain base → Printed (suc d) 2 (check_ids col i j base)
  unfolding check_ids Plain Printed print cond_ast
  ids_prints d i j base p q b = go (col i) (col j) refl refl
    where
      go : (c e : Bool) → col i ≡ c → col j ≡ e
          → Printed (suc d) 2 (pick c (pick e (sql.and (sql.and (sql.is_not_null i) (sql.not_null j)) (sql.brackets base)) (sql.and (sql.is_not_null i) (sql.brackets base)))
          (pick e (sql.and (sql.is_not_null j) (sql.brackets base)) base))
      go true true u v =
          and_join {l = 2} {m = 0} (omega arith) (omega arith)
          (and_join {l = 0} {m = 0} (omega arith) (omega arith) (guard-is (suc d) i p u) (guard_not (suc d) j q v))
          (bracket {l = 0} (omega arith) (b d))
      go true false u v = guarded d i base p (b d) u
      go false true u v = guarded d j base q (b d) v
      go false false u v = lift {l = 0} {m = 2} (omega arith) (b (suc d))

  plain : (i j : ℕ) (s : sql.Sign) → i < 4 → j < 4 → Plain (sql.test i s j)
  unfolding Plain
  plain i j s p q d = tested d i j s p q

  -- a test in brackets
  boxed : (d i j : ℕ) (s : sql.Sign) → i < 4 → j < 4 → Printed (suc d) 0 (sql.brackets (sql.test i s j))
  unfolding Printed print cond_ast
  boxed d i j s p q = bracket {l = 0} (omega arith) (tested d i j s p q)

  -- the shapes of the translators
  one : (i j : ℕ) (s : sql.Sign) → i < 4 → j < 4 → Printed 2 3 (sql.test i s j)
  unfolding Printed
  one i j s p q = lift {l = 0} {m = 3} (omega arith) (tested 2 i j s p q)

  two : (i j k l : ℕ) (s t : sql.Sign) → i < 4 → j < 4 → k < 4 → l < 4 → Printed 2 3 (sql.and (sql.brackets (sql.test i s j)) (sql.brackets (sql.test k t l)))
  unfolding Printed print cond_ast
  two i j k l s t p q u v = lift {l = 2} {m = 3} (omega arith) (and_join {l = 0} {m = 0} (omega arith) (omega arith) (boxed 1 i j s p q) (boxed 1 k l t u v))

  three : (i j k l m n : ℕ) (s t r : sql.Sign) → i < 4 → j < 4 → k < 4 → l < 4 → m < 4 → n < 4
      → Printed 2 3 (sql.and (sql.and (sql.brackets (sql.test i s j)) (sql.brackets (sql.test k t l))) (sql.brackets (sql.test m r n)))
  unfolding Printed print cond_ast
  three i j k l m n s t r p q u v x y =
      lift {l = 2} {m = 3} (omega arith)
      (and_join {l = 2} {m = 0} (omega arith) (omega arith)
      (and_join {l = 0} {m = 0} (omega arith) (omega arith) (boxed 1 i j s p q) (boxed 1 k l t u v)) (boxed 1 m n r x y))

  guarded_one : (i j k : ℕ) (s : sql.Sign) → i < 4 → j < 4 → k < 4 → Printed 2 3 (check_id col k (sql.test i s j))
  unfolding Printed
  guarded_one i j k s p q u = lift {l = 2} {m = 3} (omega arith) (id_prints 1 k (sql.test i s j) u (plain i j s p q))

  guarded_two : (i j k l : ℕ) (s : sql.Sign) → i < 4 → j < 4 → k < 4 → l < 4 → Printed 2 3 (check_ids col k l (sql.test i s j))
  unfolding Printed
  guarded_two i j k l s p q u v = lift {l = 2} {m = 3} (omega arith) (ids_prints 1 k l (sql.test i s j) u v (plain i j s p q))

  apart : (c d : Cond) → Printed 1 2 c → Printed 1 2 d → Printed 2 3 (sql.or (sql.brackets c) (sql.brackets d))
  unfolding Printed print cond_ast
  apart c d p q = or_join {l = 0} {m = 0} (omega arith) (omega arith) (bracket {l = 2} (omega arith) p) (bracket {l = 2} (omega arith) q)

  not_apart : (i j k l : ℕ) (s t : sql.Sign) → i < 4 → j < 4 → k < 4 → l < 4
      → Printed 2 3 (sql.not (sql.or (sql.brackets (sql.test i s j)) (sql.brackets (sql.test k t l))))
  unfolding Printed print cond_ast
  not_apart i j k l s t p q u v =
      lift {l = 1} {m = 3} (omega arith)
      (not_bracket {l = 3} (omega arith) (or_join {l = 0} {m = 0} (omega arith) (omega arith) (boxed 0 i j s p q) (boxed 0 k l t u v)))

  t_after_prints : (p q : Bool) → Printed 2 3 (t_after p q col)
  unfolding t_after
  t_after_prints false false = one 0 2 sql.gt (omega arith) (omega arith)
  t_after_prints false true = guarded_one 0 3 2 sql.gt (omega arith) (omega arith) (omega arith)
  t_after_prints true false = guarded_one 0 2 1 sql.gt (omega arith) (omega arith) (omega arith)
  t_after_prints true true = guarded_two 0 3 1 2 sql.gt (omega arith) (omega arith) (omega arith) (omega arith)

  t_before_prints : (p q : Bool) → Printed 2 3 (t_before p q col)
  unfolding t_before
  t_before_prints false false = one 0 2 sql.lt (omega arith) (omega arith)
  t_before_prints false true = guarded_one 0 2 3 sql.lt (omega arith) (omega arith) (omega arith)
  t_before_prints true false = guarded_one 1 2 0 sql.lt (omega arith) (omega arith) (omega arith)
  t_before_prints true true = guarded_two 1 2 0 3 sql.lt (omega arith) (omega arith) (omega arith) (omega arith)

  t_equals_prints : (p q : Bool) → Printed 2 3 (t_equals p q col)
  unfolding t_equals
  t_equals_prints false false = one 0 2 sql.eq (omega arith) (omega arith)
  t_equals_prints false true = two 0 2 0 3 sql.eq sql.eq (omega arith) (omega arith) (omega arith) (omega arith)
  t_equals_prints true false = two 0 2 1 2 sql.eq sql.eq (omega arith) (omega arith) (omega arith) (omega arith)
  t_equals_prints true true = two 0 2 1 3 sql.eq sql.eq (omega arith) (omega arith) (omega arith) (omega arith)

  t_intersects_prints : (p q : Bool) → Printed 2 3 (t_intersects p q col)
  unfolding t_intersects
  t_intersects_prints false false = one 0 2 sql.eq (omega arith) (omega arith)
  t_intersects_prints false true = not_apart 0 2 0 3 sql.lt sql.gt (omega arith) (omega arith) (omega arith) (omega arith)
  t_intersects_prints true false = not_apart 1 2 0 2 sql.lt sql.gt (omega arith) (omega arith) (omega arith) (omega arith)
  t_intersects_prints true true = not_apart 1 2 0 3 sql.lt sql.gt (omega arith) (omega arith) (omega arith) (omega arith)

  t_disjoint_prints : (p q : Bool) → Printed 2 3 (t_disjoint p q col)
  unfolding t_disjoint
  t_disjoint_prints false false = one 0 2 sql.ne (omega arith) (omega arith)
  t_disjoint_prints false true = apart _ _ (id_prints 0 3 (sql.test 0 sql.lt 2) (omega arith) (plain 0 2 sql.lt (omega arith) (omega arith))) (id_prints 0 2 (sql.test 0 sql.gt 3) (omega arith) (plain 0 3 sql.gt (omega arith) (omega arith)))
  t_disjoint_prints true false = apart _ _ (id_prints 0 0 (sql.test 1 sql.lt 2) (omega arith) (plain 1 2 sql.lt (omega arith) (omega arith))) (id_prints 0 1 (sql.test 0 sql.gt 2) (omega arith) (plain 0 2 sql.gt (omega arith) (omega arith)))
  t_disjoint_prints true true = apart _ _ (ids_prints 0 0 3 (sql.test 1 sql.lt 2) (omega arith) (omega arith) (plain 1 2 sql.lt (omega arith) (omega arith))) (ids_prints 0 1 2 (sql.test 0 sql.gt 3) (omega arith) (omega arith) (plain 0 3 sql.gt (omega arith) (omega arith)))

  t_contains_prints : (p q : Bool) → Printed 2 3 (t_contains p q col)
  unfolding t_contains
  t_contains_prints p q = two 0 2 1 3 sql.lt sql.gt (omega arith) (omega arith) (omega arith) (omega arith)

  t_during_prints : (p q : Bool) → Printed 2 3 (t_during p q col)
  unfolding t_during
  t_during_prints p q = two 0 2 1 3 sql.gt sql.lt (omega arith) (omega arith) (omega arith) (omega arith)

  t_finished_by_prints : (p q : Bool) → Printed 2 3 (t_finished_by p q col)
  unfolding t_finished_by
  t_finished_by_prints p q = two 0 2 1 3 sql.lt sql.eq (omega arith) (omega arith) (omega arith) (omega arith)

  t_finishes_prints : (p q : Bool) → Printed 2 3 (t_finishes p q col)
  unfolding t_finishes
  t_finishes_prints p q = two 0 2 1 3 sql.gt sql.eq (omega arith) (omega arith) (omega arith) (omega arith)

  t_meets_prints : (p q : Bool) → Printed 2 3 (t_meets p q col)
  unfolding t_meets
  t_meets_prints p q = guarded_two 1 2 0 3 sql.eq (omega arith) (omega arith) (omega arith) (omega arith)

  t_met_by_prints : (p q : Bool) → Printed 2 3 (t_met_by p q col)
  unfolding t_met_by
  t_met_by_prints p q = guarded_two 0 3 1 2 sql.eq (omega arith) (omega arith) (omega arith) (omega arith)

  t_overlapped_by_prints : (p q : Bool) → Printed 2 3 (t_overlapped_by p q col)
  unfolding t_overlapped_by
  t_overlapped_by_prints p q = three 0 2 0 3 1 3 sql.gt sql.lt sql.gt (omega arith) (omega arith) (omega arith) (omega arith) (omega arith) (omega arith)

  t_overlaps_prints : (p q : Bool) → Printed 2 3 (t_overlaps p q col)
  unfolding t_overlaps
  t_overlaps_prints p q = three 0 2 1 2 1 3 sql.lt sql.gt sql.lt (omega arith) (omega arith) (omega arith) (omega arith) (omega arith) (omega arith)

  t_started_by_prints : (p q : Bool) → Printed 2 3 (t_started_by p q col)
  unfolding t_started_by
  t_started_by_prints p q = two 0 2 1 3 sql.eq sql.gt (omega arith) (omega arith) (omega arith) (omega arith)

  t_starts_prints : (p q : Bool) → Printed 2 3 (t_starts p q col)
  unfolding t_starts
  t_starts_prints p q = two 0 2 1 3 sql.eq sql.lt (omega arith) (omega arith) (omega arith) (omega arith)

  -- every translator
  choice : (b : Bool) (f g : Bool → Bool → (ℕ → Bool) → Cond) (p q : Bool) → Printed 2 3 (f p q col) → Printed 2 3 (g p q col) → Printed 2 3 (pick b f g p q col)
  choice true f g p q x y = x
  choice false f g p q x y = y

  pub translated : (n : ℕ) (p q : Bool) → Prints 2 3 (print end (translate n p q col)) (cond_ast a (translate n p q col))
  unfolding translate Printed
  translated n p q =
      (choice (eqb n 26) _ _ p q (t_after_prints p q)
      (choice (eqb n 27) _ _ p q (t_before_prints p q)
      (choice (eqb n 28) _ _ p q (t_contains_prints p q)
      (choice (eqb n 29) _ _ p q (t_disjoint_prints p q)
      (choice (eqb n 30) _ _ p q (t_during_prints p q)
      (choice (eqb n 31) _ _ p q (t_equals_prints p q)
      (choice (eqb n 32) _ _ p q (t_finished_by_prints p q)
      (choice (eqb n 33) _ _ p q (t_finishes_prints p q)
      (choice (eqb n 34) _ _ p q (t_intersects_prints p q)
      (choice (eqb n 35) _ _ p q (t_meets_prints p q)
      (choice (eqb n 36) _ _ p q (t_met_by_prints p q)
      (choice (eqb n 37) _ _ p q (t_overlapped_by_prints p q)
      (choice (eqb n 38) _ _ p q (t_overlaps_prints p q)
      (choice (eqb n 39) _ _ p q (t_started_by_prints p q)
      (t_starts_prints p q)))))))))))))))
