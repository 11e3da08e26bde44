-- A node's text by its parts: around its operand, around its operator, as a call, or its template filled.
use Prim.Native.Nat.{◌≤◌, ℕ, zero, suc, ◌+◌, ◌<◌}
use Rattle.prelude.specs.ChoiceLaws.{between_true}
use Rattle.prelude.specs.Bytes.{bytes}
use mathlib.Core.Path.{◌≡◌, refl, ap, sym, ◌∙◌}
use mathlib.Core.List.{List, [], ◌∷◌, ◌++◌, append_assoc, append-nil}
use mathlib.Core.Bool.{Bool, true, false}
use native.Mathlib.Omega.{arith}
use lib.ListN.{get_or}
use lib.Dec.{eqb}
use Rattle.prelude.specs.Choice.{pick, both, either, negated, between, some}
use Rattle.record.specs.Record.{le16, record_of}
use Rattle.op.specs.declared.Op.{Op}
use Rattle.op.specs.declared.Op.TheVariants.{Minus, Neg, CaseI, AccentI, STouches, SWithin, SOverlaps, IsLike, IsNotLike}
use Rattle.op.specs.Op.{op_number, one_of, is_array, is_spatial, is_temporal, is_nullable}
use Rattle.op.specs.OpLaws.{agree, number-below}
use Rattle.tree.specs.Kinds.{UNBOUNDED}
use Rattle.literal.specs.declared.Writing.{Writing}
use Rattle.tree.specs.Tree.{Tree, Trees, Settings, encode, null, unbounded, bool, num, str, date, timestamp, spatial, id, monadic, dyadic, function, array, interval, none, ◌then◌, kind_of}
use Rattle.tree.specs.Tests as trees
use Rattle.tree.specs.Tests.{first, second, is_interval, is_id, is_literal_or_id, is_monadic, is_items, start_of, stop_of, ends_of, columns_of, by_operator}
use Rattle.tree.specs.Placed.{is_between}
use Rattle.literal.specs.Literal.{alone, second_end, start_slot, stop_slot, quoted, collate, null_text}
use Rattle.literal.specs.LiteralLaws.{start_alone}
use Rattle.sql.specs.Translators.{translate}
use Rattle.sql.specs.Template.{fill, template_of}
use Rattle.sql.specs.TemplateLaws.{translate_fills, translate-same}
use Rattle.text.specs.Text.{bare, reduce_precision, monadic_text, reduces, end_text, start_text, stop_text, bound_text, dyadic_text, text, children, texts}
use Rattle.spelling.specs.Spelling.{word}
use Rattle.text.specs.EndWords.{slot}
use Rattle.text.specs.FormWords.{twin, twin_of, under_of, operand_of, items_of, before_text, behind_text, reduced_text, infix_text, left_bare, right_bare}
use Rattle.settings.specs.FlagWords.{collation_flags}
use Rattle.text.specs.LeafWords.{name_of}
use Rattle.tree.specs.TestsLaws.{OfKind, of_array, of_interval, kind-is, interval_is}
use borrow.Author.Tests.{eqb-true}

-- Classes of operators, by number.

pub is-between : (o : Op) → is_between o ≡ between 47 (op_number o) 48
unfolding is_between some
is-between o = agree (λ p. is_between p) (λ p. between 47 (op_number p) 48) tt o

pub is_spatial_lem : (o : Op) → is_spatial o ≡ between 18 (op_number o) 25
unfolding is_spatial some
is_spatial_lem o = agree (λ p. is_spatial p) (λ p. between 18 (op_number p) 25) tt o

pub is_temporal_lem : (o : Op) → is_temporal o ≡ between 26 (op_number o) 40
unfolding is_temporal some
is_temporal_lem o = agree (λ p. is_temporal p) (λ p. between 26 (op_number p) 40) tt o

is_array_lem : (o : Op) → is_array o ≡ between 41 (op_number o) 44
unfolding is_array some
is_array_lem o = agree (λ p. is_array p) (λ p. between 41 (op_number p) 44) tt o

is_like : (o : Op) → one_of o (IsLike ∷ IsNotLike ∷ []) ≡ between 45 (op_number o) 46
unfolding some
is_like o = agree (λ p. one_of p (IsLike ∷ IsNotLike ∷ [])) (λ p. between 45 (op_number p) 46) tt o

is_nullable_lem : (o : Op) → is_nullable o ≡ between 51 (op_number o) 52
unfolding is_nullable some
is_nullable_lem o = agree (λ p. is_nullable p) (λ p. between 51 (op_number p) 52) tt o

pub reduce_precision_lem : (o : Op) → one_of o (SWithin ∷ SOverlaps ∷ STouches ∷ []) ≡ between 21 (op_number o) 23
unfolding some
reduce_precision_lem o = agree (λ p. one_of p (SWithin ∷ SOverlaps ∷ STouches ∷ [])) (λ p. between 21 (op_number p) 23) tt o

is_negation : (o : Op) → one_of o (Neg ∷ Minus ∷ []) ≡ either (eqb (op_number o) 7) (eqb (op_number o) 1)
unfolding some
is_negation o = agree (λ p. one_of p (Neg ∷ Minus ∷ [])) (λ p. either (eqb (op_number p) 7) (eqb (op_number p) 1)) tt o

is_casei : (o : Op) → one_of o (CaseI ∷ []) ≡ eqb (op_number o) 16
unfolding some
is_casei o = agree (λ p. one_of p (CaseI ∷ [])) (λ p. eqb (op_number p) 16) tt o

-- Monadic nodes.

op_at_lem : (p : Op) (t : Tree) → le16 (encode (monadic p t)) 6 ≡ op_number p
unfolding encode record_of
op_at_lem p t = let h = number-below p in omega arith

inner_of : (t : Tree) (k : ℕ) (o : Op) → k ≡ op_number o → is_monadic o t ≡ pick (eqb (kind_of t) 9) (eqb (le16 (encode t) 6) k) false
unfolding is_monadic encode record_of by_operator
inner_of null k o e = refl
inner_of unbounded k o e = refl
inner_of (bool b) k o e = refl
inner_of (num m s) k o e = refl
inner_of (str f s) k o e = refl
inner_of (date y m d) k o e = refl
inner_of (timestamp y m d h i s) k o e = refl
inner_of (spatial n s) k o e = refl
inner_of (id s) k o e = refl
inner_of (monadic p t) k o e =
    let a : le16 (encode (monadic p t)) 6 ≡ op_number p = op_at_lem p t in
    rw (a, e) refl
inner_of (dyadic p t u) k o e = refl
inner_of (function n ts) k o e = refl
inner_of (array ts) k o e = refl
inner_of (interval t u) k o e = refl

pub is-twin : (o : Op) (t : Tree) → twin o t ≡ twin_of (op_number o) (kind_of t) (le16 (encode t) 6)
unfolding twin
is-twin o t =
    rw (is_nullable_lem o, is_negation o, is_casei o, inner_of t 17 AccentI refl, inner_of t 16 CaseI refl)
    (go (between 51 (op_number o) 52) (eqb (op_number o) 7) (eqb (op_number o) 1) (eqb (op_number o) 16) (eqb (kind_of t) 9) (eqb (le16 (encode t) 6) 17) (eqb (le16 (encode t) 6) 16))
  where
    go : (a b c d e f h : Bool) → pick a false (pick (either b c) false (pick d (pick e f false) (pick e h false))) ≡ pick a false (pick b false (pick c false (pick e (pick d f h) false)))
    go true b c d e f h = refl
    go false true c d e f h = refl
    go false false true d e f h = refl
    go false false false true true f h = refl
    go false false false true false f h = refl
    go false false false false true f h = refl
    go false false false false false f h = refl

-- the operand's text under a twin
under_text : (writing : Writing) (g : Settings) (o : Op) (t : Tree) → is_monadic o t ≡ true → get_or (children writing g t) 0 [] ≡ text writing g (under_of t)
unfolding is_monadic children under_of by_operator first
under_text writing g o null e = absurd (let z : ◌≡◌ {A = ℕ} 0 1 = cc in let v : ⊥ = omega arith in v)
under_text writing g o unbounded e = absurd (let z : ◌≡◌ {A = ℕ} 0 1 = cc in let v : ⊥ = omega arith in v)
under_text writing g o (bool b) e = absurd (let z : ◌≡◌ {A = ℕ} 0 1 = cc in let v : ⊥ = omega arith in v)
under_text writing g o (num m s) e = absurd (let z : ◌≡◌ {A = ℕ} 0 1 = cc in let v : ⊥ = omega arith in v)
under_text writing g o (str f s) e = absurd (let z : ◌≡◌ {A = ℕ} 0 1 = cc in let v : ⊥ = omega arith in v)
under_text writing g o (date y m d) e = absurd (let z : ◌≡◌ {A = ℕ} 0 1 = cc in let v : ⊥ = omega arith in v)
under_text writing g o (timestamp y m d h i s) e = absurd (let z : ◌≡◌ {A = ℕ} 0 1 = cc in let v : ⊥ = omega arith in v)
under_text writing g o (spatial n s) e = absurd (let z : ◌≡◌ {A = ℕ} 0 1 = cc in let v : ⊥ = omega arith in v)
under_text writing g o (id s) e = absurd (let z : ◌≡◌ {A = ℕ} 0 1 = cc in let v : ⊥ = omega arith in v)
under_text writing g o (monadic p t) e = refl
under_text writing g o (dyadic p t u) e = absurd (let z : ◌≡◌ {A = ℕ} 0 1 = cc in let v : ⊥ = omega arith in v)
under_text writing g o (function n ts) e = absurd (let z : ◌≡◌ {A = ℕ} 0 1 = cc in let v : ⊥ = omega arith in v)
under_text writing g o (array ts) e = absurd (let z : ◌≡◌ {A = ℕ} 0 1 = cc in let v : ⊥ = omega arith in v)
under_text writing g o (interval t u) e = absurd (let z : ◌≡◌ {A = ℕ} 0 1 = cc in let v : ⊥ = omega arith in v)

-- what stands before the operand, the operand, and what stands after it
pub monadic_parts : (writing : Writing) (g : Settings) (o : Op) (t : Tree) → text writing g (monadic o t)
    ≡ before_text (op_number o) (word o) (is_literal_or_id t) ++ (text writing g (operand_of o t) ++ behind_text g (op_number o) (word o) (is_literal_or_id t) (twin o t))
unfolding text monadic_text operand_of twin before_text behind_text
monadic_parts writing g o t =
    rw (is_nullable_lem o, is_negation o, is_casei o)
    (go (between 51 (op_number o) 52) (either (eqb (op_number o) 7) (eqb (op_number o) 1)) (eqb (op_number o) 16) (is_monadic AccentI t) (is_monadic CaseI t) (is_literal_or_id t) (under_text writing g AccentI t) (under_text writing g CaseI t))
  where
    go : (a b c m n l : Bool) → (m ≡ true → get_or (children writing g t) 0 [] ≡ text writing g (under_of t)) → (n ≡ true → get_or (children writing g t) 0 [] ≡ text writing g (under_of t))
        → pick a (bare l (text writing g t) ++ (bytes " " ++ word o)) (pick b (word o ++ (bytes " " ++ bare l (text writing g t)))
        (pick c (pick m (get_or (children writing g t) 0 [] ++ collate g.cai) (text writing g t ++ collate g.ci)) (pick n (get_or (children writing g t) 0 [] ++ collate g.cai) (text writing g t ++ collate g.ai))))
        ≡ pick a (pick l [] (bytes "(")) (pick b (word o ++ pick l (bytes " ") (bytes " (")) [])
        ++ (text writing g (pick (pick a false (pick b false (pick c m n))) (under_of t) t)
        ++ pick a (pick l (bytes " ") (bytes ") ") ++ word o) (pick b (pick l [] (bytes ")")) (collate (name_of g (pick (pick a false (pick b false (pick c m n))) 3 (pick c 1 2))))))
    go true b c m n true h k = refl
    go true b c m n false h k = simp append_assoc
    go false true c m n true h k = simp (append_assoc, append-nil)
    go false true c m n false h k = simp append_assoc
    go false false true true n l h k = ap (λ (x : List ℕ). x ++ collate g.cai) (h refl)
    go false false true false n l h k = refl
    go false false false m true l h k = ap (λ (x : List ℕ). x ++ collate g.cai) (k refl)
    go false false false m false l h k = refl

-- the same, by the tests of the code
module _ (op : ℕ) (w : List ℕ) (b : Bool) where
  pub before_nullable : between 51 op 52 ≡ true → pick b [] (bytes "(") ≡ before_text op w b
  unfolding before_text
  before_nullable p = simp p

  pub before_sign : between 51 op 52 ≡ false → either (eqb op 7) (eqb op 1) ≡ true → w ++ pick b (bytes " ") (bytes " (") ≡ before_text op w b
  unfolding before_text
  before_sign p q = simp (p, q)

  pub before_none : between 51 op 52 ≡ false → either (eqb op 7) (eqb op 1) ≡ false → [] ≡ before_text op w b
  unfolding before_text
  before_none p q = simp (p, q)

  module _ (g : Settings) (d : Bool) where
    pub behind_nullable : between 51 op 52 ≡ true → pick b (bytes " ") (bytes ") ") ++ w ≡ behind_text g op w b d
    unfolding behind_text
    behind_nullable p = simp p

    pub behind_sign : between 51 op 52 ≡ false → either (eqb op 7) (eqb op 1) ≡ true → pick b [] (bytes ")") ≡ behind_text g op w b d
    unfolding behind_text
    behind_sign p q = simp (p, q)

    pub behind_collate : between 51 op 52 ≡ false → either (eqb op 7) (eqb op 1) ≡ false → (c : ℕ) → c ≡ collation_flags op d → collate (name_of g c) ≡ behind_text g op w b d
    unfolding behind_text
    behind_collate p q c e = ap (λ (x : ℕ). collate (name_of g x)) e ∙ simp (p, q)

-- Dyadic nodes.

never : {A : Type 0} → ◌≡◌ {A = Bool} true false → A
never e = absurd (let z : ◌≡◌ {A = ℕ} 0 1 = cc in let v : ⊥ = omega arith in v)

-- what lies in a range lies outside of each range that does not meet it
pub apart : (a n b c d : ℕ) → between a n b ≡ true → (c ≤ b → a ≤ d → ⊥) → between c n d ≡ false
apart a n b c d e h = go (between c n d) refl
  where
    go : (z : Bool) → between c n d ≡ z → z ≡ false
    go true w =
        let r = between_true a n b e in
        let q = between_true c n d w in
        absurd (h (let v : c ≤ b = omega (arith, r.1, q.0) in v) (let v : a ≤ d = omega (arith, r.0, q.1) in v))
    go false w = refl

first_item : (writing : Writing) (g : Settings) (ts : Trees) → get_or (texts writing g ts) 0 null_text ≡ text writing g (first ts)
unfolding texts first text
first_item writing g none = refl
first_item writing g (t then ts) = refl

second_item : (writing : Writing) (g : Settings) (ts : Trees) → get_or (texts writing g ts) 1 null_text ≡ text writing g (second ts)
unfolding texts first second text
second_item writing g none = refl
second_item writing g (t then none) = refl
second_item writing g (t then (u then ts)) = refl

-- a bound: an array's item, or Null where there is no array
bound_0 : (writing : Writing) (g : Settings) (u : Tree) → bound_text u (children writing g u) 0 ≡ text writing g (first (items_of u))
unfolding children items_of is_items first text
bound_0 writing g u = go (is_items u) refl
  where
    there : (t : Tree) → OfKind 12 t → get_or (children writing g t) 0 null_text ≡ text writing g (first (trees.children t))
    there t (of_array ts) = first_item writing g ts

    go : (b : Bool) → is_items u ≡ b → pick b (get_or (children writing g u) 0 null_text) null_text ≡ text writing g (first (pick b (trees.children u) none))
    go true e = there u (kind-is 12 u (eqb-true (kind_of u) 12 e))
    go false e = refl

bound_1 : (writing : Writing) (g : Settings) (u : Tree) → bound_text u (children writing g u) 1 ≡ text writing g (second (items_of u))
unfolding children items_of is_items first second text
bound_1 writing g u = go (is_items u) refl
  where
    there : (t : Tree) → OfKind 12 t → get_or (children writing g t) 1 null_text ≡ text writing g (second (trees.children t))
    there t (of_array ts) = second_item writing g ts

    go : (b : Bool) → is_items u ≡ b → pick b (get_or (children writing g u) 1 null_text) null_text ≡ text writing g (second (pick b (trees.children u) none))
    go true e = there u (kind-is 12 u (eqb-true (kind_of u) 12 e))
    go false e = refl

-- an end: an interval's child, or of an instant itself and Null
start_text_lem : (writing : Writing) (g : Settings) (t : Tree) → start_text writing t (text writing g t) (children writing g t) ≡ end_text writing alone (start_of t) (text writing g (start_of t))
unfolding children start_of first
start_text_lem writing g t =
    ap (λ (x : List ℕ). end_text writing (start_slot (is_interval t)) (start_of t) x) (go (is_interval t) refl)
    ∙ ap (λ (x : List ℕ). pick (eqb (kind_of (start_of t)) UNBOUNDED) (quoted x) (text writing g (start_of t))) (start_alone writing (is_interval t))
  where
    there : (t : Tree) → OfKind 13 t → get_or (children writing g t) 0 [] ≡ text writing g (first (trees.children t))
    there t (of_interval a b) = refl

    go : (b : Bool) → is_interval t ≡ b → pick b (get_or (children writing g t) 0 []) (text writing g t) ≡ text writing g (pick b (first (trees.children t)) t)
    go true e = there t (interval_is t e)
    go false e = refl

-- a second end that is no Interval's is Null, which every slot writes alike
stop_text_lem : (writing : Writing) (g : Settings) (t : Tree) → stop_text writing t (children writing g t) ≡ end_text writing second_end (stop_of t) (text writing g (stop_of t))
unfolding children stop_of first second text
stop_text_lem writing g t = go (is_interval t) refl
  where
    there : (t : Tree) → OfKind 13 t → get_or (children writing g t) 1 [] ≡ text writing g (second (trees.children t))
    there t (of_interval a b) = refl

    go : (b : Bool) → is_interval t ≡ b
        → end_text writing (stop_slot b) (pick b (second (trees.children t)) null) (pick b (get_or (children writing g t) 1 []) null_text)
        ≡ end_text writing second_end (pick b (second (trees.children t)) null) (text writing g (pick b (second (trees.children t)) null))
    go true e = ap (λ (x : List ℕ). end_text writing second_end (second (trees.children t)) x) (there t (interval_is t e))
    go false e = refl

module _ (writing : Writing) (g : Settings) (o : Op) (t u : Tree) where
  pub between-parts : is_between o ≡ true → text writing g (dyadic o t u) ≡ text writing g t ++ (infix_text true (word o) true ++ (text writing g (first (items_of u)) ++ ((bytes " AND ") ++ text writing g (second (items_of u)))))
  unfolding text dyadic_text infix_text
  between-parts p = simp (p, append_assoc, bound_0 writing g u, bound_1 writing g u)

  module _ (p : is_between o ≡ false) where
    pub spatial_parts : is_spatial o ≡ true → (a b : Bool) → a ≡ both (between 21 (op_number o) 23) (both (is_id t) (negated (is_id u))) → b ≡ both (between 21 (op_number o) 23) (both (is_id u) (negated (is_id t)))
        → text writing g (dyadic o t u)
        ≡ word o ++ (pick a (bytes "(ST_ReducePrecision(") (bytes "(")
        ++ (text writing g t ++ (pick a (reduced_text g.precision) []
        ++ (pick b (bytes ", ST_ReducePrecision(") (bytes ", ")
        ++ (text writing g u ++ (pick b (reduced_text g.precision) [] ++ bytes ")"))))))
    unfolding text dyadic_text reduces reduce_precision
    spatial_parts q a b x y = rw (p, q, reduce_precision_lem o, ← x, ← y) (go a b)
      where
        go : (a b : Bool) → word o ++ (bytes "(" ++ (pick a (reduce_precision g.precision (text writing g t)) (text writing g t) ++ (bytes ", " ++ (pick b (reduce_precision g.precision (text writing g u)) (text writing g u) ++ bytes ")"))))
            ≡ word o ++ (pick a (bytes "(ST_ReducePrecision(") (bytes "(")
            ++ (text writing g t ++ (pick a (reduced_text g.precision) []
            ++ (pick b (bytes ", ST_ReducePrecision(") (bytes ", ")
            ++ (text writing g u ++ (pick b (reduced_text g.precision) [] ++ bytes ")"))))))
        go true true = simp append_assoc
        go true false = simp append_assoc
        go false true = simp append_assoc
        go false false = refl

    module _ (q : is_spatial o ≡ false) where
      pub temporal_fills : is_temporal o ≡ true → text writing g (dyadic o t u) ≡ fill (slot writing g (ends_of t u)) (template_of (translate (op_number o) (is_interval t) (is_interval u) (columns_of t u)))
      unfolding text dyadic_text ends_of
      temporal_fills r =
          rw (p, q, r)
          (translate-same _ _ ends_same (op_number o) (is_interval t) (is_interval u) (columns_of t u)
          ∙ sym (translate_fills (slot writing g (ends_of t u)) (op_number o) (is_interval t) (is_interval u) (columns_of t u)))
        where
          ends_same : (j : ℕ) → j < 4 → get_or (start_text writing t (text writing g t) (children writing g t) ∷ stop_text writing t (children writing g t) ∷ start_text writing u (text writing g u) (children writing g u) ∷ stop_text writing u (children writing g u) ∷ []) j [] ≡ slot writing g (ends_of t u) j
          ends_same zero h = start_text_lem writing g t
          ends_same (suc zero) h = stop_text_lem writing g t
          ends_same (suc (suc zero)) h = start_text_lem writing g u
          ends_same (suc (suc (suc zero))) h = stop_text_lem writing g u
          ends_same (suc (suc (suc (suc j)))) h = absurd (let v : ⊥ = omega arith in v)

      pub infix_parts : is_temporal o ≡ false → text writing g (dyadic o t u)
          ≡ pick (left_bare (op_number o) t) [] (bytes "(") ++ (text writing g t ++ (infix_text (left_bare (op_number o) t) (word o) (right_bare (op_number o) u) ++ (text writing g u ++ pick (right_bare (op_number o) u) [] (bytes ")"))))
      unfolding text dyadic_text left_bare right_bare infix_text
      infix_parts r = rw (p, q, r, is_array_lem o, is_like o) (go (between 41 (op_number o) 44) (between 45 (op_number o) 46) (is_literal_or_id t) (is_literal_or_id u))
        where
          go : (x y c d : Bool)
              → pick x (text writing g t ++ (bytes " " ++ (word o ++ (bytes " " ++ text writing g u)))) (pick y (bare c (text writing g t) ++ (bytes " " ++ (word o ++ (bytes " " ++ bare false (text writing g u))))) (bare c (text writing g t) ++ (bytes " " ++ (word o ++ (bytes " " ++ bare d (text writing g u))))))
              ≡ pick (pick x true c) [] (bytes "(") ++ (text writing g t ++ ((pick (pick x true c) (bytes " ") (bytes ") ") ++ (word o ++ pick (pick x true (pick y false d)) (bytes " ") (bytes " ("))) ++ (text writing g u ++ pick (pick x true (pick y false d)) [] (bytes ")"))))
          go true y c d = simp (append_assoc, append-nil)
          go false true true d = simp append_assoc
          go false true false d = simp append_assoc
          go false false true true = simp (append_assoc, append-nil)
          go false false true false = simp append_assoc
          go false false false true = simp (append_assoc, append-nil)
          go false false false false = simp append_assoc
