-- Laws of templates: filling is done part by part, and a condition's template filled is the condition printed.
use Rattle.std.specs.Prelude.{ℕ, ◌+◌, ◌-◌, ◌<◌, ◌≡◌, refl, List, [], ◌∷◌, ◌++◌, Bool, true, false, T, ltb, leb, eqb}
use Rattle.std.proofs.Common.{ap, sym, ◌∙◌, append_assoc, append-nil, arith, ltb→lt, le-leb}
use Rattle.std.proofs.Math.Nat.{add-sub_cancel_left}
use Rattle.prelude.specs.Choice.{pick, both, between}
use Rattle.prelude.specs.Bytes.{bytes}
use Rattle.prelude.specs.Table.{both_left, both_right}
use Rattle.sql.specs.Condition.{Cond, Sign, test, is_not_null, not_null, and, or, not, brackets, lt, gt, eq, ne, print, print_sign, check_id, check_ids}
use Rattle.sql.specs.Template.{fill, digit_of, template_of, place, part_of, spelt}
use Rattle.sql.specs.declared.Part.{Part}
use Rattle.sql.specs.declared.Part.TheVariants as parts
use Rattle.sql.specs.Translators.{Translator, t_after, t_before, t_contains, t_disjoint, t_during, t_equals, t_finished_by, t_finishes, t_intersects, t_meets, t_met_by, t_overlapped_by, t_overlaps, t_started_by, t_starts, translate}

-- parts one after the other
pub spelt-append : (a b : List Part) → spelt (a ++ b) ≡ spelt a ++ spelt b
unfolding spelt
spelt-append [] b = refl
spelt-append (x ∷ a) b = ap (λ (l : List ℕ). part_of x ++ l) (spelt-append a b) ∙ sym (append_assoc (part_of x) (spelt a) (spelt b))

-- an end's part is its digit
pub digit-part : (p : Part) → place p < 4 → part_of p ≡ (48 + place p) ∷ []
unfolding part_of
digit-part parts.E0 h = refl
digit-part parts.E1 h = refl
digit-part parts.E2 h = refl
digit-part parts.E3 h = refl
digit-part parts.Open h = absurd (let v : ⊥ = omega arith in v)
digit-part parts.Close h = absurd (let v : ⊥ = omega arith in v)
digit-part parts.CloseBoth h = absurd (let v : ⊥ = omega arith in v)
digit-part parts.Greater h = absurd (let v : ⊥ = omega arith in v)
digit-part parts.Less h = absurd (let v : ⊥ = omega arith in v)
digit-part parts.Equal h = absurd (let v : ⊥ = omega arith in v)
digit-part parts.Unequal h = absurd (let v : ⊥ = omega arith in v)
digit-part parts.Quote h = absurd (let v : ⊥ = omega arith in v)
digit-part parts.IsNotNull h = absurd (let v : ⊥ = omega arith in v)
digit-part parts.IsNotNullQuote h = absurd (let v : ⊥ = omega arith in v)
digit-part parts.NotNull h = absurd (let v : ⊥ = omega arith in v)
digit-part parts.Or h = absurd (let v : ⊥ = omega arith in v)
digit-part parts.And h = absurd (let v : ⊥ = omega arith in v)
digit-part parts.Not h = absurd (let v : ⊥ = omega arith in v)
digit-part parts.Blank h = absurd (let v : ⊥ = omega arith in v)

pub fill-append : (slot : ℕ → List ℕ) (a b : List ℕ) → fill slot (a ++ b) ≡ fill slot a ++ fill slot b
unfolding fill
fill-append slot [] b = refl
fill-append slot (x ∷ a) b =
    ap (λ (l : List ℕ). pick (between 48 x 57) (slot (x - 48)) (x ∷ []) ++ l) (fill-append slot a b)
    ∙ sym (append_assoc (pick (between 48 x 57) (slot (x - 48)) (x ∷ [])) (fill slot a) (fill slot b))

-- a condition that names only the ends 0 to 3
abbrev pub small : Cond → Bool
small (test i s j) = both (ltb i 4) (ltb j 4)
small (is_not_null i) = ltb i 4
small (not_null i) = ltb i 4
small (and c d) = both (small c) (small d)
small (or c d) = both (small c) (small d)
small (not c) = small c
small (brackets c) = small c

-- an end's digit gives way to the end
pub end_fills : (slot : ℕ → List ℕ) (j : ℕ) (r : List ℕ) → T (ltb j 4) → fill slot ((48 + j) ∷ r) ≡ slot j ++ fill slot r
unfolding fill
end_fills slot j r t =
    let h : j < 4 = ltb→lt j 4 t in
    let a : leb 48 (48 + j) ≡ true = le-leb 48 (48 + j) (omega arith) in
    let b : leb (48 + j) 57 ≡ true = le-leb (48 + j) 57 (omega arith) in
    let d : 48 + j - 48 ≡ j = add-sub_cancel_left 48 j in
    simp (a, b, d)

-- a sign has no digit
sign_fills : (slot : ℕ → List ℕ) (s : Sign) (r : List ℕ) → fill slot (print_sign s ++ r) ≡ print_sign s ++ fill slot r
unfolding fill
sign_fills slot lt r = refl
sign_fills slot gt r = refl
sign_fills slot eq r = refl
sign_fills slot ne r = refl

-- after whatever follows
print_fills : (slot : ℕ → List ℕ) (c : Cond) (r : List ℕ) → T (small c) → fill slot (print digit_of c ++ r) ≡ print slot c ++ fill slot r
unfolding print fill
print_fills slot (test i s j) r t =
    end_fills slot i ((print_sign s ++ ((48 + j) ∷ [])) ++ r) (both_left (ltb i 4) (ltb j 4) t)
    ∙ ap (λ (l : List ℕ). slot i ++ fill slot l) (append_assoc (print_sign s) ((48 + j) ∷ []) r)
    ∙ ap (λ (l : List ℕ). slot i ++ l) (sign_fills slot s ((48 + j) ∷ r))
    ∙ ap (λ (l : List ℕ). slot i ++ (print_sign s ++ l)) (end_fills slot j r (both_right (ltb i 4) (ltb j 4) t))
    ∙ simp append_assoc
print_fills slot (is_not_null i) r t =
    ap (λ (l : List ℕ). bytes "\"" ++ l) (end_fills slot i (bytes "\" IS NOT NULL" ++ r) t)
    ∙ simp append_assoc
print_fills slot (not_null i) r t =
    ap (λ (l : List ℕ). bytes "\"" ++ l) (end_fills slot i (bytes "\" NOT NULL" ++ r) t)
    ∙ simp append_assoc
print_fills slot (and c d) r t =
    ap (λ (l : List ℕ). fill slot l) (append_assoc (print digit_of c) (bytes " AND " ++ print digit_of d) r)
    ∙ print_fills slot c (bytes " AND " ++ (print digit_of d ++ r)) (both_left (small c) (small d) t)
    ∙ ap (λ (l : List ℕ). print slot c ++ (bytes " AND " ++ l)) (print_fills slot d r (both_right (small c) (small d) t))
    ∙ simp append_assoc
print_fills slot (or c d) r t =
    ap (λ (l : List ℕ). fill slot l) (append_assoc (print digit_of c) (bytes " OR " ++ print digit_of d) r)
    ∙ print_fills slot c (bytes " OR " ++ (print digit_of d ++ r)) (both_left (small c) (small d) t)
    ∙ ap (λ (l : List ℕ). print slot c ++ (bytes " OR " ++ l)) (print_fills slot d r (both_right (small c) (small d) t))
    ∙ simp append_assoc
print_fills slot (not c) r t =
    ap (λ (l : List ℕ). bytes "NOT(" ++ fill slot l) (append_assoc (print digit_of c) (bytes ")") r)
    ∙ ap (λ (l : List ℕ). bytes "NOT(" ++ l) (print_fills slot c (bytes ")" ++ r) t)
    ∙ simp append_assoc
print_fills slot (brackets c) r t =
    ap (λ (l : List ℕ). bytes "(" ++ fill slot l) (append_assoc (print digit_of c) (bytes ")") r)
    ∙ ap (λ (l : List ℕ). bytes "(" ++ l) (print_fills slot c (bytes ")" ++ r) t)
    ∙ simp append_assoc

-- each translator names only the ends 0 to 3

join : (a b : Bool) → T a → T b → T (both a b)
join true b x y = y
join false b x y = x

one : (column : ℕ → Bool) (i : ℕ) (base : Cond) → T (ltb i 4) → T (small base) → T (small (check_id column i base))
unfolding check_id
one column i base h t = go (column i)
  where
    go : (b : Bool) → T (small (pick b (and (is_not_null i) (brackets base)) base))
    go true = join (ltb i 4) (small base) h t
    go false = t

two : (column : ℕ → Bool) (i j : ℕ) (base : Cond) → T (ltb i 4) → T (ltb j 4) → T (small base) → T (small (check_ids column i j base))
unfolding check_ids
two column i j base h g t = go (column i) (column j)
  where
    go : (b d : Bool) → T (small (pick b (pick d (and (and (is_not_null i) (not_null j)) (brackets base)) (and (is_not_null i) (brackets base))) (pick d (and (is_not_null j) (brackets base)) base)))
    go true true = join (both (ltb i 4) (ltb j 4)) (small base) (join (ltb i 4) (ltb j 4) h g) t
    go true false = join (ltb i 4) (small base) h t
    go false true = join (ltb j 4) (small base) g t
    go false false = t

Small : Translator → Type 0
Small f = (a b : Bool) (column : ℕ → Bool) → T (small (f a b column))

after : Small t_after
unfolding Small t_after
after false false column = tt
after false true column = one column 2 (test 0 gt 3) tt tt
after true false column = one column 1 (test 0 gt 2) tt tt
after true true column = two column 1 2 (test 0 gt 3) tt tt tt

before : Small t_before
unfolding Small t_before
before false false column = tt
before false true column = one column 3 (test 0 lt 2) tt tt
before true false column = one column 0 (test 1 lt 2) tt tt
before true true column = two column 0 3 (test 1 lt 2) tt tt tt

disjoint : Small t_disjoint
unfolding Small t_disjoint
disjoint false false column = tt
disjoint false true column =
    join (small (check_id column 3 (test 0 lt 2))) (small (check_id column 2 (test 0 gt 3))) (one column 3 (test 0 lt 2) tt tt) (one column 2 (test 0 gt 3) tt tt)
disjoint true false column =
    join (small (check_id column 0 (test 1 lt 2))) (small (check_id column 1 (test 0 gt 2))) (one column 0 (test 1 lt 2) tt tt) (one column 1 (test 0 gt 2) tt tt)
disjoint true true column =
    join (small (check_ids column 0 3 (test 1 lt 2))) (small (check_ids column 1 2 (test 0 gt 3))) (two column 0 3 (test 1 lt 2) tt tt tt) (two column 1 2 (test 0 gt 3) tt tt tt)

equals : Small t_equals
unfolding Small t_equals
equals false false column = tt
equals false true column = tt
equals true false column = tt
equals true true column = tt

intersects : Small t_intersects
unfolding Small t_intersects
intersects false false column = tt
intersects false true column = tt
intersects true false column = tt
intersects true true column = tt

either_of : (b : Bool) (f g : Translator) → Small f → Small g → Small (pick b f g)
either_of true f g x y = x
either_of false f g x y = y

contains : Small t_contains
unfolding Small t_contains
contains a b column = tt

during : Small t_during
unfolding Small t_during
during a b column = tt

finished_by : Small t_finished_by
unfolding Small t_finished_by
finished_by a b column = tt

finishes : Small t_finishes
unfolding Small t_finishes
finishes a b column = tt

overlapped_by : Small t_overlapped_by
unfolding Small t_overlapped_by
overlapped_by a b column = tt

overlaps : Small t_overlaps
unfolding Small t_overlaps
overlaps a b column = tt

started_by : Small t_started_by
unfolding Small t_started_by
started_by a b column = tt

starts : Small t_starts
unfolding Small t_starts
starts a b column = tt

meets : Small t_meets
unfolding Small t_meets
meets a b column = two column 0 3 (test 1 eq 2) tt tt tt

met_by : Small t_met_by
unfolding Small t_met_by
met_by a b column = two column 1 2 (test 0 eq 3) tt tt tt

all_small : (n : ℕ) → Small (translate n)
unfolding translate
all_small n =
    either_of (eqb n 26) t_after _ after
    (either_of (eqb n 27) t_before _ before
    (either_of (eqb n 28) t_contains _ contains
    (either_of (eqb n 29) t_disjoint _ disjoint
    (either_of (eqb n 30) t_during _ during
    (either_of (eqb n 31) t_equals _ equals
    (either_of (eqb n 32) t_finished_by _ finished_by
    (either_of (eqb n 33) t_finishes _ finishes
    (either_of (eqb n 34) t_intersects _ intersects
    (either_of (eqb n 35) t_meets _ meets
    (either_of (eqb n 36) t_met_by _ met_by
    (either_of (eqb n 37) t_overlapped_by _ overlapped_by
    (either_of (eqb n 38) t_overlaps _ overlaps
    (either_of (eqb n 39) t_started_by _ started_by
    starts)))))))))))))

-- the template of a temporal operator, filled
pub translate_fills : (slot : ℕ → List ℕ) (n : ℕ) (a b : Bool) (column : ℕ → Bool) → fill slot (template_of (translate n a b column)) ≡ print slot (translate n a b column)
unfolding Small fill
translate_fills slot n a b column =
    ap (λ (l : List ℕ). fill slot l) (sym (append-nil (template_of (translate n a b column))))
    ∙ print_fills slot (translate n a b column) [] (all_small n a b column)
    ∙ append-nil (print slot (translate n a b column))

-- printing looks at the ends 0 to 3 only
print-same : (f h : ℕ → List ℕ) → ((j : ℕ) → j < 4 → f j ≡ h j) → (c : Cond) → T (small c) → print f c ≡ print h c
unfolding print
print-same f h e (test i s j) t =
    ap (λ (l : List ℕ). l ++ (print_sign s ++ f j)) (e i (ltb→lt i 4 (both_left (ltb i 4) (ltb j 4) t)))
    ∙ ap (λ (l : List ℕ). h i ++ (print_sign s ++ l)) (e j (ltb→lt j 4 (both_right (ltb i 4) (ltb j 4) t)))
print-same f h e (is_not_null i) t =
    ap (λ (l : List ℕ). bytes "\"" ++ (l ++ bytes "\" IS NOT NULL")) (e i (ltb→lt i 4 t))
print-same f h e (not_null i) t = ap (λ (l : List ℕ). bytes "\"" ++ (l ++ bytes "\" NOT NULL")) (e i (ltb→lt i 4 t))
print-same f h e (and c d) t =
    ap (λ (l : List ℕ). l ++ (bytes " AND " ++ print f d)) (print-same f h e c (both_left (small c) (small d) t))
    ∙ ap (λ (l : List ℕ). print h c ++ (bytes " AND " ++ l)) (print-same f h e d (both_right (small c) (small d) t))
print-same f h e (or c d) t =
    ap (λ (l : List ℕ). l ++ (bytes " OR " ++ print f d)) (print-same f h e c (both_left (small c) (small d) t))
    ∙ ap (λ (l : List ℕ). print h c ++ (bytes " OR " ++ l)) (print-same f h e d (both_right (small c) (small d) t))
print-same f h e (not c) t = ap (λ (l : List ℕ). bytes "NOT(" ++ (l ++ bytes ")")) (print-same f h e c t)
print-same f h e (brackets c) t = ap (λ (l : List ℕ). bytes "(" ++ (l ++ bytes ")")) (print-same f h e c t)

pub translate-same : (f h : ℕ → List ℕ) → ((j : ℕ) → j < 4 → f j ≡ h j) → (n : ℕ) (a b : Bool) (column : ℕ → Bool)
    → print f (translate n a b column) ≡ print h (translate n a b column)
unfolding Small
translate-same f h e n a b column = print-same f h e (translate n a b column) (all_small n a b column)
