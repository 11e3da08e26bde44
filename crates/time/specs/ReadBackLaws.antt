-- What is printed as a condition reads back as that condition. `Prints d l s x` says that the text s is made as the grammar wants it at the
-- level l (0 test, 1 NOT, 2 AND, 3 OR), with at most d brackets inside one another; by induction on it the grammar reads s as x.
use Rattle.std.specs.Prelude.{ℕ, zero, suc, ◌+◌, ◌-◌, ◌*◌, ◌≤◌, ◌≡◌, refl, List, [], ◌∷◌, ◌++◌, false, length}
use Rattle.std.proofs.Common.{sym, ap, ◌∙◌, append_assoc, append-nil, arith, length-append, ne_eqb}
use Rattle.prelude.specs.Bytes.{bytes}
use Rattle.lexer.specs.declared.Kind.{Kind}
use Rattle.lexer.specs.declared.Kind.TheVariants.{End as END, Open as OPEN, Close as CLOSE, Not as NOT, And as AND, Or as OR}
use Rattle.lexer.specs.Lex.{Token, tokens, tokens_in, kind, rest, lexeme, run, word_kind, sign_kind, sign_more}
use Rattle.lexer.specs.LexLaws.{is_same, is_other, is-apart, tokens-space, tokens_one}
use Rattle.truth.specs.Grammar.{Ast, neg, conj, disj, got, is_comparison, simple, or_e, or_more, and_e, and_more, not_e, test}
use Rattle.truth.specs.Reading.{parse, bracket_limit}
use Rattle.prelude.specs.Choice.{some}
use Rattle.charset.specs.Charset.{letter, digit, name_start, name_byte}
use Rattle.word.specs.Case.{upper}

-- what may stand after a word: nothing, a space or a closing bracket
pub data Break : List ℕ → Type 0 where
  at_end : Break []
  at_space : (k : List ℕ) → Break (bytes " " ++ k)
  at_close : (k : List ℕ) → Break (bytes ")" ++ k)

-- and after a test: no sign of comparison either
pub record Boundary (k : List ℕ) : Type 0 where
  pub breaks : Break k
  pub calm : is_comparison (kind (tokens k)) ≡ false

abbrev pub tok : Kind → List ℕ → Token
tok k b = record { kind = k; body = b }

-- signs and words
open_token : (k : List ℕ) → tokens (bytes "(" ++ k) ≡ tok OPEN (bytes "(") ∷ tokens k
unfolding lexeme name_start letter sign_kind sign_more some
open_token k = tokens_one 40 k OPEN 0 refl refl

close_token : (k : List ℕ) → tokens (bytes ")" ++ k) ≡ tok CLOSE (bytes ")") ∷ tokens k
unfolding lexeme name_start letter sign_kind sign_more some
close_token k = tokens_one 41 k CLOSE 0 refl refl

and_token : (k : List ℕ) → tokens (bytes " AND " ++ k) ≡ tok AND (bytes "AND") ∷ tokens k
unfolding lexeme name_start name_byte letter digit run word_kind upper
and_token k = tokens-space _ ∙ tokens_one 65 (bytes "ND " ++ k) AND 2 refl refl ∙ ap (λ l. tok AND (bytes "AND") ∷ l) (tokens-space k)

or_token : (k : List ℕ) → tokens (bytes " OR " ++ k) ≡ tok OR (bytes "OR") ∷ tokens k
unfolding lexeme name_start name_byte letter digit run word_kind upper
or_token k = tokens-space _ ∙ tokens_one 79 (bytes "R " ++ k) OR 1 refl refl ∙ ap (λ l. tok OR (bytes "OR") ∷ l) (tokens-space k)

not_open_tokens : (k : List ℕ) → tokens (bytes "NOT(" ++ k) ≡ tok NOT (bytes "NOT") ∷ (tok OPEN (bytes "(") ∷ tokens k)
unfolding lexeme name_start name_byte letter digit run word_kind upper
not_open_tokens k = tokens_one 78 (bytes "OT(" ++ k) NOT 2 refl refl ∙ ap (λ l. tok NOT (bytes "NOT") ∷ l) (open_token k)

not_token_lem : (k : List ℕ) → tokens (bytes "NOT " ++ k) ≡ tok NOT (bytes "NOT") ∷ tokens k
unfolding lexeme name_start name_byte letter digit run word_kind upper
not_token_lem k = tokens_one 78 (bytes "OT " ++ k) NOT 2 refl refl ∙ ap (λ l. tok NOT (bytes "NOT") ∷ l) (tokens-space k)

-- a test without brackets, whatever stands after it
pub record Item (s : List ℕ) (x : Ast) : Type 0 where
  pub no_not : (k : List ℕ) → Boundary k → kind (tokens (s ++ k)) ≡ NOT → ⊥
  pub no_open : (k : List ℕ) → Boundary k → kind (tokens (s ++ k)) ≡ OPEN → ⊥
  pub reads : (k : List ℕ) → Boundary k → simple (tokens (s ++ k)) ≡ got x (tokens k)

pub data Prints : ℕ → ℕ → List ℕ → Ast → Type 0 where
  item : {d : ℕ} {s : List ℕ} {x : Ast} → Item s x → Prints d 0 s x
  lift : {d l m : ℕ} {s : List ℕ} {x : Ast} → l ≤ m → Prints d l s x → Prints d m s x
  bracket : {d l : ℕ} {s : List ℕ} {x : Ast} → l ≤ 3 → Prints d l s x → Prints (suc d) 0 (bytes "(" ++ (s ++ bytes ")")) x
  not_bracket : {d l : ℕ} {s : List ℕ} {x : Ast} → l ≤ 3 → Prints d l s x → Prints (suc d) 1 (bytes "NOT(" ++ (s ++ bytes ")")) (neg x)
  not_word : {d l : ℕ} {s : List ℕ} {x : Ast} → l ≤ 1 → Prints d l s x → Prints d 1 (bytes "NOT " ++ s) (neg x)
  and_join : {d l m : ℕ} {s t : List ℕ} {x y : Ast} → l ≤ 2 → m ≤ 1 → Prints d l s x → Prints d m t y
      → Prints d 2 (s ++ (bytes " AND " ++ t)) (conj x y)
  or_join : {d l m : ℕ} {s t : List ℕ} {x y : Ast} → l ≤ 3 → m ≤ 2 → Prints d l s x → Prints d m t y
      → Prints d 3 (s ++ (bytes " OR " ++ t)) (disj x y)

end_boundary : Boundary []
unfolding kind tokens tokens_in some
end_boundary = record { breaks = at_end; calm = refl }

close_boundary : (k : List ℕ) → Boundary (bytes ")" ++ k)
unfolding kind some
close_boundary k = record { breaks = at_close k; calm = rw (close_token k) refl }

and_boundary : (k : List ℕ) → Boundary (bytes " AND " ++ k)
unfolding kind some
and_boundary k = record { breaks = at_space (bytes "AND " ++ k); calm = rw (and_token k) refl }

or_boundary : (k : List ℕ) → Boundary (bytes " OR " ++ k)
unfolding kind some
or_boundary k = record { breaks = at_space (bytes "OR " ++ k); calm = rw (or_token k) refl }

-- Steps of the grammar.

and_stop : (m d : ℕ) (x : Ast) (ts : List Token) → 1 ≤ m → (kind ts ≡ AND → ⊥) → and_more m d x ts ≡ got x ts
unfolding or_e
and_stop zero d x ts h e = absurd (omega arith)
and_stop (suc m) d x ts h e = rw (is_other (kind ts) AND e, and_more)

or_stop : (m d : ℕ) (x : Ast) (ts : List Token) → 1 ≤ m → (kind ts ≡ OR → ⊥) → or_more m d x ts ≡ got x ts
unfolding or_e
or_stop zero d x ts h e = absurd (omega arith)
or_stop (suc m) d x ts h e = rw (is_other (kind ts) OR e, or_more)

and_go : (m d : ℕ) (x y : Ast) (t : Token) (ts r : List Token) → t.kind ≡ AND → not_e m d ts ≡ got y r → and_more (suc m) d x (t ∷ ts) ≡ and_more m d (conj x y) r
unfolding or_e kind rest
and_go m d x y t ts r e q = rw (is_same t.kind AND e, and_more) (rw q refl)

or_go : (m d : ℕ) (x y : Ast) (t : Token) (ts r : List Token) → t.kind ≡ OR → and_e m d ts ≡ got y r → or_more (suc m) d x (t ∷ ts) ≡ or_more m d (disj x y) r
unfolding or_e kind rest
or_go m d x y t ts r e q = rw (is_same t.kind OR e, or_more) (rw q refl)

not_go : (n d : ℕ) (x : Ast) (t : Token) (ts r : List Token) → t.kind ≡ NOT → not_e n d ts ≡ got x r → not_e (suc n) d (t ∷ ts) ≡ got (neg x) r
unfolding or_e kind rest
not_go n d x t ts r e q = rw (is_same t.kind NOT e, not_e) (rw q refl)

not_pass : (n d : ℕ) (ts : List Token) → (kind ts ≡ NOT → ⊥) → not_e (suc n) d ts ≡ test n d ts
unfolding or_e
not_pass n d ts e = rw (is_other (kind ts) NOT e, not_e)

test_pass : (n d : ℕ) (ts : List Token) → (kind ts ≡ OPEN → ⊥) → test (suc n) d ts ≡ simple ts
unfolding or_e
test_pass n d ts e = rw (is_other (kind ts) OPEN e, test)

-- a bracket: what or_e reads inside, and the closing bracket after it
test_open : (n d : ℕ) (x : Ast) (t c : Token) (ts r : List Token) → t.kind ≡ OPEN → c.kind ≡ CLOSE → or_e n d ts ≡ got x (c ∷ r) → test (suc n) (suc d) (t ∷ ts) ≡ got x r
unfolding or_e kind rest
test_open n d x t c ts r e f q =
    let h : suc d - 1 ≡ d = omega arith in
    rw (is_same t.kind OPEN e, test) (rw (ne_eqb (suc d) 0 (λ z. omega arith), h, q, is_same c.kind CLOSE f))

-- What is shown of a printed text, by the levels that read it.
pub record Back (d l : ℕ) (s : List ℕ) (x : Ast) : Type 0 where
  pub nots : l ≤ 1 → (k : List ℕ) → Boundary k → (n : ℕ) → 4 * length (s ++ k) + 2 ≤ n → not_e n d (tokens (s ++ k)) ≡ got x (tokens k)
  pub ands : l ≤ 2 → (k : List ℕ) → Boundary k → (n : ℕ) → 4 * length (s ++ k) + 3 ≤ n
      → (m : ℕ) × (4 * length k + 1 ≤ m) × (and_e n d (tokens (s ++ k)) ≡ and_more m d x (tokens k))
  pub ors : l ≤ 3 → (k : List ℕ) → Boundary k → (kind (tokens k) ≡ AND → ⊥) → (n : ℕ) → 4 * length (s ++ k) + 4 ≤ n
      → (m : ℕ) × (4 * length k + 1 ≤ m) × (or_e n d (tokens (s ++ k)) ≡ or_more m d x (tokens k))

-- what NOT reads, AND reads
to_ands : (d : ℕ) (s : List ℕ) (x : Ast) (k : List ℕ)
    → ((n : ℕ) → 4 * length (s ++ k) + 2 ≤ n → not_e n d (tokens (s ++ k)) ≡ got x (tokens k))
    → (n : ℕ) → 4 * length (s ++ k) + 3 ≤ n
    → (m : ℕ) × (4 * length k + 1 ≤ m) × (and_e n d (tokens (s ++ k)) ≡ and_more m d x (tokens k))
unfolding or_e
to_ands d s x k f zero h = absurd (omega arith)
to_ands d s x k f (suc n) h =
    let e = f n (omega arith) in
    (n, omega (arith, length-append s k), rw e refl)

-- what AND reads, OR reads
to_ors : (d : ℕ) (s : List ℕ) (x : Ast) (k : List ℕ) → (kind (tokens k) ≡ AND → ⊥)
    → ((n : ℕ) → 4 * length (s ++ k) + 3 ≤ n → (m : ℕ) × (4 * length k + 1 ≤ m) × (and_e n d (tokens (s ++ k)) ≡ and_more m d x (tokens k)))
    → (n : ℕ) → 4 * length (s ++ k) + 4 ≤ n
    → (m : ℕ) × (4 * length k + 1 ≤ m) × (or_e n d (tokens (s ++ k)) ≡ or_more m d x (tokens k))
unfolding or_e
to_ors d s x k a f zero h = absurd (omega arith)
to_ors d s x k a f (suc n) h =
    let q = f n (omega arith) in
    let e : and_e n d (tokens (s ++ k)) ≡ got x (tokens k) = q.2 ∙ and_stop q.0 d x (tokens k) (let b = q.1 in omega arith) a in
    (n, omega (arith, length-append s k), rw e refl)

from_nots : (d l : ℕ) (s : List ℕ) (x : Ast)
    → ((k : List ℕ) → Boundary k → (n : ℕ) → 4 * length (s ++ k) + 2 ≤ n → not_e n d (tokens (s ++ k)) ≡ got x (tokens k))
    → Back d l s x
from_nots d l s x f =
    record {
      nots = λ h k b n q. f k b n q;
      ands = λ h k b n q. to_ands d s x k (f k b) n q;
      ors = λ h k b a n q. to_ors d s x k a (to_ands d s x k (f k b)) n q;
    }

from_ands : (d : ℕ) (s : List ℕ) (x : Ast)
    → ((k : List ℕ) → Boundary k → (n : ℕ) → 4 * length (s ++ k) + 3 ≤ n → (m : ℕ) × (4 * length k + 1 ≤ m) × (and_e n d (tokens (s ++ k)) ≡ and_more m d x (tokens k)))
    → Back d 2 s x
from_ands d s x f =
    record {
      nots = λ h k b n q. absurd (omega arith);
      ands = λ h k b n q. f k b n q;
      ors = λ h k b a n q. to_ors d s x k a (f k b) n q;
    }

item_back : (d : ℕ) (s : List ℕ) (x : Ast) → Item s x → Back d 0 s x
item_back d s x i = from_nots d 0 s x (λ k b n q. go k b n q)
  where
    go : (k : List ℕ) → Boundary k → (n : ℕ) → 4 * length (s ++ k) + 2 ≤ n → not_e n d (tokens (s ++ k)) ≡ got x (tokens k)
    go k b zero q = absurd (omega arith)
    go k b (suc zero) q = absurd (omega arith)
    go k b (suc (suc n)) q =
        not_pass (suc n) d (tokens (s ++ k)) (i.no_not k b) ∙ (test_pass n d (tokens (s ++ k)) (i.no_open k b) ∙ i.reads k b)

close-kind : (k : List ℕ) → kind (tokens (bytes ")" ++ k)) ≡ CLOSE
unfolding kind
close-kind k = rw (close_token k) refl

-- between brackets
inside : (d l : ℕ) (s : List ℕ) (x : Ast) → Back d l s x → l ≤ 3 → (k : List ℕ) (n : ℕ) → 4 * length (s ++ (bytes ")" ++ k)) + 4 ≤ n
    → or_e n d (tokens (s ++ (bytes ")" ++ k))) ≡ got x (tok CLOSE (bytes ")") ∷ tokens k)
inside d l s x b h k n q =
    let c = close-kind k in
    let r = b.ors h (bytes ")" ++ k) (close_boundary k) (λ e. is-apart CLOSE AND refl (sym c ∙ e)) n q in
    r.2 ∙ (or_stop r.0 d x (tokens (bytes ")" ++ k)) (let w = r.1 in omega arith) (λ e. is-apart CLOSE OR refl (sym c ∙ e)) ∙ ap (λ l. got x l) (close_token k))

-- the text of a bracket, with what stands after it
bracket_text : (s k : List ℕ) → (bytes "(" ++ (s ++ bytes ")")) ++ k ≡ bytes "(" ++ (s ++ (bytes ")" ++ k))
bracket_text s k = ap (λ l. bytes "(" ++ l) (append_assoc s (bytes ")") k)

bracket_test : (d l : ℕ) (s : List ℕ) (x : Ast) → Back d l s x → l ≤ 3 → (k : List ℕ) (n : ℕ) → 4 * length (s ++ (bytes ")" ++ k)) + 5 ≤ n
    → test n (suc d) (tok OPEN (bytes "(") ∷ tokens (s ++ (bytes ")" ++ k))) ≡ got x (tokens k)
bracket_test d l s x b h k zero q = absurd (omega arith)
bracket_test d l s x b h k (suc n) q =
    test_open n d x (tok OPEN (bytes "(")) (tok CLOSE (bytes ")")) (tokens (s ++ (bytes ")" ++ k))) (tokens k) refl refl (inside d l s x b h k n (omega arith))

bracket_back : (d l : ℕ) (s : List ℕ) (x : Ast) → l ≤ 3 → Back d l s x → Back (suc d) 0 (bytes "(" ++ (s ++ bytes ")")) x
unfolding kind
bracket_back d l s x h b = from_nots (suc d) 0 (bytes "(" ++ (s ++ bytes ")")) x (λ k c n q. go k n q)
  where
    go : (k : List ℕ) (n : ℕ) → 4 * length ((bytes "(" ++ (s ++ bytes ")")) ++ k) + 2 ≤ n → not_e n (suc d) (tokens ((bytes "(" ++ (s ++ bytes ")")) ++ k)) ≡ got x (tokens k)
    go k zero q = absurd (omega arith)
    go k (suc n) q =
        let e : tokens ((bytes "(" ++ (s ++ bytes ")")) ++ k) ≡ tok OPEN (bytes "(") ∷ tokens (s ++ (bytes ")" ++ k)) = ap tokens (bracket_text s k) ∙ open_token (s ++ (bytes ")" ++ k)) in
        let w = ap length (bracket_text s k) in
        rw e (not_pass n (suc d) (tok OPEN (bytes "(") ∷ tokens (s ++ (bytes ")" ++ k))) (is-apart OPEN NOT refl) ∙ bracket_test d l s x b h k n (omega arith))

not_bracket_back : (d l : ℕ) (s : List ℕ) (x : Ast) → l ≤ 3 → Back d l s x → Back (suc d) 1 (bytes "NOT(" ++ (s ++ bytes ")")) (neg x)
unfolding kind
not_bracket_back d l s x h b = from_nots (suc d) 1 (bytes "NOT(" ++ (s ++ bytes ")")) (neg x) (λ k c n q. go k n q)
  where
    go : (k : List ℕ) (n : ℕ) → 4 * length ((bytes "NOT(" ++ (s ++ bytes ")")) ++ k) + 2 ≤ n
        → not_e n (suc d) (tokens ((bytes "NOT(" ++ (s ++ bytes ")")) ++ k)) ≡ got (neg x) (tokens k)
    go k zero q = absurd (omega arith)
    go k (suc zero) q = absurd (omega arith)
    go k (suc (suc n)) q =
        let f : (bytes "NOT(" ++ (s ++ bytes ")")) ++ k ≡ bytes "NOT(" ++ (s ++ (bytes ")" ++ k)) = ap (λ l. bytes "NOT(" ++ l) (append_assoc s (bytes ")") k) in
        let e : tokens ((bytes "NOT(" ++ (s ++ bytes ")")) ++ k) ≡ tok NOT (bytes "NOT") ∷ (tok OPEN (bytes "(") ∷ tokens (s ++ (bytes ")" ++ k))) = ap tokens f ∙ not_open_tokens (s ++ (bytes ")" ++ k)) in
        let w = ap length f in
        rw e
        (not_go (suc n) (suc d) x (tok NOT (bytes "NOT")) (tok OPEN (bytes "(") ∷ tokens (s ++ (bytes ")" ++ k))) (tokens k) refl
        (not_pass n (suc d) (tok OPEN (bytes "(") ∷ tokens (s ++ (bytes ")" ++ k))) (is-apart OPEN NOT refl) ∙ bracket_test d l s x b h k n (omega arith)))

not_word_back : (d l : ℕ) (s : List ℕ) (x : Ast) → l ≤ 1 → Back d l s x → Back d 1 (bytes "NOT " ++ s) (neg x)
not_word_back d l s x h b = from_nots d 1 (bytes "NOT " ++ s) (neg x) (λ k c n q. go k c n q)
  where
    go : (k : List ℕ) → Boundary k → (n : ℕ) → 4 * length ((bytes "NOT " ++ s) ++ k) + 2 ≤ n → not_e n d (tokens ((bytes "NOT " ++ s) ++ k)) ≡ got (neg x) (tokens k)
    go k c zero q = absurd (omega arith)
    go k c (suc n) q =
        rw (not_token_lem (s ++ k)) (not_go n d x (tok NOT (bytes "NOT")) (tokens (s ++ k)) (tokens k) refl (b.nots h k c n (omega arith)))

and_back : (d l m : ℕ) (s t : List ℕ) (x y : Ast) → l ≤ 2 → m ≤ 1 → Back d l s x → Back d m t y → Back d 2 (s ++ (bytes " AND " ++ t)) (conj x y)
and_back d l m s t x y h i a b = from_ands d (s ++ (bytes " AND " ++ t)) (conj x y) (λ k c n q. go k c n q)
  where
    go : (k : List ℕ) → Boundary k → (n : ℕ) → 4 * length ((s ++ (bytes " AND " ++ t)) ++ k) + 3 ≤ n
        → (j : ℕ) × (4 * length k + 1 ≤ j) × (and_e n d (tokens ((s ++ (bytes " AND " ++ t)) ++ k)) ≡ and_more j d (conj x y) (tokens k))
    go k c n q =
        let f : (s ++ (bytes " AND " ++ t)) ++ k ≡ s ++ (bytes " AND " ++ (t ++ k)) = append_assoc s (bytes " AND " ++ t) k in
        let w = ap length f in
        let r = a.ands h (bytes " AND " ++ (t ++ k)) (and_boundary (t ++ k)) n (omega arith) in
        next r.0 r.1 (ap (λ l. and_e n d (tokens l)) f ∙ r.2)
      where
        next : (j : ℕ) → 4 * length (bytes " AND " ++ (t ++ k)) + 1 ≤ j
            → and_e n d (tokens ((s ++ (bytes " AND " ++ t)) ++ k)) ≡ and_more j d x (tokens (bytes " AND " ++ (t ++ k)))
            → (j : ℕ) × (4 * length k + 1 ≤ j) × (and_e n d (tokens ((s ++ (bytes " AND " ++ t)) ++ k)) ≡ and_more j d (conj x y) (tokens k))
        next zero g e = absurd (omega arith)
        next (suc j) g e = (
          j,
          omega (arith, length-append t k),
          e ∙ (ap (λ l. and_more (suc j) d x l) (and_token (t ++ k))
              ∙ and_go j d x y (tok AND (bytes "AND")) (tokens (t ++ k)) (tokens k) refl (b.nots i k c j (omega arith))),
        )

or_kind : (k : List ℕ) → kind (tokens (bytes " OR " ++ k)) ≡ OR
unfolding kind
or_kind k = rw (or_token k) refl

or_back : (d l m : ℕ) (s t : List ℕ) (x y : Ast) → l ≤ 3 → m ≤ 2 → Back d l s x → Back d m t y → Back d 3 (s ++ (bytes " OR " ++ t)) (disj x y)
or_back d l m s t x y h i a b =
    record { nots = λ h k c n q. absurd (omega arith); ands = λ h k c n q. absurd (omega arith); ors = λ h k c v n q. go k c v n q }
  where
    go : (k : List ℕ) → Boundary k → (kind (tokens k) ≡ AND → ⊥) → (n : ℕ) → 4 * length ((s ++ (bytes " OR " ++ t)) ++ k) + 4 ≤ n
        → (j : ℕ) × (4 * length k + 1 ≤ j) × (or_e n d (tokens ((s ++ (bytes " OR " ++ t)) ++ k)) ≡ or_more j d (disj x y) (tokens k))
    go k c v n q =
        let f : (s ++ (bytes " OR " ++ t)) ++ k ≡ s ++ (bytes " OR " ++ (t ++ k)) = append_assoc s (bytes " OR " ++ t) k in
        let w = ap length f in
        let z = or_kind (t ++ k) in
        let r = a.ors h (bytes " OR " ++ (t ++ k)) (or_boundary (t ++ k)) (λ e. is-apart OR AND refl (sym z ∙ e)) n (omega arith) in
        next r.0 r.1 (ap (λ l. or_e n d (tokens l)) f ∙ r.2)
      where
        next : (j : ℕ) → 4 * length (bytes " OR " ++ (t ++ k)) + 1 ≤ j
            → or_e n d (tokens ((s ++ (bytes " OR " ++ t)) ++ k)) ≡ or_more j d x (tokens (bytes " OR " ++ (t ++ k)))
            → (j : ℕ) × (4 * length k + 1 ≤ j) × (or_e n d (tokens ((s ++ (bytes " OR " ++ t)) ++ k)) ≡ or_more j d (disj x y) (tokens k))
        next zero g e = absurd (omega arith)
        next (suc j) g e =
            let r = b.ands i k c j (omega arith) in
            let u : and_e j d (tokens (t ++ k)) ≡ got y (tokens k) = r.2 ∙ and_stop r.0 d y (tokens k) (let w = r.1 in omega arith) v in (
              j,
              omega (arith, length-append t k),
              e ∙ (ap (λ l. or_more (suc j) d x l) (or_token (t ++ k)) ∙ or_go j d x y (tok OR (bytes "OR")) (tokens (t ++ k)) (tokens k) refl u),
            )

lift_back : (d l m : ℕ) (s : List ℕ) (x : Ast) → l ≤ m → Back d l s x → Back d m s x
lift_back d l m s x h b =
    record { nots = λ i k c n q. b.nots (omega arith) k c n q; ands = λ i k c n q. b.ands (omega arith) k c n q; ors = λ i k c v n q. b.ors (omega arith) k c v n q }

-- Each printed text reads back.
pub reads-back : {d l : ℕ} {s : List ℕ} {x : Ast} → Prints d l s x → Back d l s x
reads-back {d} {l} {s} {x} (item i) = item_back d s x i
reads-back (lift {d} {l} {m} {s} {x} h p) = lift_back d l m s x h (reads-back p)
reads-back (bracket {d} {l} {s} {x} h p) = bracket_back d l s x h (reads-back p)
reads-back (not_bracket {d} {l} {s} {x} h p) = not_bracket_back d l s x h (reads-back p)
reads-back (not_word {d} {l} {s} {x} h p) = not_word_back d l s x h (reads-back p)
reads-back (and_join {d} {l} {m} {s} {t} {x} {y} h i p q) = and_back d l m s t x y h i (reads-back p) (reads-back q)
reads-back (or_join {d} {l} {m} {s} {t} {x} {y} h i p q) = or_back d l m s t x y h i (reads-back p) (reads-back q)

-- A whole text, within the brackets that the grammar allows.
pub parses_back : (l : ℕ) (s : List ℕ) (x : Ast) → l ≤ 3 → Prints bracket_limit l s x → parse s ≡ got x []
unfolding parse kind tokens tokens_in
parses_back l s x h p =
    let e = append-nil s in
    let r = (reads-back p).ors h [] end_boundary (is-apart END AND refl) (4 * length s + 4) (rw e (omega arith)) in
    let q : or_e (4 * length s + 4) bracket_limit (tokens s) ≡ or_more r.0 bracket_limit x [] = ap (λ l. or_e (4 * length s + 4) bracket_limit (tokens l)) (sym e) ∙ r.2 in
    q ∙ or_stop r.0 bracket_limit x [] (let w = r.1 in omega arith) (is-apart END OR refl)
