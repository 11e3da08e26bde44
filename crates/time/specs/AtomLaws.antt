-- How names, quoted texts, NULL, comparisons and tests for NULL read: each printed test is an `Item` of ReadBackLaws.antt.
-- A word ends where its run of name bytes ends, a quoted text at its closing mark; what follows is a break.
use Rattle.std.specs.Prelude.{ℕ, suc, ◌+◌, ◌-◌, ◌≡◌, refl, List, [], ◌∷◌, ◌++◌, Bool, true, false, eqb, length, get_or, take}
use Rattle.std.proofs.Common.{sym, ◌∙◌, subst, append_assoc, arith, length-append, eqb-true, ne_eqb}
use Rattle.std.proofs.Math.Path.{ap}
use Rattle.std.proofs.Math.Seq.{take-append_seam, drop-append_seam, get_or-append_seam, take-append-add, drop-append-add}
use Rattle.prelude.specs.Bytes.{bytes, apostrophe}
use Rattle.prelude.specs.Choice.{pick, both, negated, between, all, some, same}
use Rattle.prelude.specs.ChoiceLaws.{both_true, all_true}
use Rattle.charset.specs.Charset.{letter, digit, name_start, name_byte, name}
use Rattle.string.specs.Utf8.{valid}
use Rattle.string.specs.Quote.{doubled, undoubled, closing, quoted_size}
use Rattle.string.specs.QuoteLaws.{undoubled-doubled, closing-doubled, unmarked, unmarked-doubled}
use Rattle.string.proofs.ValidLaws.{valid-doubled, unmarked-valid}
use Rattle.keyword.specs.Keywords.{keywords}
use Rattle.word.specs.Case.{upper, uppers}
use Rattle.keyword.specs.Reserved.{reserved, reserved_words}
use Rattle.lexer.specs.declared.Kind.{Kind}
use Rattle.lexer.specs.declared.Kind.TheVariants.{Name as NAME, Quoted as QUOTED, Text as TEXT, Open as OPEN, Lt as LT, Gt as GT, Le, Ge as GE, Eq as EQ, Ne as NE, Not as NOT, Null as NULL, True as TRUE, False as FALSE, Is as IS}
use Rattle.lexer.specs.Lex.{Token, tokens, kind, body, rest, lexeme, quote_kind, run, word_kind, sign_kind, sign_more}
use Rattle.lexer.specs.LexLaws.{is_other, is-apart, tokens-space, tokens_one}
use Rattle.truth.specs.declared.Truth.TheVariants.{True, False, Unknown}
use Rattle.truth.specs.Grammar.{Atom, column, text, none, Ast, cmp, is_null, const, neg, got, is_name, is_atom, is_comparison, inner, atom_of, not_null, null_test, from_atom, simple}
use Rattle.time.specs.ReadBackLaws.{Break, at_end, at_space, at_close, Boundary, tok, Item}

-- a run ends where the first byte of what follows fails the test
run-all : (p : ℕ → Bool) (w k : List ℕ) → all p w ≡ true → run p k ≡ 0 → run p (w ++ k) ≡ length w
unfolding run
run-all p [] k a e = e
run-all p (b ∷ w) k a e =
    let h = all_true p b w a in
    rw h.0 (ap suc (run-all p w k h.1 e))

name_break : {k : List ℕ} → Break k → run name_byte k ≡ 0
unfolding run name_byte name_start letter digit
name_break at_end = refl
name_break (at_space k) = refl
name_break (at_close k) = refl

take-run : (w k : List ℕ) → take (length w) (w ++ k) ≡ w
take-run w k = take-append_seam w k

-- what a name's bytes are
name-parts : (b : ℕ) (r : List ℕ) → name (b ∷ r) ≡ true → (name_start b ≡ true) × (all name_byte (b ∷ r) ≡ true) × (reserved (b ∷ r) ≡ false)
unfolding name
name-parts b r e =
    let h = both_true (between 1 (length (b ∷ r)) 64) (both (name_start b) (both (all name_byte (b ∷ r)) (negated (reserved (b ∷ r))))) e in
    let i = both_true (name_start b) (both (all name_byte (b ∷ r)) (negated (reserved (b ∷ r)))) h.1 in
    let j = both_true (all name_byte (b ∷ r)) (negated (reserved (b ∷ r))) i.1 in
    (i.0, j.0, unnegate (reserved (b ∷ r)) j.1)
  where
    unnegate : (c : Bool) → negated c ≡ true → c ≡ false
    unnegate true q = cc
    unnegate false q = refl

name-bytes : (n : List ℕ) → name n ≡ true → all name_byte n ≡ true
name-bytes [] e = refl
name-bytes (b ∷ r) e = (name-parts b r e).1

start_no_space : (b : ℕ) → name_start b ≡ true → eqb b 32 ≡ false
unfolding name_start letter
start_no_space b e = go (eqb b 32) refl
  where
    go : (c : Bool) → eqb b 32 ≡ c → eqb b 32 ≡ false
    go true q = let z : b ≡ 32 = eqb-true b 32 q in absurd (let y : ◌≡◌ {A = Bool} false true = rw z at e in (let w : ◌≡◌ {A = ℕ} 0 1 = cc in omega arith))
    go false q = q

-- a test that finds nothing fails at each
abbrev None : (List ℕ → Bool) → List (List ℕ) → Type 0
None f [] = Unit {0}
None f (w ∷ ws) = (f w ≡ false) × None f ws

none_of : (f : List ℕ → Bool) (ws : List (List ℕ)) → some f ws ≡ false → None f ws
unfolding some
none_of f [] e = tt
none_of f (w ∷ ws) e = go (f w) refl e (λ q. none_of f ws q)
  where
    go : (b : Bool) → f w ≡ b → pick b true (some f ws) ≡ false → (some f ws ≡ false → None f ws) → (f w ≡ false) × None f ws
    go true p q k = (cc, k (cc))
    go false p q k = (p, k q)

-- a name is none of the reader's own words
name-kind : (w : List ℕ) → reserved w ≡ false → name w ≡ true → word_kind w ≡ NAME
unfolding word_kind reserved reserved_words
name-kind w e n =
    let h = none_of (same (uppers w)) (reserved_words ++ keywords) e in
    rw (h.1.1.1.1.1.1.1.1.1.0, h.0, h.1.1.1.1.1.1.1.1.1.1.1.1.0, h.1.1.1.1.1.1.1.1.1.1.1.0, h.1.1.1.1.1.1.1.1.1.1.1.1.1.0, h.1.1.1.1.0, h.1.1.1.1.1.1.0, n)

-- Tokens.

no_name : name [] ≡ true → ⊥
unfolding name
no_name e = let z : ◌≡◌ {A = ℕ} 0 1 = cc in omega arith

bare_token : (n k : List ℕ) → name n ≡ true → Break k → tokens (n ++ k) ≡ tok NAME n ∷ tokens k
unfolding lexeme
bare_token [] k e c = absurd (no_name e)
bare_token (b ∷ r) k e c =
    let h = name-parts b r e in
    let a = all_true name_byte b r h.1 in
    let q : run name_byte (r ++ k) ≡ length r = run-all name_byte r k a.1 (name_break c) in
    let l : lexeme b (r ++ k) ≡ (NAME, length r) = rw (h.0, q, take-append_seam r k, name-kind (b ∷ r) h.2 e) in
    tokens_one b (r ++ k) NAME (length r) (start_no_space b h.0) l
    ∙ rw (take-append_seam r k, drop-append_seam r k)

quoted_token : (n k : List ℕ) → name n ≡ true → tokens (bytes "\"" ++ (n ++ (bytes "\"" ++ k))) ≡ tok QUOTED (bytes "\"" ++ (n ++ bytes "\"")) ∷ tokens k
unfolding lexeme quote_kind name_start letter run name_byte digit
quoted_token n k e =
    let q : run name_byte (n ++ (bytes "\"" ++ k)) ≡ length n = run-all name_byte n (bytes "\"" ++ k) (name-bytes n e) refl in
    let l : lexeme 34 (n ++ (bytes "\"" ++ k)) ≡ (QUOTED, length n + 1) = rw (q, get_or-append_seam n 34 k 0, take-append_seam n (bytes "\"" ++ k), e) in
    tokens_one 34 (n ++ (bytes "\"" ++ k)) QUOTED (length n + 1) refl l
    ∙ rw (take-append-add n (bytes "\"" ++ k) 1, drop-append-add n (bytes "\"" ++ k) 1)

-- what follows a text is no apostrophe
text_break : {k : List ℕ} → Break k → eqb (get_or k 0 0) apostrophe ≡ false
text_break at_end = refl
text_break (at_space k) = refl
text_break (at_close k) = refl

text_token : (s k : List ℕ) → valid s ≡ true → Break k → tokens (bytes "'" ++ (doubled s ++ (bytes "'" ++ k))) ≡ tok TEXT (bytes "'" ++ (doubled s ++ bytes "'")) ∷ tokens k
unfolding lexeme name_start letter quoted_size
text_token s k e c =
    let w = doubled s in
    let q : closing (w ++ (bytes "'" ++ k)) ≡ length w = closing-doubled s k (text_break c) in
    let v : valid w ≡ true = valid-doubled s ∙ e in
    let z : quoted_size (w ++ (bytes "'" ++ k)) ≡ length w + 1 = rw (q, get_or-append_seam w 39 k 0, take-append_seam w (bytes "'" ++ k), v) in
    let n : eqb (length w + 1) 0 ≡ false = ne_eqb (length w + 1) 0 (λ y. omega arith) in
    let l : lexeme 39 (w ++ (bytes "'" ++ k)) ≡ (TEXT, length w + 1) = rw (z, n) in
    tokens_one 39 (w ++ (bytes "'" ++ k)) TEXT (length w + 1) refl l
    ∙ rw (take-append-add w (bytes "'" ++ k) 1, drop-append-add w (bytes "'" ++ k) 1)

null_token_lem : {k : List ℕ} → Break k → tokens (bytes "NULL" ++ k) ≡ tok NULL (bytes "NULL") ∷ tokens k
unfolding lexeme name_start name_byte letter digit run word_kind upper
null_token_lem at_end = tokens_one 78 (bytes "ULL") NULL 3 refl refl
null_token_lem (at_space k) = tokens_one 78 (bytes "ULL " ++ k) NULL 3 refl refl
null_token_lem (at_close k) = tokens_one 78 (bytes "ULL)" ++ k) NULL 3 refl refl

true_token : {k : List ℕ} → Break k → tokens (bytes "TRUE" ++ k) ≡ tok TRUE (bytes "TRUE") ∷ tokens k
unfolding lexeme name_start name_byte letter digit run word_kind upper
true_token at_end = tokens_one 84 (bytes "RUE") TRUE 3 refl refl
true_token (at_space k) = tokens_one 84 (bytes "RUE " ++ k) TRUE 3 refl refl
true_token (at_close k) = tokens_one 84 (bytes "RUE)" ++ k) TRUE 3 refl refl

false_token : {k : List ℕ} → Break k → tokens (bytes "FALSE" ++ k) ≡ tok FALSE (bytes "FALSE") ∷ tokens k
unfolding lexeme name_start name_byte letter digit run word_kind upper
false_token at_end = tokens_one 70 (bytes "ALSE") FALSE 4 refl refl
false_token (at_space k) = tokens_one 70 (bytes "ALSE " ++ k) FALSE 4 refl refl
false_token (at_close k) = tokens_one 70 (bytes "ALSE)" ++ k) FALSE 4 refl refl

-- NULL, NOT NULL and IS NOT NULL, IS NULL after a name
not_null_tokens : {k : List ℕ} → Break k → tokens (bytes " NOT NULL" ++ k) ≡ tok NOT (bytes "NOT") ∷ (tok NULL (bytes "NULL") ∷ tokens k)
unfolding lexeme name_start name_byte letter digit run word_kind upper
not_null_tokens {k} c =
    tokens-space _ ∙ (tokens_one 78 (bytes "OT NULL" ++ k) NOT 2 refl refl
    ∙ ap (λ l. tok NOT (bytes "NOT") ∷ l) (tokens-space _ ∙ null_token_lem c))

is_token_lem : (k : List ℕ) → tokens (bytes " IS " ++ k) ≡ tok IS (bytes "IS") ∷ tokens (bytes " " ++ k)
unfolding lexeme name_start name_byte letter digit run word_kind upper
is_token_lem k = tokens-space _ ∙ tokens_one 73 (bytes "S " ++ k) IS 1 refl refl

-- Atoms: the text s is one token, whatever word break follows it, and stands for the atom a.
pub record AtomText (s : List ℕ) (a : Atom) : Type 0 where
  pub token : Token
  pub lexed : {k : List ℕ} → Break k → tokens (s ++ k) ≡ token ∷ tokens k
  pub kinded : is_atom token.kind ≡ true
  pub means : (ts : List Token) → atom_of (token ∷ ts) ≡ a

pub bare_atom : (n : List ℕ) → name n ≡ true → AtomText n (column n)
unfolding kind body atom_of
bare_atom n e = record { token = tok NAME n; lexed = λ {k} c. bare_token n k e c; kinded = refl; means = λ ts. refl }

inner-is : (q : ℕ) (s : List ℕ) → inner (q ∷ (s ++ (q ∷ []))) ≡ s
inner-is q s =
    let l = length-append s (q ∷ []) in
    let e : length (q ∷ (s ++ (q ∷ []))) - 2 ≡ length s = omega arith in
    rw (e, take-append_seam s (q ∷ []))

pub quoted_atom : (n : List ℕ) → name n ≡ true → AtomText (bytes "\"" ++ (n ++ bytes "\"")) (column n)
unfolding kind body atom_of
quoted_atom n e =
    record {
      token = tok QUOTED (bytes "\"" ++ (n ++ bytes "\""));
      lexed = λ {k} c. ap (λ l. tokens (bytes "\"" ++ l)) (append_assoc n (bytes "\"") k) ∙ quoted_token n k e;
      kinded = refl;
      means = λ ts. ap column (inner-is 34 n);
    }

-- Round trip: what is written for a string is one token, and its value is the string.
pub text_atom : (s : List ℕ) → valid s ≡ true → AtomText (bytes "'" ++ (doubled s ++ bytes "'")) (text s)
unfolding kind body atom_of
text_atom s e =
    record {
      token = tok TEXT (bytes "'" ++ (doubled s ++ bytes "'"));
      lexed = λ {k} c. ap (λ l. tokens (bytes "'" ++ l)) (append_assoc (doubled s) (bytes "'") k) ∙ text_token s k e c;
      kinded = refl;
      means = λ ts. ap (λ (l : List ℕ). text (undoubled l)) (inner-is 39 (doubled s)) ∙ ap text (undoubled-doubled s);
    }

-- and so it is for one of plain bytes without an apostrophe, as it stands
pub unmarked_atom : (s : List ℕ) → all unmarked s ≡ true → AtomText (bytes "'" ++ (s ++ bytes "'")) (text s)
unmarked_atom s e = subst (λ (w : List ℕ). AtomText (bytes "'" ++ (w ++ bytes "'")) (text s)) (unmarked-doubled s e) (text_atom s (unmarked-valid s e))

pub null_atom : AtomText (bytes "NULL") none
unfolding kind body atom_of
null_atom = record { token = tok NULL (bytes "NULL"); lexed = λ {k} c. null_token_lem c; kinded = refl; means = λ ts. refl }

-- an atom's token is of no other kind
not_kind : (k j : Kind) → is_atom k ≡ true → is_atom j ≡ false → k ≡ j → ⊥
not_kind k j p q e = let z : ◌≡◌ {A = ℕ} 0 1 = cc (ap is_atom e) in omega arith

-- Signs between spaces.
pub record SignText (w : List ℕ) (n : Kind) : Type 0 where
  pub lexed : (k : List ℕ) → tokens (bytes " " ++ (w ++ (bytes " " ++ k))) ≡ tok n w ∷ tokens k
  pub is_sign : is_comparison n ≡ true

pub sign_lt : SignText (bytes "<") LT
unfolding lexeme name_start letter sign_kind sign_more some
sign_lt = record { lexed = λ k. tokens-space _ ∙ (tokens_one 60 (bytes " " ++ k) LT 0 refl refl ∙ ap (λ l. tok LT (bytes "<") ∷ l) (tokens-space k)); is_sign = refl }

pub sign_gt : SignText (bytes ">") GT
unfolding lexeme name_start letter sign_kind sign_more some
sign_gt = record { lexed = λ k. tokens-space _ ∙ (tokens_one 62 (bytes " " ++ k) GT 0 refl refl ∙ ap (λ l. tok GT (bytes ">") ∷ l) (tokens-space k)); is_sign = refl }

pub sign_eq : SignText (bytes "=") EQ
unfolding lexeme name_start letter sign_kind sign_more some
sign_eq = record { lexed = λ k. tokens-space _ ∙ (tokens_one 61 (bytes " " ++ k) EQ 0 refl refl ∙ ap (λ l. tok EQ (bytes "=") ∷ l) (tokens-space k)); is_sign = refl }

pub sign_le : SignText (bytes "<=") Le
unfolding lexeme name_start letter sign_kind sign_more some
sign_le = record { lexed = λ k. tokens-space _ ∙ (tokens_one 60 (bytes "= " ++ k) Le 1 refl refl ∙ ap (λ l. tok Le (bytes "<=") ∷ l) (tokens-space k)); is_sign = refl }

pub sign_ge : SignText (bytes ">=") GE
unfolding lexeme name_start letter sign_kind sign_more some
sign_ge = record { lexed = λ k. tokens-space _ ∙ (tokens_one 62 (bytes "= " ++ k) GE 1 refl refl ∙ ap (λ l. tok GE (bytes ">=") ∷ l) (tokens-space k)); is_sign = refl }

-- <>
pub sign_ne : SignText (bytes "<>") NE
unfolding lexeme name_start letter sign_kind sign_more some
sign_ne = record { lexed = λ k. tokens-space _ ∙ (tokens_one 60 (bytes "> " ++ k) NE 1 refl refl ∙ ap (λ l. tok NE (bytes "<>") ∷ l) (tokens-space k)); is_sign = refl }

-- !=
pub sign_bang : SignText (bytes "!=") NE
unfolding lexeme name_start letter sign_kind sign_more some
sign_bang = record { lexed = λ k. tokens-space _ ∙ (tokens_one 33 (bytes "= " ++ k) NE 1 refl refl ∙ ap (λ l. tok NE (bytes "!=") ∷ l) (tokens-space k)); is_sign = refl }

-- An item from its tokens: they begin with an atom, so with neither NOT nor a bracket.
from_tokens : (s : List ℕ) (x : Ast) (t : Token) → is_atom t.kind ≡ true → (f : List Token → List Token)
    → ((k : List ℕ) → Boundary k → tokens (s ++ k) ≡ t ∷ f (tokens k))
    → ((k : List ℕ) → Boundary k → simple (t ∷ f (tokens k)) ≡ got x (tokens k)) → Item s x
unfolding kind
from_tokens s x t a f e r =
    record {
      no_not = λ k b q. not_kind t.kind NOT a refl (sym (ap kind (e k b)) ∙ q);
      no_open = λ k b q. not_kind t.kind OPEN a refl (sym (ap kind (e k b)) ∙ q);
      reads = λ k b. ap simple (e k b) ∙ r k b;
    }

-- what begins with an atom is read by `from_atom`
simple_atom : (t : Token) (ts : List Token) → is_atom t.kind ≡ true → simple (t ∷ ts) ≡ from_atom (t ∷ ts)
unfolding simple kind
simple_atom t ts a =
    rw (is_other t.kind TRUE (not_kind t.kind TRUE a refl), is_other t.kind FALSE (not_kind t.kind FALSE a refl), a)

compare_tokens : (s w t k : List ℕ) (a b : Atom) (n : Kind) (A : AtomText s a) → SignText w n → (B : AtomText t b) → Break k
    → tokens ((s ++ (bytes " " ++ (w ++ (bytes " " ++ t)))) ++ k) ≡ A.token ∷ (tok n w ∷ (B.token ∷ tokens k))
compare_tokens s w t k a b n A S B c =
    ap tokens (append_assoc s (bytes " " ++ (w ++ (bytes " " ++ t))) k ∙ ap (λ l. s ++ (bytes " " ++ l)) (append_assoc w (bytes " " ++ t) k))
    ∙ (A.lexed (at_space _) ∙ ap (λ l. A.token ∷ l) (S.lexed (t ++ k) ∙ ap (λ l. tok n w ∷ l) (B.lexed c)))

pub compare_item : {s w t : List ℕ} {a b : Atom} {n : Kind} → AtomText s a → SignText w n → AtomText t b → Item (s ++ (bytes " " ++ (w ++ (bytes " " ++ t)))) (cmp n a b)
unfolding from_atom kind rest
compare_item {s} {w} {t} {a} {b} {n} A S B =
    from_tokens (s ++ (bytes " " ++ (w ++ (bytes " " ++ t)))) (cmp n a b) A.token A.kinded (λ r. tok n w ∷ (B.token ∷ r))
    (λ k c. compare_tokens s w t k a b n A S B c.breaks)
    (λ k c. simple_atom A.token (tok n w ∷ (B.token ∷ tokens k)) A.kinded ∙ rw (S.is_sign, B.kinded, A.means _, B.means _))

-- NULL alone is unknown
pub null_item : Item (bytes "NULL") (const Unknown)
unfolding from_atom kind rest
null_item =
    from_tokens (bytes "NULL") (const Unknown) (tok NULL (bytes "NULL")) refl (λ r. r)
    (λ k c. null_token_lem c.breaks)
    (λ k c. simple_atom (tok NULL (bytes "NULL")) (tokens k) refl ∙ rw c.calm)

pub true_item : Item (bytes "TRUE") (const True)
unfolding simple kind rest
true_item =
    record {
      no_not = λ k b q. is-apart TRUE NOT refl (sym (ap kind (true_token b.breaks)) ∙ q);
      no_open = λ k b q. is-apart TRUE OPEN refl (sym (ap kind (true_token b.breaks)) ∙ q);
      reads = λ k b. ap simple (true_token b.breaks);
    }

pub false_item : Item (bytes "FALSE") (const False)
unfolding simple kind rest
false_item =
    record {
      no_not = λ k b q. is-apart FALSE NOT refl (sym (ap kind (false_token b.breaks)) ∙ q);
      no_open = λ k b q. is-apart FALSE OPEN refl (sym (ap kind (false_token b.breaks)) ∙ q);
      reads = λ k b. ap simple (false_token b.breaks);
    }

-- A name in either writing, and the tests for NULL after it.
pub record NameText (s n : List ℕ) : Type 0 where
  pub atom : AtomText s (column n)
  pub named : is_name atom.token.kind ≡ true

pub bare-name : (n : List ℕ) → name n ≡ true → NameText n n
unfolding bare_atom
bare-name n e = record { atom = bare_atom n e; named = refl }

pub quoted-name : (n : List ℕ) → name n ≡ true → NameText (bytes "\"" ++ (n ++ bytes "\"")) n
unfolding quoted_atom
quoted-name n e = record { atom = quoted_atom n e; named = refl }

name_no_null : (k : Kind) → is_name k ≡ true → k ≡ NULL → ⊥
name_no_null k p e = let z : ◌≡◌ {A = ℕ} 0 1 = cc (ap is_name e) in omega arith

abbrev null_token : Token
null_token = tok NULL (bytes "NULL")

abbrev not_token : Token
not_token = tok NOT (bytes "NOT")

abbrev is_token : Token
is_token = tok IS (bytes "IS")

-- a name's token, and what a test for NULL makes of the tokens after it
name_test : (t u : Token) (ts : List Token) (n : List ℕ) → is_atom t.kind ≡ true → is_name t.kind ≡ true
    → ((r : List Token) → atom_of (t ∷ r) ≡ column n) → is_comparison u.kind ≡ false
    → simple (t ∷ (u ∷ ts)) ≡ null_test (column n) (u ∷ ts)
unfolding from_atom kind rest
name_test t u ts n a m v b =
    simple_atom t (u ∷ ts) a ∙ rw (b, is_other t.kind NULL (name_no_null t.kind m), m, v (u ∷ ts))

module _ {s n : List ℕ} (N : NameText s n) where
  pub is_null_item : Item (s ++ bytes " IS NULL") (is_null (column n))
  unfolding null_test kind rest some
  is_null_item =
      from_tokens _ _ N.atom.token N.atom.kinded (λ r. is_token ∷ (null_token ∷ r))
      (λ k c. ap tokens (append_assoc s _ k)
      ∙ (N.atom.lexed (at_space _) ∙ ap (λ l. N.atom.token ∷ l) (is_token_lem _ ∙ ap (λ l. is_token ∷ l) (tokens-space _ ∙ null_token_lem c.breaks))))
      (λ k c. name_test N.atom.token is_token (null_token ∷ tokens k) n N.atom.kinded N.named N.atom.means refl)

  pub is_not_null_item : Item (s ++ bytes " IS NOT NULL") (neg (is_null (column n)))
  unfolding null_test not_null kind rest some
  is_not_null_item =
      from_tokens _ _ N.atom.token N.atom.kinded (λ r. is_token ∷ (not_token ∷ (null_token ∷ r)))
      (λ k c. ap tokens (append_assoc s _ k)
      ∙ (N.atom.lexed (at_space _) ∙ ap (λ l. N.atom.token ∷ l) (is_token_lem _ ∙ ap (λ l. is_token ∷ l) (not_null_tokens c.breaks))))
      (λ k c. name_test N.atom.token is_token (not_token ∷ (null_token ∷ tokens k)) n N.atom.kinded N.named N.atom.means refl)

  pub not_null_item : Item (s ++ bytes " NOT NULL") (neg (is_null (column n)))
  unfolding null_test not_null kind rest some
  not_null_item =
      from_tokens _ _ N.atom.token N.atom.kinded (λ r. not_token ∷ (null_token ∷ r))
      (λ k c. ap tokens (append_assoc s _ k)
      ∙ (N.atom.lexed (at_space _) ∙ ap (λ l. N.atom.token ∷ l) (not_null_tokens c.breaks)))
      (λ k c. name_test N.atom.token not_token (null_token ∷ tokens k) n N.atom.kinded N.named N.atom.means refl)
