-- Laws of parse, second half: a good tree that is written is parsed back to it. By induction on the tree: its record has a kind and a body,
-- and the reader of records, given the kind and the body, gives the tree.
use Rattle.std.specs.Prelude.{◌≡◌, refl, List, [], ◌∷◌, ◌++◌, Bool, true, false, ℕ, zero, suc, ◌+◌, ◌-◌, ◌≤◌, ◌<◌, ℤ, nat_abs, length, get_or, take, drop, leb, eqb, Option}
use Rattle.std.proofs.Common.{ap, sym, ◌∙◌, append-nil, arith, length-append, take_at, drop_at, drop-drop, le-ltb, le-leb}
use Rattle.record.specs.declared.Frame.{Frame}
use Rattle.record.specs.Record.{le16, le32, frame, le, record_of, signed, whole}
use Rattle.prelude.specs.Choice.{pick, both, between, all}
use Rattle.charset.specs.Charset.{name, spatial_byte}
use Rattle.string.specs.Utf8.{valid}
use Rattle.civil.specs.Civil.{valid_date, valid_time, days_in, year_limit}
use Rattle.op.specs.declared.Op.{Op}
use Rattle.op.specs.Op.{op_number}
use Rattle.op.specs.OpLaws.{number_of, number-below}
use Rattle.charset.specs.Named.{past, named_at}
use Rattle.tree.specs.Limits.{mantissa_limit, scale_limit, flags_limit, text_limit}
use Rattle.tree.specs.Tree.{Tree, Trees, null, unbounded, bool, num, str, date, timestamp, spatial, id, monadic, dyadic, function, array, interval, none, ◌then◌, twos, date_bytes, counted, encode, encodes}
use Rattle.tree.specs.Parse.{Read, got, also, Body, cons, end, exactly, many, mantissa, empty_body, bool_body, num_body, str_body, date_body, timestamp_body, spatial_body, leaf, takes_one, takes_two, allowed, operated, read_function, choose, kinds, read_kind, node, parse}
use Rattle.tree.specs.Tests.{first, second}
use Rattle.tree.specs.GoodWords.{Good, AllGood}
use Rattle.tree.specs.ByteLaws.{le16-le, le32-le, le64-le, signed-twos, twos-low}
use Rattle.tree.specs.ParseLaws.{both_true, within}

-- a length that four bytes hold
abbrev pub size_limit : ℕ
size_limit = 4294967296

-- the frame, from what the tests find
frame_is : (s : List ℕ) (n k : ℕ) → 6 ≤ length s → n ≡ le32 s 0 → k ≡ le16 s 4 → 2 ≤ n → n ≤ length s - 4 → frame s ≡ whole k (n + 4)
unfolding frame
frame_is s n k l e f g h = simp (le-ltb (length s) 6 l, ← e, ← f, le-ltb n 2 g, le-ltb (length s - 4) n h)

pub frame_of_lem : (k : ℕ) (b r : List ℕ) → k < 65536 → length b + 2 < size_limit → frame (record_of k b ++ r) ≡ whole k (length b + 2 + 4)
unfolding record_of
frame_of_lem k b r p q =
    frame_is (record_of k b ++ r) (length b + 2) k (omega arith) (sym (le32-le (length b + 2) q)) (sym (le16-le k p)) (omega arith) (omega (arith, length-append b r))

-- a record that is written is read: its body, and then what follows it
cons_of : (body : Body) (more : List ℕ → Read Trees) (k : ℕ) (b r : List ℕ) (t : Tree) (ts : Trees) → k < 65536 → length b + 2 < size_limit
    → body k b ≡ got t → more r ≡ got ts → cons body (record_of k b ++ r) (frame (record_of k b ++ r)) more ≡ got (t then ts)
unfolding cons also record_of
cons_of body more k b r t ts p q c d =
    let n : ℕ = length b + 2 in
    let s : List ℕ = record_of k b ++ r in
    let e : n + 4 - 6 ≡ length b = omega arith in
    let x : take (n + 4 - 6) (b ++ r) ≡ b = take_at b r (n + 4 - 6) (sym e) in
    let g : 6 + length b ≡ n + 4 = omega arith in
    let y : drop (n + 4) s ≡ r = ap (λ (i : ℕ). drop i s) (sym g) ∙ sym (drop-drop (length b) 6 s) ∙ drop_at b r (length b) refl in
    ap (λ (f : Option Frame). cons body s f more) (frame_of_lem k b r p q)
    ∙ ap (λ (l : List ℕ). also (body k l) (λ t. also (more (drop (n + 4) s)) (λ ts. got (t then ts)))) x
    ∙ ap (λ (u : Read Tree). also u (λ t. also (more (drop (n + 4) s)) (λ ts. got (t then ts)))) c
    ∙ ap (λ (l : List ℕ). also (more l) (λ ts. got (t then ts))) y
    ∙ ap (λ (u : Read Trees). also u (λ ts. got (t then ts))) d

-- t's record: its kind, its body, and that it is read back
record Back (t : Tree) (n : ℕ) : Type 0 where
  kind : ℕ
  body : List ℕ
  is : encode t ≡ record_of kind body
  low : kind < 65536
  small : length body + 2 < size_limit
  again : node n kind body ≡ got t

length_record : (k : ℕ) (b : List ℕ) → length (record_of k b) ≡ length b + 6
unfolding record_of
length_record k b = omega arith

node_up : (n k : ℕ) (s : List ℕ) → 0 < n → node n k s ≡ read_kind (node (n - 1)) k s
unfolding node
node_up zero k s h = absurd (omega arith)
node_up (suc n) k s h = let e : n ≡ suc n - 1 = omega arith in ap (λ (i : ℕ). read_kind (node i) k s) e

-- a record of the kind k with the body b is t's
back : (t : Tree) (n k : ℕ) (b : List ℕ) → encode t ≡ record_of k b → k < 14 → length (encode t) < size_limit → 0 < n → read_kind (node (n - 1)) k b ≡ got t → Back t n
back t n k b e l s h c =
    record { kind = k; body = b; is = e; low = omega arith; small = omega (arith, ap length e, length_record k b); again = node_up n k b h ∙ c }

-- Lists of records.

many_record : (body : Body) (f k : ℕ) (b r : List ℕ) → many body (suc f) (record_of k b ++ r) ≡ cons body (record_of k b ++ r) (frame (record_of k b ++ r)) (λ l. many body f l)
unfolding many record_of
many_record body f k b r = refl

many-cons : (n f : ℕ) (r : List ℕ) (t : Tree) (ts : Trees) → Back t n → many (node n) f r ≡ got ts → many (node n) (suc f) (encode t ++ r) ≡ got (t then ts)
many-cons n f r t ts b e =
    ap (λ (l : List ℕ). many (node n) (suc f) (l ++ r)) b.is ∙ many_record (node n) f b.kind b.body r
    ∙ cons_of (node n) (λ l. many (node n) f l) b.kind b.body r t ts b.low b.small b.again e

exactly-cons : (n m : ℕ) (r : List ℕ) (t : Tree) (ts : Trees) → Back t n → exactly (node n) m r ≡ got ts → exactly (node n) (suc m) (encode t ++ r) ≡ got (t then ts)
unfolding exactly
exactly-cons n m r t ts b e =
    ap (λ (l : List ℕ). exactly (node n) (suc m) (l ++ r)) b.is ∙ cons_of (node n) (λ l. exactly (node n) m l) b.kind b.body r t ts b.low b.small b.again e

exactly_none : (n : ℕ) → exactly (node n) 0 [] ≡ got none
unfolding exactly end
exactly_none n = refl

exactly_one : (n : ℕ) (t : Tree) → Back t n → exactly (node n) 1 (encode t) ≡ got (t then none)
exactly_one n t b = ap (λ (l : List ℕ). exactly (node n) 1 l) (sym (append-nil (encode t))) ∙ exactly-cons n 0 [] t none b (exactly_none n)

exactly_two : (n : ℕ) (t u : Tree) → Back t n → Back u n → exactly (node n) 2 (encode t ++ encode u) ≡ got (t then (u then none))
exactly_two n t u b c = exactly-cons n 1 (encode u) t (u then none) b (exactly_one n u c)

length_back : (t : Tree) (n : ℕ) → Back t n → 6 ≤ length (encode t)
length_back t n b = omega (arith, ap length b.is, length_record b.kind b.body)

-- Kinds: the body that is written passes its test, and the fields that it holds are the tree's.

leaf-back : (right : List ℕ → Bool) (make : List ℕ → Tree) (s : List ℕ) (t : Tree) → right s ≡ true → make s ≡ t → leaf right make s ≡ got t
leaf-back right make s t e f = simp e (ap got f)

both_is : (a b : Bool) → a ≡ true → b ≡ true → both a b ≡ true
both_is a b p q = simp p q

pub between_is : (a n b : ℕ) → a ≤ n → n ≤ b → between a n b ≡ true
between_is a n b p q = both_is (leb a n) (leb n b) (le-leb a n p) (le-leb n b q)

num_back : (m : ℤ) (s : ℕ) → nat_abs m ≤ mantissa_limit → s ≤ scale_limit → leaf num_body (λ b. num (mantissa b 0) (get_or b 8 0)) (le 8 (twos m) ++ (s ∷ [])) ≡ got (num m s)
unfolding num_body
num_back m s p q =
    let h : nat_abs m < 9223372036854775808 = omega arith in
    let b : List ℕ = le 8 (twos m) ++ (s ∷ []) in
    let e : mantissa b 0 ≡ m = ap signed (le64-le (twos m) (s ∷ []) (twos-low m h)) ∙ signed-twos m h in
    leaf-back num_body (λ b. num (mantissa b 0) (get_or b 8 0)) b (num m s)
    (both_is (leb (nat_abs (mantissa b 0)) mantissa_limit) (leb s scale_limit) (ap (λ (x : ℤ). leb (nat_abs x) mantissa_limit) e ∙ le-leb (nat_abs m) mantissa_limit p) (le-leb s scale_limit q))
    (ap (λ (x : ℤ). num x s) e)

str_back : (f : ℕ) (s : List ℕ) → f ≤ flags_limit → length s ≤ text_limit → valid s ≡ true → leaf str_body (λ b. str (get_or b 0 0) (drop 1 b)) (f ∷ s) ≡ got (str f s)
unfolding str_body
str_back f s p q r =
    leaf-back str_body (λ b. str (get_or b 0 0) (drop 1 b)) (f ∷ s) (str f s)
    (both_is (between 1 (length (f ∷ s)) (1 + text_limit)) (both (leb f flags_limit) (valid s)) (between_is 1 (length (f ∷ s)) (1 + text_limit) (omega arith) (omega arith)) (both_is (leb f flags_limit) (valid s) (le-leb f flags_limit p) r))
    refl

date_year : (y m d : ℕ) → valid_date y m d ≡ true → y < 65536
unfolding valid_date
date_year y m d e =
    let p = both_true (between 1 y year_limit) (both (between 1 m 12) (between 1 d (days_in y m))) e in
    omega (arith, within 1 y year_limit p.0)

date-back : (y m d : ℕ) → valid_date y m d ≡ true → leaf date_body (λ b. date (le16 b 0) (get_or b 2 0) (get_or b 3 0)) (date_bytes y m d) ≡ got (date y m d)
unfolding date_body date_bytes
date-back y m d e =
    let w = le16-le y (date_year y m d e) in
    leaf-back date_body (λ b. date (le16 b 0) (get_or b 2 0) (get_or b 3 0)) (date_bytes y m d) (date y m d)
    (ap (λ (x : ℕ). valid_date x m d) w ∙ e)
    (ap (λ (x : ℕ). date x m d) w)

timestamp-back : (y m d h i s : ℕ) → valid_date y m d ≡ true → valid_time h i s ≡ true → leaf timestamp_body (λ b. timestamp (le16 b 0) (get_or b 2 0) (get_or b 3 0) (get_or b 4 0) (get_or b 5 0) (get_or b 6 0)) (date_bytes y m d ++ (h ∷ (i ∷ (s ∷ [])))) ≡ got (timestamp y m d h i s)
unfolding timestamp_body date_bytes
timestamp-back y m d h i s e f =
    let w = le16-le y (date_year y m d e) in
    leaf-back timestamp_body (λ b. timestamp (le16 b 0) (get_or b 2 0) (get_or b 3 0) (get_or b 4 0) (get_or b 5 0) (get_or b 6 0)) (date_bytes y m d ++ (h ∷ (i ∷ (s ∷ [])))) (timestamp y m d h i s)
    (ap (λ (x : ℕ). both (valid_date x m d) (valid_time h i s)) w ∙ both_is (valid_date y m d) (valid_time h i s) e f)
    (ap (λ (x : ℕ). timestamp x m d h i s) w)

spatial_back : (r : ℕ) (s : List ℕ) → r < 4294967296 → 1 ≤ length s → length s ≤ text_limit → all spatial_byte s ≡ true → leaf spatial_body (λ b. spatial (le32 b 0) (drop 4 b)) (le 4 r ++ s) ≡ got (spatial r s)
unfolding spatial_body
spatial_back r s p q l e =
    leaf-back spatial_body (λ b. spatial (le32 b 0) (drop 4 b)) (le 4 r ++ s) (spatial r s)
    (both_is (between 5 (length (le 4 r ++ s)) (4 + text_limit)) (all spatial_byte s) (between_is 5 (length (le 4 r ++ s)) (4 + text_limit) (omega arith) (omega arith)) e)
    (ap (λ (x : ℕ). spatial x s) (le32-le r p))

bool_back : (b : Bool) → leaf bool_body (λ b. bool (eqb (get_or b 0 0) 1)) (pick b 1 0 ∷ []) ≡ got (bool b)
unfolding bool_body
bool_back true = refl
bool_back false = refl

operated-back : (test : Op → Bool) (make : Op → Trees → Tree) (n : ℕ) (below : Body) (o : Op) (r : List ℕ) (ts : Trees) → test o ≡ true → exactly below n r ≡ got ts → operated test make n below (le 2 (op_number o) ++ r) ≡ got (make o ts)
unfolding operated also allowed
operated-back test make n below o r ts h e =
    let l : 2 ≤ length (le 2 (op_number o) ++ r) = omega arith in
    let w = le16-le (op_number o) (omega (arith, number-below o)) in
    simp (le-ltb (length (le 2 (op_number o) ++ r)) 2 l, w, number_of o, h, e)

function_back : (below : Body) (s r : List ℕ) (ts : Trees) → name s ≡ true → ((f : ℕ) → length r ≤ f → many below f r ≡ got ts) → read_function below (counted s ++ r) ≡ got (function s ts)
unfolding read_function counted named_at also
function_back below s r ts e M =
    let b : List ℕ = length s ∷ (s ++ r) in
    let x : take (length s) (s ++ r) ≡ s = take_at s r (length s) refl in
    let y : drop (0 + 1 + length s) b ≡ r = sym (drop-drop (length s) 1 b) ∙ drop_at s r (length s) refl in
    let l : past b 0 ≤ length b = omega (arith, length-append s r) in
    simp (le-leb (past b 0) (length b) l, x, y, e, M (length r) (omega arith))

-- The tree. Each record is below the size limit since the whole is.

part_small : (k : ℕ) (a b c : List ℕ) → length (record_of k (a ++ (b ++ c))) < size_limit → (length b < size_limit) × (length c < size_limit)
part_small k a b c h =
    let e = length_record k (a ++ (b ++ c)) in
    (omega (arith, length-append a (b ++ c), length-append b c), omega (arith, length-append a (b ++ c), length-append b c))

mutual
  unfolding Good AllGood encode encodes choose kinds empty_body also first second many end

  node-back : (t : Tree) (n : ℕ) → Good t n → length (encode t) < size_limit → Back t n
  node-back null n g l = back null n 0 [] refl (omega arith) l g refl
  node-back unbounded n g l = back unbounded n 1 [] refl (omega arith) l g refl
  node-back (bool b) n g l = back (bool b) n 2 (pick b 1 0 ∷ []) refl (omega arith) l g (bool_back b)
  node-back (num m s) n g l = back (num m s) n 3 (le 8 (twos m) ++ (s ∷ [])) refl (omega arith) l g.0 (num_back m s g.1 g.2)
  node-back (str f s) n g l = back (str f s) n 4 (f ∷ s) refl (omega arith) l g.0 (str_back f s g.1 g.2 g.3)
  node-back (date y m d) n g l = back (date y m d) n 5 (date_bytes y m d) refl (omega arith) l g.0 (date-back y m d g.1)
  node-back (timestamp y m d h i s) n g l =
      back (timestamp y m d h i s) n 6 (date_bytes y m d ++ (h ∷ (i ∷ (s ∷ [])))) refl (omega arith) l g.0 (timestamp-back y m d h i s g.1 g.2)
  node-back (spatial r s) n g l = back (spatial r s) n 7 (le 4 r ++ s) refl (omega arith) l g.0 (spatial_back r s g.1 g.2 g.3 g.4)
  node-back (id s) n g l = back (id s) n 8 s refl (omega arith) l g.0 (leaf-back name (λ b. id b) s (id s) g.1 refl)
  node-back (monadic o t) n g l =
      let p = part_small 9 (le 2 (op_number o)) [] (encode t) l in
      let b : Back t (n - 1) = node-back t (n - 1) g.2 p.1 in
      back (monadic o t) n 9 (le 2 (op_number o) ++ encode t) refl (omega arith) l g.0
      (operated-back takes_one (λ o ts. monadic o (first ts)) 1 (node (n - 1)) o (encode t) (t then none) g.1 (exactly_one (n - 1) t b))
  node-back (dyadic o t u) n g l =
      let p = part_small 10 (le 2 (op_number o)) (encode t) (encode u) l in
      let b : Back t (n - 1) = node-back t (n - 1) g.2 p.0 in
      let c : Back u (n - 1) = node-back u (n - 1) g.3 p.1 in
      back (dyadic o t u) n 10 (le 2 (op_number o) ++ (encode t ++ encode u)) refl (omega arith) l g.0
      (operated-back takes_two (λ o ts. dyadic o (first ts) (second ts)) 2 (node (n - 1)) o (encode t ++ encode u) (t then (u then none)) g.1 (exactly_two (n - 1) t u b c))
  node-back (function s ts) n g l =
      let p = part_small 11 (counted s) [] (encodes ts) l in
      back (function s ts) n 11 (counted s ++ encodes ts) refl (omega arith) l g.0
      (function_back (node (n - 1)) s (encodes ts) ts g.1 (λ f h. many-back ts (n - 1) g.2 p.1 f h))
  node-back (array ts) n g l =
      let p = part_small 12 [] [] (encodes ts) l in
      back (array ts) n 12 (encodes ts) refl (omega arith) l g.0
      (ap (λ (r : Read Trees). also r (λ us. got (array us))) (many-back ts (n - 1) g.1 p.1 (length (encodes ts)) (omega arith)))
  node-back (interval t u) n g l =
      let p = part_small 13 [] (encode t) (encode u) l in
      let b : Back t (n - 1) = node-back t (n - 1) g.1 p.0 in
      let c : Back u (n - 1) = node-back u (n - 1) g.2 p.1 in
      back (interval t u) n 13 (encode t ++ encode u) refl (omega arith) l g.0
      (ap (λ (r : Read Trees). also r (λ us. got (interval (first us) (second us)))) (exactly_two (n - 1) t u b c))

  many-back : (ts : Trees) (n : ℕ) → AllGood ts n → length (encodes ts) < size_limit → (f : ℕ) → length (encodes ts) ≤ f → many (node n) f (encodes ts) ≡ got ts
  many-back none n g l zero h = refl
  many-back none n g l (suc f) h = refl
  many-back (t then ts) n g l zero h =
      let e = length-append (encode t) (encodes ts) in
      absurd (omega (arith, length_back t n (node-back t n g.0 (omega arith))))
  many-back (t then ts) n g l (suc f) h =
      let e = length-append (encode t) (encodes ts) in
      let b : Back t n = node-back t n g.0 (omega arith) in
      let k : 6 ≤ length (encode t) = length_back t n b in
      many-cons n f (encodes ts) t ts b (many-back ts n g.1 (omega arith) f (omega arith))

-- a good tree that is written is parsed
pub encode_parse : (n : ℕ) (t : Tree) → Good t n → length (encode t) < size_limit → parse n (encode t) ≡ got t
unfolding parse also first
encode_parse n t g l = ap (λ (r : Read Trees). also r (λ ts. got (first ts))) (exactly_one n t (node-back t n g l))
