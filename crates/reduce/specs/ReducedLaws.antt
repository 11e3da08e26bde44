-- Laws of specs/Reduced.antt: a reduced tree is one that can be written, and is never longer than its tree: document 02, slip 8.
use Rattle.std.specs.Prelude.{ℕ, zero, suc, ◌+◌, ◌-◌, ◌≤◌, ◌<◌, ◌≡◌, refl, List, [], ◌∷◌, ◌++◌, Bool, true, ℤ, pos, negsuc, neg_ℤ, nat_abs, length}
use Rattle.std.proofs.Common.{ap, ◌∙◌, subst, arith, length-append}
use Rattle.prelude.specs.Choice.{pick}
use Rattle.record.specs.Record.{record_of, le}
use Rattle.refusal.specs.declared.Refusal.TheVariants.{ConstantOperands}
use Rattle.op.specs.declared.Op.{Op}
use Rattle.op.specs.Op.{op_number}
use Rattle.tree.specs.Limits.{flags_limit}
use Rattle.tree.specs.Tree.{Tree, Trees, none, ◌then◌, null, unbounded, bool, num, str, date, timestamp, spatial, id, monadic, dyadic, function, array, interval, encode, encodes, twos, counted, date_bytes}
use Rattle.tree.specs.Parse.{got, also, takes_one, takes_two}
use Rattle.tree.specs.GoodWords.{Good, AllGood}
use Rattle.tree.specs.ParseLaws.{not_got, also_got}
use Rattle.reduce.specs.declared.Turn.{Turn}
use Rattle.reduce.specs.declared.Turn.TheVariants.{Keep, ToNull, ToBool, Stay, Negate, NoCase, NoAccent}
use Rattle.reduce.specs.declared.Meet.{Meet}
use Rattle.reduce.specs.declared.Meet.TheVariants.{Keeps, MeetNull, MeetBool, Clash}
use Rattle.reduce.specs.Sort.{sort_of}
use Rattle.reduce.specs.Rules.{turn, meet}
use Rattle.reduce.specs.Reduced.{minus, flagged, and_case, and_accent, turned, met, one_reduced, two_reduced, reduced, reduceds}

pub same_tree : {A : Type 0} {a b : A} → got a ≡ got b → a ≡ b
same_tree e = cc e

-- What holds of a tree and of the other Num, or of the other Str, holds of what `minus` and `flagged` make of it.
pub minus_keeps : (P : Tree → Type 0) → ((m : ℤ) (s : ℕ) → P (num m s) → P (num (neg_ℤ m) s)) → (t : Tree) → P t → P (minus t)
unfolding minus
minus_keeps P q null e = e
minus_keeps P q unbounded e = e
minus_keeps P q (bool b) e = e
minus_keeps P q (num m s) e = q m s e
minus_keeps P q (str f s) e = e
minus_keeps P q (date y m d) e = e
minus_keeps P q (timestamp y m d h i s) e = e
minus_keeps P q (spatial r s) e = e
minus_keeps P q (id s) e = e
minus_keeps P q (monadic o t) e = e
minus_keeps P q (dyadic o t u) e = e
minus_keeps P q (function r ts) e = e
minus_keeps P q (array ts) e = e
minus_keeps P q (interval t u) e = e

pub flagged_keeps : (P : Tree → Type 0) (j : ℕ → ℕ) → ((f : ℕ) (s : List ℕ) → P (str f s) → P (str (j f) s)) → (t : Tree) → P t → P (flagged j t)
unfolding flagged
flagged_keeps P j g null e = e
flagged_keeps P j g unbounded e = e
flagged_keeps P j g (bool b) e = e
flagged_keeps P j g (num m s) e = e
flagged_keeps P j g (str f s) e = g f s e
flagged_keeps P j g (date y m d) e = e
flagged_keeps P j g (timestamp y m d h i s) e = e
flagged_keeps P j g (spatial r s) e = e
flagged_keeps P j g (id s) e = e
flagged_keeps P j g (monadic o t) e = e
flagged_keeps P j g (dyadic o t u) e = e
flagged_keeps P j g (function r ts) e = e
flagged_keeps P j g (array ts) e = e
flagged_keeps P j g (interval t u) e = e

-- ---- Good: depth, operators and fields.

mutual
  unfolding Good AllGood

  pub good_up : (t : Tree) (n k : ℕ) → n ≤ k → Good t n → Good t k
  good_up null n k l g = omega arith
  good_up unbounded n k l g = omega arith
  good_up (bool b) n k l g = omega arith
  good_up (num m s) n k l g = (omega (arith, g.0), g.1, g.2)
  good_up (str f s) n k l g = (omega (arith, g.0), g.1, g.2, g.3)
  good_up (date y m d) n k l g = (omega (arith, g.0), g.1)
  good_up (timestamp y m d h i s) n k l g = (omega (arith, g.0), g.1, g.2)
  good_up (spatial r s) n k l g = (omega (arith, g.0), g.1, g.2, g.3, g.4)
  good_up (id s) n k l g = (omega (arith, g.0), g.1)
  good_up (monadic o t) n k l g = (omega (arith, g.0), g.1, good_up t (n - 1) (k - 1) (omega arith) g.2)
  good_up (dyadic o t u) n k l g = (omega (arith, g.0), g.1, good_up t (n - 1) (k - 1) (omega arith) g.2, good_up u (n - 1) (k - 1) (omega arith) g.3)
  good_up (function r ts) n k l g = (omega (arith, g.0), g.1, all_up ts (n - 1) (k - 1) (omega arith) g.2)
  good_up (array ts) n k l g = (omega (arith, g.0), all_up ts (n - 1) (k - 1) (omega arith) g.1)
  good_up (interval t u) n k l g = (omega (arith, g.0), good_up t (n - 1) (k - 1) (omega arith) g.1, good_up u (n - 1) (k - 1) (omega arith) g.2)

  all_up : (ts : Trees) (n k : ℕ) → n ≤ k → AllGood ts n → AllGood ts k
  all_up none n k l g = tt
  all_up (t then ts) n k l g = (good_up t n k l g.0, all_up ts n k l g.1)

abs_negative : (m : ℤ) → nat_abs (neg_ℤ m) ≡ nat_abs m
abs_negative (pos zero) = refl
abs_negative (pos (suc n)) = refl
abs_negative (negsuc n) = refl

minus_good : (t : Tree) (n : ℕ) → Good t n → Good (minus t) n
unfolding Good
minus_good t n = minus_keeps (λ v. Good v n) (λ m s g. (g.0, omega (arith, g.1, abs_negative m), g.2)) t

flagged_good : (j : ℕ → ℕ) (t : Tree) (n : ℕ) → ((f : ℕ) → f ≤ flags_limit → j f ≤ flags_limit) → Good t n → Good (flagged j t) n
unfolding Good
flagged_good j t n l = flagged_keeps (λ v. Good v n) j (λ f s g. (g.0, l f g.1, g.2, g.3)) t

turned_good : (c : Turn) (o : Op) (v : Tree) (n : ℕ) → 0 < n → takes_one o ≡ true → Good v (n - 1) → Good (turned c o v) n
unfolding Good turned
turned_good Keep o v n l e g = (l, e, g)
turned_good ToNull o v n l e g = l
turned_good (ToBool b) o v n l e g = l
turned_good Stay o v n l e g = good_up v (n - 1) n (omega arith) g
turned_good Negate o v n l e g = minus_good v n (good_up v (n - 1) n (omega arith) g)
turned_good NoCase o v n l e g = flagged_good and_case v n (λ f h. omega arith) (good_up v (n - 1) n (omega arith) g)
turned_good NoAccent o v n l e g = flagged_good and_accent v n (λ f h. omega arith) (good_up v (n - 1) n (omega arith) g)

met_good : (c : Meet) (o : Op) (a b u : Tree) (n : ℕ) → 0 < n → takes_two o ≡ true → Good a (n - 1) → Good b (n - 1) → met c o a b ≡ got u → Good u n
unfolding Good met
met_good Keeps o a b u n l e g h q = subst (λ (x : Tree). Good x n) (same_tree q) (l, e, g, h)
met_good MeetNull o a b u n l e g h q = subst (λ (x : Tree). Good x n) (same_tree q) l
met_good (MeetBool c) o a b u n l e g h q = subst (λ (x : Tree). Good x n) (same_tree q) l
met_good Clash o a b u n l e g h q = not_got ConstantOperands u q

mutual
  unfolding Good AllGood reduced reduceds one_reduced two_reduced

  -- a reduced tree has no more levels, operators that their kinds take, and fields within their rules: 3 to 6 do not refuse it
  pub reduced_good : (t u : Tree) (n : ℕ) → Good t n → reduced t ≡ got u → Good u n
  reduced_good null v n g e = subst (λ (x : Tree). Good x n) (same_tree e) g
  reduced_good unbounded v n g e = subst (λ (x : Tree). Good x n) (same_tree e) g
  reduced_good (bool b) v n g e = subst (λ (x : Tree). Good x n) (same_tree e) g
  reduced_good (num m s) v n g e = subst (λ (x : Tree). Good x n) (same_tree e) g
  reduced_good (str f s) v n g e = subst (λ (x : Tree). Good x n) (same_tree e) g
  reduced_good (date y m d) v n g e = subst (λ (x : Tree). Good x n) (same_tree e) g
  reduced_good (timestamp y m d h i s) v n g e = subst (λ (x : Tree). Good x n) (same_tree e) g
  reduced_good (spatial r s) v n g e = subst (λ (x : Tree). Good x n) (same_tree e) g
  reduced_good (id s) v n g e = subst (λ (x : Tree). Good x n) (same_tree e) g
  reduced_good (monadic o t) u n g e =
      let p = also_got (reduced t) (λ v. got (one_reduced o v)) u e in
      subst (λ (x : Tree). Good x n) (same_tree p.2) (turned_good (turn o (sort_of p.0)) o p.0 n g.0 g.1 (reduced_good t p.0 (n - 1) g.2 p.1))
  reduced_good (dyadic o t s) u n g e =
      let p = also_got (reduced t) (λ a. also (reduced s) (λ b. two_reduced o a b)) u e in
      let q = also_got (reduced s) (λ b. two_reduced o p.0 b) u p.2 in
      met_good (meet o (sort_of p.0) (sort_of q.0)) o p.0 q.0 u n g.0 g.1 (reduced_good t p.0 (n - 1) g.2 p.1) (reduced_good s q.0 (n - 1) g.3 q.1) q.2
  reduced_good (function r ts) u n g e =
      let p = also_got (reduceds ts) (λ us. got (function r us)) u e in
      subst (λ (x : Tree). Good x n) (same_tree p.2) (g.0, g.1, reduceds_good ts p.0 (n - 1) g.2 p.1)
  reduced_good (array ts) u n g e =
      let p = also_got (reduceds ts) (λ us. got (array us)) u e in
      subst (λ (x : Tree). Good x n) (same_tree p.2) (g.0, reduceds_good ts p.0 (n - 1) g.1 p.1)
  reduced_good (interval t s) u n g e =
      let p = also_got (reduced t) (λ a. also (reduced s) (λ b. got (interval a b))) u e in
      let q = also_got (reduced s) (λ b. got (interval p.0 b)) u p.2 in
      subst (λ (x : Tree). Good x n) (same_tree q.2) (g.0, reduced_good t p.0 (n - 1) g.1 p.1, reduced_good s q.0 (n - 1) g.2 q.1)

  reduceds_good : (ts us : Trees) (n : ℕ) → AllGood ts n → reduceds ts ≡ got us → AllGood us n
  reduceds_good none us n g e = subst (λ (x : Trees). AllGood x n) (same_tree e) g
  reduceds_good (t then ts) us n g e =
      let p = also_got (reduced t) (λ v. also (reduceds ts) (λ xs. got (v then xs))) us e in
      let q = also_got (reduceds ts) (λ xs. got (p.0 then xs)) us p.2 in
      subst (λ (x : Trees). AllGood x n) (same_tree q.2) (reduced_good t p.0 n g.0 p.1, reduceds_good ts q.0 n g.1 q.1)

-- ---- Length.

size : Tree → ℕ
size t = length (encode t)

record_size : (k : ℕ) (b : List ℕ) → length (record_of k b) ≡ length b + 6
unfolding record_of
record_size k b = omega arith

pub least_size : (t : Tree) → 6 ≤ length (encode t)
unfolding encode
least_size null = omega (arith, record_size 0 [])
least_size unbounded = omega (arith, record_size 1 [])
least_size (bool b) = omega (arith, record_size 2 (pick b 1 0 ∷ []))
least_size (num m s) = omega (arith, record_size 3 (le 8 (twos m) ++ (s ∷ [])))
least_size (str f s) = omega (arith, record_size 4 (f ∷ s))
least_size (date y m d) = omega (arith, record_size 5 (date_bytes y m d))
least_size (timestamp y m d h i s) = omega (arith, record_size 6 (date_bytes y m d ++ (h ∷ (i ∷ (s ∷ [])))))
least_size (spatial r s) = omega (arith, record_size 7 (le 4 r ++ s))
least_size (id s) = omega (arith, record_size 8 s)
least_size (monadic o t) = omega (arith, record_size 9 (le 2 (op_number o) ++ encode t))
least_size (dyadic o t u) = omega (arith, record_size 10 (le 2 (op_number o) ++ (encode t ++ encode u)))
least_size (function r ts) = omega (arith, record_size 11 (counted r ++ encodes ts))
least_size (array ts) = omega (arith, record_size 12 (encodes ts))
least_size (interval t u) = omega (arith, record_size 13 (encode t ++ encode u))

minus_size : (t : Tree) → length (encode (minus t)) ≡ length (encode t)
unfolding encode record_of
minus_size t = minus_keeps (λ v. length (encode v) ≡ length (encode t)) (λ m s e. e) t refl

flagged_size : (j : ℕ → ℕ) (t : Tree) → length (encode (flagged j t)) ≡ length (encode t)
unfolding encode record_of
flagged_size j t = flagged_keeps (λ v. length (encode v) ≡ length (encode t)) j (λ f s e. e) t refl

null_size : length (encode null) ≡ 6
unfolding encode record_of
null_size = refl

bool_size : (b : Bool) → length (encode (bool b)) ≡ 7
unfolding encode record_of
bool_size b = refl

pub monadic_size : (o : Op) (t : Tree) → length (encode (monadic o t)) ≡ 8 + length (encode t)
unfolding encode
monadic_size o t = record_size 9 (le 2 (op_number o) ++ encode t) ∙ omega arith

pub dyadic_size : (o : Op) (t u : Tree) → length (encode (dyadic o t u)) ≡ 8 + (length (encode t) + length (encode u))
unfolding encode
dyadic_size o t u = record_size 10 (le 2 (op_number o) ++ (encode t ++ encode u)) ∙ omega (arith, length-append (encode t) (encode u))

interval_size : (t u : Tree) → length (encode (interval t u)) ≡ 6 + (length (encode t) + length (encode u))
unfolding encode
interval_size t u = record_size 13 (encode t ++ encode u) ∙ omega (arith, length-append (encode t) (encode u))

array_size : (ts : Trees) → length (encode (array ts)) ≡ 6 + length (encodes ts)
unfolding encode
array_size ts = record_size 12 (encodes ts) ∙ omega arith

function_size : (r : List ℕ) (ts : Trees) → length (encode (function r ts)) ≡ 7 + (length r + length (encodes ts))
unfolding encode counted
function_size r ts = record_size 11 (counted r ++ encodes ts) ∙ omega (arith, length-append r (encodes ts))

then_size : (t : Tree) (ts : Trees) → length (encodes (t then ts)) ≡ length (encode t) + length (encodes ts)
unfolding encodes
then_size t ts = length-append (encode t) (encodes ts)

turned_size : (c : Turn) (o : Op) (v : Tree) → length (encode (turned c o v)) ≤ 8 + length (encode v)
unfolding turned
turned_size Keep o v = omega (arith, monadic_size o v)
turned_size ToNull o v = omega (arith, null_size)
turned_size (ToBool b) o v = omega (arith, bool_size b)
turned_size Stay o v = omega arith
turned_size Negate o v = omega (arith, minus_size v)
turned_size NoCase o v = omega (arith, flagged_size and_case v)
turned_size NoAccent o v = omega (arith, flagged_size and_accent v)

met_size : (c : Meet) (o : Op) (a b u : Tree) → met c o a b ≡ got u → length (encode u) ≤ 8 + (length (encode a) + length (encode b))
unfolding met
met_size Keeps o a b u q = omega (arith, dyadic_size o a b, ap (λ (x : Tree). length (encode x)) (same_tree q))
met_size MeetNull o a b u q = omega (arith, null_size, ap (λ (x : Tree). length (encode x)) (same_tree q))
met_size (MeetBool c) o a b u q = omega (arith, bool_size c, ap (λ (x : Tree). length (encode x)) (same_tree q))
met_size Clash o a b u q = not_got ConstantOperands u q

mutual
  unfolding reduced reduceds one_reduced two_reduced

  -- a reduced tree is never longer than its tree
  pub reduced_short : (t u : Tree) → reduced t ≡ got u → length (encode u) ≤ length (encode t)
  reduced_short null v e = omega (arith, ap (λ (x : Tree). length (encode x)) (same_tree e))
  reduced_short unbounded v e = omega (arith, ap (λ (x : Tree). length (encode x)) (same_tree e))
  reduced_short (bool b) v e = omega (arith, ap (λ (x : Tree). length (encode x)) (same_tree e))
  reduced_short (num m s) v e = omega (arith, ap (λ (x : Tree). length (encode x)) (same_tree e))
  reduced_short (str f s) v e = omega (arith, ap (λ (x : Tree). length (encode x)) (same_tree e))
  reduced_short (date y m d) v e = omega (arith, ap (λ (x : Tree). length (encode x)) (same_tree e))
  reduced_short (timestamp y m d h i s) v e = omega (arith, ap (λ (x : Tree). length (encode x)) (same_tree e))
  reduced_short (spatial r s) v e = omega (arith, ap (λ (x : Tree). length (encode x)) (same_tree e))
  reduced_short (id s) v e = omega (arith, ap (λ (x : Tree). length (encode x)) (same_tree e))
  reduced_short (monadic o t) u e =
      let p = also_got (reduced t) (λ v. got (one_reduced o v)) u e in
      omega (arith, turned_size (turn o (sort_of p.0)) o p.0, ap (λ (x : Tree). length (encode x)) (same_tree p.2), reduced_short t p.0 p.1, monadic_size o t)
  reduced_short (dyadic o t s) u e =
      let p = also_got (reduced t) (λ a. also (reduced s) (λ b. two_reduced o a b)) u e in
      let q = also_got (reduced s) (λ b. two_reduced o p.0 b) u p.2 in
      omega (arith, met_size (meet o (sort_of p.0) (sort_of q.0)) o p.0 q.0 u q.2, reduced_short t p.0 p.1, reduced_short s q.0 q.1, dyadic_size o t s)
  reduced_short (function r ts) u e =
      let p = also_got (reduceds ts) (λ us. got (function r us)) u e in
      omega (arith, ap (λ (x : Tree). length (encode x)) (same_tree p.2), function_size r ts, function_size r p.0, reduceds_short ts p.0 p.1)
  reduced_short (array ts) u e =
      let p = also_got (reduceds ts) (λ us. got (array us)) u e in
      omega (arith, ap (λ (x : Tree). length (encode x)) (same_tree p.2), array_size ts, array_size p.0, reduceds_short ts p.0 p.1)
  reduced_short (interval t s) u e =
      let p = also_got (reduced t) (λ a. also (reduced s) (λ b. got (interval a b))) u e in
      let q = also_got (reduced s) (λ b. got (interval p.0 b)) u p.2 in
      omega (arith, ap (λ (x : Tree). length (encode x)) (same_tree q.2), interval_size t s, interval_size p.0 q.0, reduced_short t p.0 p.1, reduced_short s q.0 q.1)

  reduceds_short : (ts us : Trees) → reduceds ts ≡ got us → length (encodes us) ≤ length (encodes ts)
  reduceds_short none us e = omega (arith, ap (λ (x : Trees). length (encodes x)) (same_tree e))
  reduceds_short (t then ts) us e =
      let p = also_got (reduced t) (λ v. also (reduceds ts) (λ xs. got (v then xs))) us e in
      let q = also_got (reduceds ts) (λ xs. got (p.0 then xs)) us p.2 in
      omega (arith, ap (λ (x : Trees). length (encodes x)) (same_tree q.2), then_size t ts, then_size p.0 q.0, reduced_short t p.0 p.1, reduceds_short ts q.0 q.1)
