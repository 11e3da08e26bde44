-- Records one after the other: so many are reduced and written, the rest is still to come; and a Function, Array or Interval of them.
use Prim.Native.Nat.{ℕ, ◌+◌, ◌-◌, ◌≤◌, ◌<◌}
use mathlib.Core.Path.{◌≡◌, refl, ap, sym, ◌∙◌, subst}
use mathlib.Core.List.{List, [], ◌++◌, append_assoc, append-nil}
use native.Mathlib.Omega.{arith}
use lib.ListN.{length, take, drop, length-append, length-drop}
use lib.Seq.{sets, take_all, drop_at, take_at, length-sets, drop-drop}
use Rattle.record.specs.Record.{le16, le32, record_of}
use Rattle.tree.specs.Limits.{tree_limit}
use Rattle.tree.specs.GoodWords.{Good, AllGood}
use Rattle.tree.specs.Tree.{Tree, Trees, none, ◌then◌, encode, encodes, null, unbounded, bool, num, str, date, timestamp, spatial, id, monadic, dyadic, function, array, interval, kind_of}
use Rattle.tree.specs.Parse.{Read, refused, got, also}
use Rattle.tree.specs.ParseLaws.{also_got, not_got}
use Rattle.std.specs.Prelude.{Result, Ok, Err}
use Rattle.refusal.specs.declared.Refusal.{Refusal}
use Rattle.reduce.specs.declared.Operand.{Operand}
use Rattle.reduce.specs.declared.Sort.{Sort}
use Rattle.reduce.specs.declared.Sort.TheVariants as sort
use Rattle.reduce.specs.Sort.{sort_of}
use Rattle.reduce.specs.Reduced.{reduced, reduceds}
use Rattle.reduce.specs.ReducedLaws.{least_size, reduced_short, same_tree}
use Rattle.reduce.specs.WalkWords.{Placed, Holds, fails, done, Folds, Row, Lists, stops, lists, frame_of, name_of, operand, done_at}
use Rattle.reduce.proofs.NodeLaws.{part, kind_of_lem, size_at, part_at, beyond, part_length}
use Rattle.reduce.proofs.RoomLaws.{holds_sets, holds_then, keep_record}
use Rattle.reduce.proofs.StepLaws.{Reduces, failed, found}

-- ---- So far.

pub record Sofar (s : List ℕ) (at : ℕ) (ts : Trees) (n p here : ℕ) (l m : List ℕ) : Type 0 where
  pub rest : Trees
  pub bytes : drop p s ≡ encodes rest
  pub good : AllGood rest n
  pub text : List ℕ
  pub stands : here ≡ at + length text
  pub holds : Holds at text l m
  pub inside : p ≤ length s
  pub short : here + (length s - p) ≤ at + length s
  pub goes : (us : Trees) → reduceds rest ≡ got us → (vs : Trees) × (reduceds ts ≡ got vs) × (encodes vs ≡ text ++ encodes us)
  pub refuses : (k : Refusal) → reduceds rest ≡ refused k → reduceds ts ≡ refused k

holds_nothing : (at : ℕ) (l : List ℕ) → at ≤ length l → Holds at [] l l
holds_nothing at l h = let z : at + 0 ≡ at = omega arith in record { kept = refl; fits = omega arith; front = ap (λ (i : ℕ). take i l) z ∙ sym (append-nil (take at l)) }

pub so_start : (s : List ℕ) (at : ℕ) (l : List ℕ) → Row s at l → (ts : Trees) (n : ℕ) → s ≡ encodes ts → AllGood ts n → Sofar s at ts n 0 at l l
so_start s at l r ts n e g = record {
  rest = ts;
  bytes = e;
  good = g;
  text = [];
  stands = omega arith;
  holds = holds_nothing at l (omega (arith, r.fits));
  inside = omega arith;
  short = omega arith;
  goes = λ us q. (us, q, refl);
  refuses = λ k q. q;
}

then_fails : (t : Tree) (ts : Trees) (k : Refusal) → reduced t ≡ refused k → reduceds (t then ts) ≡ refused k
unfolding reduceds also
then_fails t ts k e = rw e refl

then_rest_fails : (t v : Tree) (ts : Trees) (k : Refusal) → reduced t ≡ got v → reduceds ts ≡ refused k → reduceds (t then ts) ≡ refused k
unfolding reduceds also
then_rest_fails t v ts k e f = rw (e, f) refl

then_gets : (t v : Tree) (ts us : Trees) → reduced t ≡ got v → reduceds ts ≡ got us → reduceds (t then ts) ≡ got (v then us)
unfolding reduceds also
then_gets t v ts us e f = rw (e, f) refl

none_gets : reduceds none ≡ got none
unfolding reduceds
none_gets = refl

none_bytes : encodes none ≡ []
unfolding encodes
none_bytes = refl

then-bytes : (t : Tree) (ts : Trees) → encodes (t then ts) ≡ encode t ++ encodes ts
unfolding encodes
then-bytes t ts = refl

then_good : (t : Tree) (ts : Trees) (n : ℕ) → AllGood (t then ts) n → Good t n × AllGood ts n
unfolding AllGood
then_good t ts n g = g

-- the next of them
pub record Next (s : List ℕ) (p n : ℕ) (rest : Trees) : Type 0 where
  pub item : Tree
  pub after : Trees
  pub is : rest ≡ item then after
  pub there : drop p s ≡ encode item ++ encodes after
  pub fit : Good item n
  pub fits : AllGood after n

pub next : (s : List ℕ) (p n : ℕ) (rest : Trees) → p < length s → drop p s ≡ encodes rest → AllGood rest n → Next s p n rest
next s p n none h e g = let a = length-drop p s in let b : length (drop p s) ≡ 0 = ap length (e ∙ none_bytes) in absurd (let v : ⊥ = omega arith in v)
next s p n (t then ts) h e g = let q = then_good t ts n g in record { item = t; after = ts; is = refl; there = e ∙ then-bytes t ts; fit = q.0; fits = q.1 }

-- where it ends
end_of : (s : List ℕ) (p n d : ℕ) (rest : Trees) (x : Next s p n rest) → length s ≤ tree_limit → p ≤ length s → d ≡ le32 s p → (p + 4 + d ≡ p + length (encode x.item)) × (p + length (encode x.item) ≤ length s)
end_of s p n d rest x h k e =
    let a : length s - p ≡ length (encode x.item) + length (encodes x.after) = sym (length-drop p s) ∙ ap length x.there ∙ length-append (encode x.item) (encodes x.after) in
    let b = size_at s p x.item (encodes x.after) x.there (omega arith) in
    (omega arith, omega arith)

-- the loop knows this of any trees whose records s is
abbrev pub Loop : List ℕ → ℕ → ℕ → ℕ → List ℕ → List ℕ → Type 0
Loop s at p here l m = (ts : Trees) (n : ℕ) → s ≡ encodes ts → AllGood ts n → Sofar s at ts n p here l m

module _ (s : List ℕ) (at p here : ℕ) (l m : List ℕ) (r : Row s at l) (f : Loop s at p here l m) where
  pub so : Sofar s at r.trees r.levels p here l m
  so = f r.trees r.levels r.whole r.good

  small : length s ≤ tree_limit
  small = omega (arith, r.fits, r.small)

  pub so_inside : p ≤ length s
  so_inside = so.inside

  pub item_ends : (d : ℕ) → p < length s → d ≡ le32 s p → (d ≤ tree_limit) × (p < p + 4 + d) × (p + 4 + d ≤ length s)
  item_ends d h e =
      let x = next s p r.levels so.rest h so.bytes so.good in
      let y = end_of s p r.levels d so.rest x small so.inside e in
      let z = small in
      (omega (arith, y.0, y.1), omega arith, omega (arith, y.0, y.1))

  pub item_length : (d : ℕ) → p < length s → d ≡ le32 s p → length (part s p (p + 4 + d)) ≤ length s
  item_length d h e = let q = item_ends d h e in let z = part_length s p (p + 4 + d) (omega (arith, q.1)) q.2 in omega (arith, q.2)

  pub item_placed : (d : ℕ) → p < length s → d ≡ le32 s p → Placed (part s p (p + 4 + d)) here m
  item_placed d h e =
      let x = next s p r.levels so.rest h so.bytes so.good in
      let y = end_of s p r.levels d so.rest x small so.inside e in
      let w = part_at s p (p + 4 + d) x.item (encodes x.after) x.there y.0 in
      record {
        of = record { tree = x.item; levels = r.levels; whole = w; good = x.fit };
        fits = omega (arith, ap length w, y.1, so.short, so.holds.kept, so.inside, r.fits);
        small = omega (arith, so.holds.kept, r.small);
      }

  pub item_fails : {d : ℕ} {k : List ℕ} {v : Refusal} {o : Result ℕ Refusal} → p < length s → d ≡ le32 s p → Reduces here (part s p (p + 4 + d)) m k (Err v) → o ≡ Err v
      → (ts : Trees) (n : ℕ) → s ≡ encodes ts → AllGood ts n → Lists at (reduceds ts) l k o
  item_fails {d} {k} {v} h e w z ts n i g =
      let c = f ts n i g in
      let x = next s p n c.rest h c.bytes c.good in
      let y = end_of s p n d c.rest x small c.inside e in
      let q = failed (w x.item n (part_at s p (p + 4 + d) x.item (encodes x.after) x.there y.0) x.fit) in
      stops v (c.refuses v (ap reduceds x.is ∙ then_fails x.item x.after v q.0)) z (q.1 ∙ c.holds.kept)

  pub item_next : {d : ℕ} {k : List ℕ} {a : Operand} → p < length s → d ≡ le32 s p → Reduces here (part s p (p + 4 + d)) m k (Ok a) → Loop s at (p + 4 + d) a.end l k
  item_next {d} {k} h e w ts n i g =
      let c = f ts n i g in
      let x = next s p n c.rest h c.bytes c.good in
      let y = end_of s p n d c.rest x small c.inside e in
      let q = found (w x.item n (part_at s p (p + 4 + d) x.item (encodes x.after) x.there y.0) x.fit) in
      let v = q.tree in
      let a = reduced_short x.item v q.is in
      let here_holds : Holds (at + length c.text) (encode v) m k = subst (λ (j : ℕ). Holds j (encode v) m k) c.stands q.holds in
      record {
        rest = x.after;
        bytes = beyond s p (p + 4 + d) x.item (encodes x.after) x.there y.0;
        good = x.fits;
        text = c.text ++ encode v;
        stands = omega (arith, q.stops, c.stands, length-append c.text (encode v));
        holds = holds_then c.holds here_holds;
        inside = omega (arith, y.0, y.1);
        short = omega (arith, q.stops, y.0, y.1, c.short, c.inside);
        goes = λ us j.
            let b = c.goes (v then us) (ap reduceds x.is ∙ then_gets x.item v x.after us q.is j) in
            (b.0, b.1, b.2 ∙ ap (λ (o : List ℕ). c.text ++ o) (then-bytes v us) ∙ sym (append_assoc c.text (encode v) (encodes us)));
        refuses = λ o j. c.refuses o (ap reduceds x.is ∙ then_rest_fails x.item v x.after o q.is j);
      }

  pub list_ends : length s ≤ p → (ts : Trees) (n : ℕ) → s ≡ encodes ts → AllGood ts n → Lists at (reduceds ts) l m (Ok here)
  list_ends h ts n i g =
      let c = f ts n i g in
      let a = length-drop p s in
      let q : c.rest ≡ none = nothing c.rest (omega (arith, sym (ap length c.bytes))) in
      let b = c.goes none (ap reduceds q ∙ none_gets) in
      let w : encodes b.0 ≡ c.text = b.2 ∙ ap (λ (j : List ℕ). c.text ++ j) none_bytes ∙ append-nil c.text in
      lists b.0 b.1 (ap (λ (j : ℕ). Ok j) (c.stands ∙ ap (λ (j : List ℕ). at + length j) (sym w))) (subst (λ (j : List ℕ). Holds at j l m) (sym w) c.holds)
    where
      nothing : (rest : Trees) → length (encodes rest) ≡ 0 → rest ≡ none
      nothing none e = refl
      nothing (t then ts) e = let z = least_size t in let y = length-append (encode t) (encodes ts) in let x : length (encodes (t then ts)) ≡ length (encode t ++ encodes ts) = ap length (then-bytes t ts) in absurd (let v : ⊥ = omega arith in v)

-- ---- A Function, Array or Interval.

pub record Listed (t : Tree) (n : ℕ) : Type 0 where
  pub items : Trees
  pub written : encode t ≡ record_of (kind_of t) (name_of t ++ encodes items)
  pub good : AllGood items (n - 1)
  pub refuses : (k : Refusal) → reduceds items ≡ refused k → reduced t ≡ refused k
  pub gets : (us : Trees) → reduceds items ≡ got us → (u : Tree) × (reduced t ≡ got u) × (encode u ≡ record_of (kind_of t) (name_of t ++ encodes us)) × (sort_of u ≡ sort.Other)

function_listed : (r : List ℕ) (ts : Trees) (n : ℕ) → Good (function r ts) n → Listed (function r ts) n
unfolding encode Good reduced also sort_of
function_listed r ts n g = record { items = ts; written = refl; good = g.2; refuses = λ k e. rw e refl; gets = λ us e. (function r us, rw e refl, refl, refl) }

array_listed : (ts : Trees) (n : ℕ) → Good (array ts) n → Listed (array ts) n
unfolding encode Good reduced also sort_of
array_listed ts n g = record { items = ts; written = refl; good = g.1; refuses = λ k e. rw e refl; gets = λ us e. (array us, rw e refl, refl, refl) }

pair_refused : (t u : Tree) (x y : Read Tree) (k : Refusal) → reduced t ≡ x → reduced u ≡ y → reduceds (t then (u then none)) ≡ refused k → reduced (interval t u) ≡ refused k
unfolding reduced reduceds also
pair_refused t u (refused a) y k e f z =
    let w : reduceds (t then (u then none)) ≡ refused a = rw e refl in
    let q : ◌≡◌ {A = Read Trees} (refused a) (refused k) = sym w ∙ z in
    let b : a ≡ k = cc in
    rw e (ap refused b)
pair_refused t u (got a) (refused b) k e f z =
    let w : reduceds (t then (u then none)) ≡ refused b = rw (e, f) refl in
    let q : ◌≡◌ {A = Read Trees} (refused b) (refused k) = sym w ∙ z in
    let c : b ≡ k = cc in
    rw (e, f) (ap refused c)
pair_refused t u (got a) (got b) k e f z =
    let w : reduceds (t then (u then none)) ≡ got (a then (b then none)) = rw (e, f) refl in
    not_got k (a then (b then none)) (sym z ∙ w)

pair_gets : (t u : Tree) (us : Trees) → reduceds (t then (u then none)) ≡ got us → (a b : Tree) × (reduced t ≡ got a) × (reduced u ≡ got b) × (us ≡ a then (b then none))
unfolding reduceds also
pair_gets t u us e =
    let p = also_got (reduced t) (λ v. also (also (reduced u) (λ w. also (got none) (λ xs. got (w then xs)))) (λ xs. got (v then xs))) us e in
    let q = also_got (also (reduced u) (λ w. also (got none) (λ xs. got (w then xs)))) (λ xs. got (p.0 then xs)) us p.2 in
    let r = also_got (reduced u) (λ w. also (got none) (λ xs. got (w then xs))) q.0 q.1 in
    (p.0, r.0, p.1, r.1, sym (same_tree q.2) ∙ ap (λ (x : Trees). p.0 then x) (last r.0 q.0 r.2))
  where
    last : (b : Tree) (xs : Trees) → got (b then none) ≡ got xs → xs ≡ b then none
    last b xs z = sym (same_tree z)

interval_gets : (t u a b : Tree) → reduced t ≡ got a → reduced u ≡ got b → reduced (interval t u) ≡ got (interval a b)
unfolding reduced also
interval_gets t u a b e f = rw (e, f) refl

interval_sort : (a b : Tree) → sort_of (interval a b) ≡ sort.Other
unfolding sort_of
interval_sort a b = refl

interval_listed : (t u : Tree) (n : ℕ) → Good (interval t u) n → Listed (interval t u) n
unfolding encode encodes Good AllGood
interval_listed t u n g = record {
  items = t then (u then none);
  written = ap (λ (l : List ℕ). record_of 13 (encode t ++ l)) (sym (append-nil (encode u)));
  good = (g.1, (g.2, tt));
  refuses = λ k e. pair_refused t u (reduced t) (reduced u) k refl refl e;
  gets = λ us e.
      let p = pair_gets t u us e in
      let a = p.0 in
      let b = p.1 in
      let w : encodes us ≡ encode a ++ (encode b ++ []) = ap encodes p.4 in
      (interval a b, interval_gets t u a b p.2 p.3, ap (λ (l : List ℕ). record_of 13 (encode a ++ l)) (sym (append-nil (encode b))) ∙ ap (record_of 13) (sym w), interval_sort a b);
}

pub listed : (t : Tree) (n : ℕ) → 11 ≤ kind_of t → Good t n → Listed t n
listed null n l g = absurd (let v : ⊥ = omega arith in v)
listed unbounded n l g = absurd (let v : ⊥ = omega arith in v)
listed (bool b) n l g = absurd (let v : ⊥ = omega arith in v)
listed (num m s) n l g = absurd (let v : ⊥ = omega arith in v)
listed (str f s) n l g = absurd (let v : ⊥ = omega arith in v)
listed (date y m d) n l g = absurd (let v : ⊥ = omega arith in v)
listed (timestamp y m d h i s) n l g = absurd (let v : ⊥ = omega arith in v)
listed (spatial r s) n l g = absurd (let v : ⊥ = omega arith in v)
listed (id s) n l g = absurd (let v : ⊥ = omega arith in v)
listed (monadic o t) n l g = absurd (let v : ⊥ = omega arith in v)
listed (dyadic o t u) n l g = absurd (let v : ⊥ = omega arith in v)
listed (function r ts) n l g = function_listed r ts n g
listed (array ts) n l g = array_listed ts n g
listed (interval t u) n l g = interval_listed t u n g

-- what `items_at` ensures
abbrev pub At : List ℕ → ℕ → ℕ → Type 0
At s kind p = (t : Tree) → s ≡ encode t → kind ≡ le16 s 4 → 11 ≤ kind → p ≡ 6 + length (name_of t)

-- what the call of `fold_list` ensures
abbrev pub Items : List ℕ → ℕ → ℕ → List ℕ → List ℕ → Result ℕ Refusal → Type 0
Items s p from m m' r = (ts : Trees) (n : ℕ) → part s p (length s) ≡ encodes ts → AllGood ts n → Lists from (reduceds ts) m m' r

record_body : (k : ℕ) (x : List ℕ) → drop 6 (record_of k x) ≡ x
unfolding record_of
record_body k x = refl

record_length : (k : ℕ) (x : List ℕ) → length (record_of k x) ≡ 6 + length x
unfolding record_of
record_length k x = omega arith

answer-is : (at end : ℕ) (u : Tree) → end ≡ at + length (encode u) → sort_of u ≡ sort.Other → operand end sort.Other ≡ done_at at u
unfolding done_at
answer-is at end u e f = ap (λ (i : ℕ). operand i sort.Other) e ∙ ap (λ (i : Sort). operand (at + length (encode u)) i) (sym f)

body_of : (s : List ℕ) (t : Tree) (x : List ℕ) (k : ℕ) → s ≡ encode t → encode t ≡ record_of k x → (drop 6 s ≡ x) × (length s ≡ 6 + length x)
body_of s t x k e w = (ap (λ (l : List ℕ). drop 6 l) (e ∙ w) ∙ record_body k x, ap length (e ∙ w) ∙ record_length k x)

module _ (s : List ℕ) (at kind p : ℕ) (l : List ℕ) (a : At s kind p) (k : kind ≡ le16 s 4) (h : 11 ≤ kind) where
  high : (t : Tree) → s ≡ encode t → 11 ≤ kind_of t
  high t e = let z = kind_of_lem s t e in omega arith

  -- the name, and behind it the items
  pub record Parts (t : Tree) (n : ℕ) : Type 0 where
    pub of : Listed t n
    pub starts : p ≡ 6 + length (name_of t)
    pub name : part s 6 p ≡ name_of t
    pub body : part s p (length s) ≡ encodes of.items
    pub size : length s ≡ p + length (encodes of.items)

  pub parts : (t : Tree) (n : ℕ) → s ≡ encode t → Good t n → Parts t n
  parts t n e g =
      let d = listed t n (high t e) g in
      let x = encodes d.items in
      let b = body_of s t (name_of t ++ x) (kind_of t) e d.written in
      let q = a t e k h in
      let i : length s ≡ p + length x = omega (arith, b.1, length-append (name_of t) x) in
      let j : p - 6 ≡ length (name_of t) = omega arith in
      let m : drop p s ≡ x =
      ap (λ (o : ℕ). drop o s) (q ∙ (let z : 6 + length (name_of t) ≡ 6 + length (name_of t) = refl in z)) ∙ sym (drop-drop (length (name_of t)) 6 s) ∙ ap (λ (o : List ℕ). drop (length (name_of t)) o) b.0
      ∙ drop_at (name_of t) x (length (name_of t)) refl in
      record {
        of = d;
        starts = q;
        name = ap (λ (o : ℕ). take o (drop 6 s)) j ∙ ap (λ (o : List ℕ). take (length (name_of t)) o) b.0 ∙ take_at (name_of t) x (length (name_of t)) refl;
        body = ap (λ (o : List ℕ). take (length s - p) o) m ∙ take_all (length s - p) x (omega arith);
        size = i;
      }

  module _ (y : Placed s at l) where
    known : Parts y.of.tree y.of.levels
    known = parts y.of.tree y.of.levels y.of.whole y.of.good

    pub items_start : (6 ≤ p) × (p ≤ length s)
    items_start = let z = known in (omega (arith, z.starts), omega (arith, z.size))

    pub name-room : at + 6 + length (part s 6 p) ≤ length l
    name-room = let z = known in omega (arith, ap length z.name, z.starts, z.size, y.fits)

    pub items-row : {from : ℕ} {m : List ℕ} → from ≡ at + 6 + length (part s 6 p) → m ≡ sets l (at + 6) (part s 6 p) → Row (part s p (length s)) from m
    items-row {from} {m} e f =
        let z = known in
        let b : length m ≡ length l = ap length f ∙ length-sets l (at + 6) (part s 6 p) in
        record {
          trees = z.of.items;
          levels = y.of.levels - 1;
          whole = z.body;
          good = z.of.good;
          fits = omega (arith, ap length z.name, ap length z.body, z.starts, z.size, y.fits);
          small = omega (arith, y.small);
        }

    module _ {from : ℕ} {m : List ℕ} (e : from ≡ at + 6 + length (part s 6 p)) (f : m ≡ sets l (at + 6) (part s 6 p)) where
      same : length m ≡ length l
      same = ap length f ∙ length-sets l (at + 6) (part s 6 p)

      pub items_fail : {m' : List ℕ} {v : Refusal} {r : Result Operand Refusal} → Items s p from m m' (Err v) → r ≡ Err v → Reduces at s l m' r
      items_fail {m'} {v} {r} w z t n i g = let x = parts t n i g in go t x (w x.of.items (n - 1) x.body x.of.good)
        where
          go : (t : Tree) (x : Parts t n) → Lists from (reduceds x.of.items) m m' (Err v) → Folds at t l m' r
          go t x (stops k q c u) = let o : v ≡ k = cc in fails v (x.of.refuses v (q ∙ ap refused (sym o))) z (u ∙ same)
          go t x (lists us q c u) = let o : ◌≡◌ {A = ℕ} 0 1 = cc in absurd (omega arith)

      pub items-frame : {m' : List ℕ} {end : ℕ} → Items s p from m m' (Ok end) → (at + 6 ≤ end) × (end ≤ length m') × (length m' ≡ length l) × (length l ≤ tree_limit)
      items-frame {m'} {end} w = go (w known.of.items (y.of.levels - 1) known.body known.of.good)
        where
          go : Lists from (reduceds known.of.items) m m' (Ok end) → (at + 6 ≤ end) × (end ≤ length m') × (length m' ≡ length l) × (length l ≤ tree_limit)
          go (stops k q c u) = let o : ◌≡◌ {A = ℕ} 0 1 = cc in absurd (omega arith)
          go (lists us q c u) =
              let o : end ≡ from + length (encodes us) = cc in
              (omega arith, omega (arith, u.fits, u.kept), u.kept ∙ same, y.small)

      pub items_done : {m' : List ℕ} {end : ℕ} {k' : List ℕ} → Items s p from m m' (Ok end) → k' ≡ sets m' at (frame_of kind (end - at - 6)) → Reduces at s l k' (Ok (operand end sort.Other))
      items_done {m'} {end} {k'} w v t n q g = let x = parts t n q g in go t x (high t q) (kind_of_lem s t q) (w x.of.items (n - 1) x.body x.of.good)
        where
          go : (t : Tree) (x : Parts t n) → 11 ≤ kind_of t → le16 s 4 ≡ kind_of t → Lists from (reduceds x.of.items) m m' (Ok end) → Folds at t l k' (Ok (operand end sort.Other))
          go t x hi ki (stops o q c u) = let z : ◌≡◌ {A = ℕ} 0 1 = cc in absurd (omega arith)
          go t x hi ki (lists us q c u) =
              let o : end ≡ from + length (encodes us) = cc in
              let b = x.of.gets us q in
              let d : from ≡ at + 6 + length (name_of t) = e ∙ ap (λ (l : List ℕ). at + 6 + length l) x.name in
              let one : Holds (at + 6) (name_of t) l m =
              subst (λ (l' : List ℕ). Holds (at + 6) (name_of t) l l') (sym (f ∙ ap (λ (o : List ℕ). sets l (at + 6) o) x.name)) (holds_sets (at + 6) (name_of t) l (omega (arith, x.starts, x.size, y.fits))) in
              let two : Holds (at + 6 + length (name_of t)) (encodes us) m m' = subst (λ (o : ℕ). Holds o (encodes us) m m') d u in
              let body : List ℕ = name_of t ++ encodes us in
              let whole : Holds at (record_of (kind_of t) body) l (sets m' at (frame_of (kind_of t) (length body))) = keep_record (kind_of t) body (holds_then one two) in
              let size : end - at - 6 ≡ length body = omega (arith, length-append (name_of t) (encodes us)) in
              let last : k' ≡ sets m' at (frame_of (kind_of t) (length body)) =
              v ∙ ap (λ (o : ℕ). sets m' at (frame_of kind o)) size ∙ ap (λ (o : ℕ). sets m' at (frame_of o (length body))) (k ∙ ki) in
              let stands : Holds at (encode b.0) l k' = subst (λ (o : List ℕ). Holds at o l k') (sym b.2) (subst (λ (o : List ℕ). Holds at (record_of (kind_of t) body) l o) (sym last) whole) in
              let len : length (encode b.0) ≡ 6 + length body = ap length b.2 ∙ record_length (kind_of t) body in
              done b.0 (operand end sort.Other) b.1 refl (record { answers = answer-is at end b.0 (omega (arith, length-append (name_of t) (encodes us))) b.3; holds = stands })
