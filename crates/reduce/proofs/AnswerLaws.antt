-- The answer: what acceptance says of the tree, and what the walk's answer becomes. The walk reduces in a room as long as an accepted tree can be, and
-- no reduced tree is longer than its tree, so only the copy can lack room, and then 9 is due.
use Prim.Native.Nat.{ℕ, ◌+◌, ◌-◌, ◌≤◌, ◌<◌}
use mathlib.Core.Path.{◌≡◌, refl, sym, ap, ◌∙◌}
use mathlib.Core.List.{List}
use native.Mathlib.Omega.{arith}
use borrow.Author.Tests.{lt-ltb, le-ltb}
use lib.ListN.{length, replicate, length-replicate, length-take, take}
use lib.Seq.{sets}
use Rattle.std.specs.Prelude.{Result, Ok, Err}
use Rattle.refusal.specs.declared.Refusal.{Refusal}
use Rattle.refusal.specs.declared.Refusal.TheVariants.{BufferTooShort, ConstantOperands}
use Rattle.emit.specs.Emit.{Puts, count_limit}
use Rattle.emit.specs.EmitLaws.{wrote, sets_front}
use Rattle.tree.specs.Limits.{planner, tree_limit}
use Rattle.tree.specs.Tree.{Tree, Bytes, encode}
use Rattle.tree.specs.Parse.{Read, refused, got, also}
use Rattle.tree.specs.ParseLaws.{parse_sound}
use Rattle.tree.specs.GoodWords.{Good}
use Rattle.tree.specs.Accepted.{accepted_tree, verdict}
use Rattle.tree.specs.AcceptedLaws.{tree_is}
use Rattle.tree.specs.Written.{leaves, said}
use Rattle.reduce.specs.declared.Operand.{Operand}
use Rattle.reduce.specs.Reduced.{reduced}
use Rattle.reduce.specs.Reducing.{fitted, reducing, answer, heard}
use Rattle.reduce.specs.ReducingLaws.{heard-said}
use Rattle.reduce.specs.WalkWords.{Recorded, Placed, Holds, Meets, Answers}
use Rattle.reduce.proofs.StepLaws.{Found, failed, found}

-- What the checker accepts is a tree.

pub record Taken (s : List ℕ) : Type 0 where
  pub t : Tree
  pub is : accepted_tree planner s ≡ got t
  pub whole : s ≡ encode t
  pub good : Good t planner.depth
  pub small : length s ≤ tree_limit

pub taken : (s : List ℕ) → Bytes s → Ok tt ≡ verdict (accepted_tree planner s) → Taken s
unfolding verdict
taken s y e = go (accepted_tree planner s) refl e
  where
    go : (a : Read Tree) → accepted_tree planner s ≡ a → Ok tt ≡ verdict a → Taken s
    go (refused n) q z = absurd (let v : ◌≡◌ {A = ℕ} 0 1 = cc in let w : ⊥ = omega arith in w)
    go (got t) q z =
        let w = tree_is planner s t q in
        let k = parse_sound planner.depth s t y w.1 in
        record { t = t; is = q; whole = k.0; good = k.1; small = w.0 }

pub recorded : {s : List ℕ} → Taken s → Recorded s
recorded a = record { tree = a.t; levels = planner.depth; whole = a.whole; good = a.good }

taken-reduces : {s : List ℕ} (a : Taken s) (room : ℕ) → reducing s room ≡ also (reduced a.t) (λ u. fitted room (encode u))
unfolding reducing also
taken-reduces {s} a room = ap (λ (x : Read Tree). also x (λ t. also (reduced t) (λ u. fitted room (encode u)))) a.is

-- what is answered of it is the answer, as each of the three contracts says it
pub taken_answers : {s out exit : List ℕ} {r : Result ℕ Refusal} (a : Taken s) → Answers (also (reduced a.t) (λ u. fitted (length out) (encode u))) out exit r
    → (r ≡ answer (reducing s (length out))) × ((exit ≡ leaves out (reducing s (length out))) × (heard r ≡ said (reducing s (length out))))
taken_answers {s} {out} {exit} {r} a w =
    let e = sym (taken-reduces a (length out)) in
    let q : r ≡ answer (reducing s (length out)) = w.says ∙ ap answer e in
    (q, (w.bytes ∙ ap (leaves out) e, heard-said (reducing s (length out)) q))

-- and so is a refusal of the checker
pub refused_answers : (s out : List ℕ) {n : Refusal} → Err n ≡ verdict (accepted_tree planner s)
    → (Err n ≡ answer (reducing s (length out))) × ((out ≡ leaves out (reducing s (length out))) × (heard (Err n) ≡ said (reducing s (length out))))
unfolding reducing also verdict answer leaves
refused_answers s out {n} e = go (accepted_tree planner s) e
  where
    go : (a : Read Tree) → Err n ≡ verdict a → let x : Read (List ℕ) = also a (λ t. also (reduced t) (λ u. fitted (length out) (encode u))) in
        (Err n ≡ answer x) × ((out ≡ leaves out x) × (heard (Err n) ≡ said x))
    go (refused m) z = let q : n ≡ m = cc in (ap Err q, (refl, ap (λ (k : Refusal). heard (Err k)) q))
    go (got t) z = absurd (let v : ◌≡◌ {A = ℕ} 0 1 = cc in let w : ⊥ = omega arith in w)

-- The room: n zeros.
pub room-placed : {s : List ℕ} (n : ℕ) → Recorded s → length s ≤ n → n ≤ tree_limit → Placed s 0 (replicate {A = ℕ} n 0)
room-placed n r h k =
    let z : length (replicate {A = ℕ} n 0) ≡ n = length-replicate {A = ℕ} n 0 in
    record { of = r; fits = omega arith; small = omega arith }

-- What the walk answers of it.

abbrev decided : Read Tree → List ℕ → Read (List ℕ)
decided x out = also x (λ u. fitted (length out) (encode u))

decided_short : {x : Read Tree} (u : Tree) (out : List ℕ) → x ≡ got u → length out < length (encode u) → decided x out ≡ refused BufferTooShort
unfolding also fitted
decided_short u out e h = ap (λ (y : Read Tree). decided y out) e ∙ simp (lt-ltb (length out) (length (encode u)) h) refl

decided-whole : {x : Read Tree} (u : Tree) (out : List ℕ) → x ≡ got u → length (encode u) ≤ length out → decided x out ≡ got (encode u)
unfolding also fitted
decided-whole u out e h = ap (λ (y : Read Tree). decided y out) e ∙ simp (le-ltb (length out) (length (encode u)) h) refl

-- 14
pub clash_answers : {l m : List ℕ} {x : Read Tree} {n : Refusal} {r : Result ℕ Refusal} (out : List ℕ) → Meets 0 x l m (Err n) → r ≡ Err n → Answers (decided x out) out out r
unfolding also answer leaves
clash_answers out w e = let q = failed w in rw (q.0, e) (record { says = refl; bytes = refl })

module _ {l m : List ℕ} {x : Read Tree} {d : Operand} (w : Meets 0 x l m (Ok d)) where
  came : Found 0 x d l m
  came = found w

  pub end_fits : d.end ≤ length l
  end_fits = let c = came in omega (arith, c.stops, c.holds.fits)

  pub end_whole : length (take d.end m) ≡ d.end
  end_whole = let c = came in omega (arith, length-take d.end m, c.stops, c.holds.fits, c.holds.kept)

  -- 9
  pub short_answers : (out : List ℕ) → length out < d.end → Answers (decided x out) out out (Err BufferTooShort)
  unfolding answer leaves
  short_answers out h =
      let c = came in
      let y = sym (decided_short c.tree out c.is (omega (arith, c.stops))) in
      record { says = ap answer y; bytes = ap (leaves out) y }

  -- the record, copied
  pub whole_answers : {r : ℕ} (out exit : List ℕ) → d.end ≤ length out → length l ≤ tree_limit → Puts count_limit 0 (take d.end m) out exit r
      → Answers (decided x out) out exit (Ok d.end)
  unfolding answer leaves
  whole_answers out exit h k p =
      let c = came in
      let y = sym (decided-whole c.tree out c.is (omega (arith, c.stops))) in
      let z : d.end ≡ 0 + length (encode c.tree) = omega (arith, c.stops) in
      let a : take d.end m ≡ encode c.tree = ap (λ (i : ℕ). take i m) z ∙ c.holds.front in
      let q : length (take d.end m) ≡ length (encode c.tree) = ap length a in
      let size : d.end ≡ length (encode c.tree) = omega (arith, c.stops) in
      let v = wrote (record { inside = omega (arith, q, c.stops); counted = omega (arith, q, c.stops, c.holds.fits) }) p in
      record {
        says = ap Ok size ∙ ap answer y;
        bytes = v.laid ∙ ap (λ (t : List ℕ). sets out 0 t) a ∙ sets_front out (encode c.tree) (omega (arith, c.stops)) ∙ ap (leaves out) y;
      }
