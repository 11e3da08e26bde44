-- Laws of specs/Reduced.antt: a reduced tree has everything in its place (refusal 7), so 2 to 7 accept it again: document 02, slip 8.
use Rattle.std.specs.Prelude.{ℕ, suc, ◌≤◌, ◌≡◌, refl, List, Bool, true, false, eqb, length}
use Rattle.std.proofs.Common.{ap, ◌∙◌, subst, arith}
use Rattle.std.proofs.lemmas.Bool.{false≢true}
use Rattle.prelude.specs.Choice.{pick, both, either, negated}
use Rattle.prelude.specs.ChoiceLaws.{both_true}
use Rattle.refusal.specs.declared.Refusal.TheVariants.{ConstantOperands}
use Rattle.op.specs.declared.Op.{Op}
use Rattle.op.specs.Op.{is_temporal, is_instant_or_interval}
use Rattle.tree.specs.Limits.{planner}
use Rattle.tree.specs.Tree.{Tree, Trees, none, ◌then◌, null, unbounded, bool, num, str, date, timestamp, spatial, id, monadic, dyadic, function, array, interval, encode, Bytes}
use Rattle.tree.specs.Parse.{got, also}
use Rattle.tree.specs.Tests.{is_interval, is_items, is_pair, count, everywhere, everywhere_in, by_operator}
use Rattle.tree.specs.TestsLaws.{both_of}
use Rattle.tree.specs.Placed.{is_between, operands, no_interval, in_place, inner, placed}
use Rattle.tree.specs.ParseLaws.{not_got, also_got, parse_sound}
use Rattle.tree.specs.EncodeLaws.{encode_parse}
use Rattle.tree.specs.Accepted.{accepted_tree}
use Rattle.tree.specs.AcceptedLaws.{tree_is, tree_of}
use Rattle.reduce.specs.declared.Turn.{Turn}
use Rattle.reduce.specs.declared.Turn.TheVariants.{Keep, ToNull, ToBool, Stay, Negate, NoCase, NoAccent}
use Rattle.reduce.specs.declared.Meet.{Meet}
use Rattle.reduce.specs.declared.Meet.TheVariants.{Keeps, MeetNull, MeetBool, Clash}
use Rattle.reduce.specs.Sort.{sort_of}
use Rattle.reduce.specs.Rules.{turn, meet}
use Rattle.reduce.specs.Reduced.{minus, flagged, and_case, and_accent, turned, met, one_reduced, two_reduced, reduced, reduceds}
use Rattle.reduce.specs.ReducedLaws.{same_tree, minus_keeps, flagged_keeps, reduced_good, reduced_short}

not_both : (a b : Bool) → both (negated a) b ≡ true → (a ≡ false) × (b ≡ true)
not_both true b e = absurd (false≢true e)
not_both false b e = (refl, e)

-- u may stand where t stands
record Stands (t u : Tree) : Type 0 where
  in_place_lem : inner u ≡ true
  alike : is_interval u ≡ is_interval t
  pair : is_pair t ≡ true → is_pair u ≡ true

stands_as : {t u v : Tree} → u ≡ v → Stands t u → Stands t v
stands_as {t} e s = subst (λ (x : Tree). Stands t x) e s

minus_stands : (t v : Tree) → Stands t v → Stands t (minus v)
unfolding inner everywhere in_place by_operator no_interval is_interval is_pair is_items
minus_stands t v = minus_keeps (Stands t) (λ m s k. record { in_place_lem = refl; alike = k.alike; pair = k.pair }) v

flagged_stands : (j : ℕ → ℕ) (t v : Tree) → Stands t v → Stands t (flagged j v)
unfolding inner everywhere in_place by_operator no_interval is_interval is_pair is_items
flagged_stands j t v = flagged_keeps (Stands t) j (λ f s k. record { in_place_lem = refl; alike = k.alike; pair = k.pair }) v

-- where a Monadic stands, no Array is wanted
turned_stands : (c : Turn) (o : Op) (t v : Tree) → is_interval v ≡ false → inner v ≡ true → Stands (monadic o t) (turned c o v)
unfolding turned inner everywhere in_place by_operator no_interval is_interval is_pair is_items
turned_stands Keep o t v i e = record { in_place_lem = rw i e; alike = refl; pair = λ h. absurd (false≢true h) }
turned_stands ToNull o t v i e = record { in_place_lem = refl; alike = refl; pair = λ h. absurd (false≢true h) }
turned_stands (ToBool b) o t v i e = record { in_place_lem = refl; alike = refl; pair = λ h. absurd (false≢true h) }
turned_stands Stay o t v i e = record { in_place_lem = e; alike = i; pair = λ h. absurd (false≢true h) }
turned_stands Negate o t v i e = minus_stands (monadic o t) v (record { in_place_lem = e; alike = i; pair = λ h. absurd (false≢true h) })
turned_stands NoCase o t v i e = flagged_stands and_case (monadic o t) v (record { in_place_lem = e; alike = i; pair = λ h. absurd (false≢true h) })
turned_stands NoAccent o t v i e = flagged_stands and_accent (monadic o t) v (record { in_place_lem = e; alike = i; pair = λ h. absurd (false≢true h) })

met_stands : (c : Meet) (o : Op) (t s a b u : Tree) → operands o a b ≡ true → inner a ≡ true → inner b ≡ true → met c o a b ≡ got u → Stands (dyadic o t s) u
unfolding met inner everywhere in_place by_operator no_interval is_interval is_pair is_items
met_stands Keeps o t s a b u k e f q =
    stands_as {t = dyadic o t s} (same_tree q) (record {
      in_place_lem = both_of (operands o a b) (both (inner a) (inner b)) k (both_of (inner a) (inner b) e f);
      alike = refl;
      pair = λ h. absurd (false≢true h);
    })
met_stands MeetNull o t s a b u k e f q = stands_as {t = dyadic o t s} (same_tree q) (record { in_place_lem = refl; alike = refl; pair = λ h. absurd (false≢true h) })
met_stands (MeetBool c) o t s a b u k e f q = stands_as {t = dyadic o t s} (same_tree q) (record { in_place_lem = refl; alike = refl; pair = λ h. absurd (false≢true h) })
met_stands Clash o t s a b u k e f q = not_got ConstantOperands u q

operands_kept : (o : Op) (t s a b : Tree) → operands o t s ≡ true → Stands t a → Stands s b → operands o a b ≡ true
unfolding operands
operands_kept o t s a b e p q =
    rw (p.alike, q.alike) (go (is_temporal o) (is_instant_or_interval o) (is_interval t) (is_interval s) (is_between o) (is_pair s) (is_pair b) e q.pair)
  where
    go : (c five i j w x y : Bool) → pick c (either five (both i j)) (both (negated i) (both (negated j) (either (negated w) x))) ≡ true → (x ≡ true → y ≡ true)
        → pick c (either five (both i j)) (both (negated i) (both (negated j) (either (negated w) y))) ≡ true
    go true five i j w x y e f = e
    go false five true j w x y e f = e
    go false five false true w x y e f = e
    go false five false false true x y e f = f e
    go false five false false false x y e f = refl

-- what the reduced items are
record Items (ts us : Trees) : Type 0 where
  in_places : everywhere_in in_place us ≡ true
  alikes : no_interval us ≡ no_interval ts
  as_many : count us ≡ count ts

mutual
  unfolding reduced reduceds one_reduced two_reduced inner everywhere everywhere_in in_place by_operator no_interval is_interval is_pair is_items count

  reduced_stands : (t u : Tree) → inner t ≡ true → reduced t ≡ got u → Stands t u
  reduced_stands null v z e = stands_as (same_tree e) (record { in_place_lem = refl; alike = refl; pair = λ h. h })
  reduced_stands unbounded v z e = stands_as (same_tree e) (record { in_place_lem = refl; alike = refl; pair = λ h. h })
  reduced_stands (bool b) v z e = stands_as (same_tree e) (record { in_place_lem = refl; alike = refl; pair = λ h. h })
  reduced_stands (num m s) v z e = stands_as (same_tree e) (record { in_place_lem = refl; alike = refl; pair = λ h. h })
  reduced_stands (str f s) v z e = stands_as (same_tree e) (record { in_place_lem = refl; alike = refl; pair = λ h. h })
  reduced_stands (date y m d) v z e = stands_as (same_tree e) (record { in_place_lem = refl; alike = refl; pair = λ h. h })
  reduced_stands (timestamp y m d h i s) v z e = stands_as (same_tree e) (record { in_place_lem = refl; alike = refl; pair = λ h. h })
  reduced_stands (spatial r s) v z e = stands_as (same_tree e) (record { in_place_lem = refl; alike = refl; pair = λ h. h })
  reduced_stands (id s) v z e = stands_as (same_tree e) (record { in_place_lem = refl; alike = refl; pair = λ h. h })
  reduced_stands (monadic o t) u i e =
      let p = also_got (reduced t) (λ v. got (one_reduced o v)) u e in
      let k = not_both (is_interval t) (inner t) i in
      let s = reduced_stands t p.0 k.1 p.1 in
      stands_as {t = monadic o t} (same_tree p.2) (turned_stands (turn o (sort_of p.0)) o t p.0 (s.alike ∙ k.0) s.in_place_lem)
  reduced_stands (dyadic o t s) u i e =
      let p = also_got (reduced t) (λ a. also (reduced s) (λ b. two_reduced o a b)) u e in
      let q = also_got (reduced s) (λ b. two_reduced o p.0 b) u p.2 in
      let k = both_true (operands o t s) (both (inner t) (inner s)) i in
      let l = both_true (inner t) (inner s) k.1 in
      let x = reduced_stands t p.0 l.0 p.1 in
      let y = reduced_stands s q.0 l.1 q.1 in
      met_stands (meet o (sort_of p.0) (sort_of q.0)) o t s p.0 q.0 u
      (operands_kept o t s p.0 q.0 k.0 x y) x.in_place_lem y.in_place_lem q.2
  reduced_stands (function r ts) u i e =
      let p = also_got (reduceds ts) (λ us. got (function r us)) u e in
      let h = both_true (no_interval ts) (everywhere_in in_place ts) i in
      let k = reduceds_stand ts p.0 h.1 p.1 in
      stands_as {t = function r ts} (same_tree p.2) (record {
        in_place_lem = both_of (no_interval p.0) (everywhere_in in_place p.0) (k.alikes ∙ h.0) k.in_places;
        alike = refl;
        pair = λ h. h;
      })
  reduced_stands (array ts) u i e =
      let p = also_got (reduceds ts) (λ us. got (array us)) u e in
      let h = both_true (no_interval ts) (everywhere_in in_place ts) i in
      let k = reduceds_stand ts p.0 h.1 p.1 in
      stands_as {t = array ts} (same_tree p.2) (record {
        in_place_lem = both_of (no_interval p.0) (everywhere_in in_place p.0) (k.alikes ∙ h.0) k.in_places;
        alike = refl;
        pair = λ h. ap (λ (n : ℕ). eqb n 2) k.as_many ∙ h;
      })
  reduced_stands (interval t s) u i e =
      let p = also_got (reduced t) (λ a. also (reduced s) (λ b. got (interval a b))) u e in
      let q = also_got (reduced s) (λ b. got (interval p.0 b)) u p.2 in
      let h = both_true (both (negated (is_interval t)) (both (negated (is_interval s)) true)) (both (inner t) (inner s)) i in
      let l = both_true (inner t) (inner s) h.1 in
      let x = reduced_stands t p.0 l.0 p.1 in
      let y = reduced_stands s q.0 l.1 q.1 in
      stands_as {t = interval t s} (same_tree q.2) (record {
        in_place_lem =
            both_of (both (negated (is_interval p.0)) (both (negated (is_interval q.0)) true)) (both (inner p.0) (inner q.0))
            (ap (λ (b : Bool). both (negated b) (both (negated (is_interval q.0)) true)) x.alike
            ∙ ap (λ (b : Bool). both (negated (is_interval t)) (both (negated b) true)) y.alike ∙ h.0)
            (both_of (inner p.0) (inner q.0) x.in_place_lem y.in_place_lem);
        alike = refl;
        pair = λ h. h;
      })

  reduceds_stand : (ts us : Trees) → everywhere_in in_place ts ≡ true → reduceds ts ≡ got us → Items ts us
  reduceds_stand none us i e = subst (λ (x : Trees). Items none x) (same_tree e) (record { in_places = refl; alikes = refl; as_many = refl })
  reduceds_stand (t then ts) us i e =
      let p = also_got (reduced t) (λ v. also (reduceds ts) (λ xs. got (v then xs))) us e in
      let q = also_got (reduceds ts) (λ xs. got (p.0 then xs)) us p.2 in
      let k = both_true (inner t) (everywhere_in in_place ts) i in
      let x = reduced_stands t p.0 k.0 p.1 in
      let r = reduceds_stand ts q.0 k.1 q.1 in
      subst (λ (x : Trees). Items (t then ts) x) (same_tree q.2) (record {
        in_places = both_of (inner p.0) (everywhere_in in_place q.0) x.in_place_lem r.in_places;
        alikes = ap (λ (b : Bool). both (negated b) (no_interval q.0)) x.alike ∙ ap (λ (b : Bool). both (negated (is_interval t)) b) r.alikes;
        as_many = ap suc r.as_many;
      })

-- everything is in its place in a reduced tree, as it was in the tree
pub reduced_placed : (t u : Tree) → placed t ≡ true → reduced t ≡ got u → placed u ≡ true
unfolding placed
reduced_placed t u e r =
    let k = not_both (is_interval t) (inner t) e in
    let s = reduced_stands t u k.1 r in
    both_of (negated (is_interval u)) (inner u) (ap negated (s.alike ∙ k.0)) s.in_place_lem

-- Refusals 2 to 7 accept a reduced tree again.
pub reduced_taken : (s : List ℕ) (t u : Tree) → Bytes s → accepted_tree planner s ≡ got t → reduced t ≡ got u → accepted_tree planner (encode u) ≡ got u
reduced_taken s t u b a r =
    let h = tree_is planner s t a in
    let w = parse_sound planner.depth s t b h.1 in
    let l : length (encode u) ≤ planner.tree = omega (arith, h.0, ap length w.0, reduced_short t u r) in
    tree_of planner (encode u) u l (encode_parse planner.depth u (reduced_good t u planner.depth w.1 r) (omega arith)) (reduced_placed t u h.2 r)
