-- Laws of specs/Reduced.antt: once is enough, reducing a reduced tree gives the tree itself and never 14: document 02, slip 8.
use Rattle.std.specs.Prelude.{◌≡◌, refl}
use Rattle.std.proofs.Common.{subst}
use Rattle.refusal.specs.declared.Refusal.TheVariants.{ConstantOperands}
use Rattle.op.specs.declared.Op.{Op}
use Rattle.tree.specs.Tree.{Tree, Trees, none, ◌then◌, null, unbounded, bool, num, str, date, timestamp, spatial, id, monadic, dyadic, function, array, interval}
use Rattle.tree.specs.Parse.{got, also}
use Rattle.tree.specs.ParseLaws.{not_got, also_got}
use Rattle.reduce.specs.declared.Turn.{Turn}
use Rattle.reduce.specs.declared.Turn.TheVariants.{Keep, ToNull, ToBool, Stay, Negate, NoCase, NoAccent}
use Rattle.reduce.specs.declared.Meet.{Meet}
use Rattle.reduce.specs.declared.Meet.TheVariants.{Keeps, MeetNull, MeetBool, Clash}
use Rattle.reduce.specs.Sort.{sort_of}
use Rattle.reduce.specs.Rules.{turn, meet}
use Rattle.reduce.specs.Reduced.{and_case, and_accent, turned, met, one_reduced, two_reduced, reduced, reduceds}
use Rattle.reduce.specs.ReducedLaws.{same_tree, minus_keeps, flagged_keeps}

-- reducing changes nothing of it
abbrev Stays : Tree → Type 0
Stays t = reduced t ≡ got t

one_again : (c : Turn) (o : Op) (v : Tree) → turn o (sort_of v) ≡ c → Stays v → Stays (turned c o v)
unfolding turned reduced also one_reduced
one_again Keep o v k e = rw (e, k) refl
one_again ToNull o v k e = refl
one_again (ToBool b) o v k e = refl
one_again Stay o v k e = e
one_again Negate o v k e = minus_keeps Stays (λ m s h. refl) v e
one_again NoCase o v k e = flagged_keeps Stays and_case (λ f s h. refl) v e
one_again NoAccent o v k e = flagged_keeps Stays and_accent (λ f s h. refl) v e

two_again : (c : Meet) (o : Op) (a b u : Tree) → meet o (sort_of a) (sort_of b) ≡ c → Stays a → Stays b → met c o a b ≡ got u → Stays u
unfolding met reduced also two_reduced
two_again Keeps o a b u k e f q = subst Stays (same_tree q) (rw (e, f, k) refl)
two_again MeetNull o a b u k e f q = subst Stays (same_tree q) refl
two_again (MeetBool c) o a b u k e f q = subst Stays (same_tree q) refl
two_again Clash o a b u k e f q = not_got ConstantOperands u q

mutual
  unfolding reduced reduceds one_reduced two_reduced also

  -- reducing a reduced tree gives the tree itself, and never 14
  pub reduced_again : (t u : Tree) → reduced t ≡ got u → reduced u ≡ got u
  reduced_again null v e = subst Stays (same_tree e) refl
  reduced_again unbounded v e = subst Stays (same_tree e) refl
  reduced_again (bool b) v e = subst Stays (same_tree e) refl
  reduced_again (num m s) v e = subst Stays (same_tree e) refl
  reduced_again (str f s) v e = subst Stays (same_tree e) refl
  reduced_again (date y m d) v e = subst Stays (same_tree e) refl
  reduced_again (timestamp y m d h i s) v e = subst Stays (same_tree e) refl
  reduced_again (spatial r s) v e = subst Stays (same_tree e) refl
  reduced_again (id s) v e = subst Stays (same_tree e) refl
  reduced_again (monadic o t) u e =
      let p = also_got (reduced t) (λ v. got (one_reduced o v)) u e in
      subst Stays (same_tree p.2) (one_again (turn o (sort_of p.0)) o p.0 refl (reduced_again t p.0 p.1))
  reduced_again (dyadic o t s) u e =
      let p = also_got (reduced t) (λ a. also (reduced s) (λ b. two_reduced o a b)) u e in
      let q = also_got (reduced s) (λ b. two_reduced o p.0 b) u p.2 in
      two_again (meet o (sort_of p.0) (sort_of q.0)) o p.0 q.0 u refl (reduced_again t p.0 p.1) (reduced_again s q.0 q.1) q.2
  reduced_again (function r ts) u e =
      let p = also_got (reduceds ts) (λ us. got (function r us)) u e in
      subst Stays (same_tree p.2) (let z = reduceds_again ts p.0 p.1 in rw z refl)
  reduced_again (array ts) u e =
      let p = also_got (reduceds ts) (λ us. got (array us)) u e in
      subst Stays (same_tree p.2) (let z = reduceds_again ts p.0 p.1 in rw z refl)
  reduced_again (interval t s) u e =
      let p = also_got (reduced t) (λ a. also (reduced s) (λ b. got (interval a b))) u e in
      let q = also_got (reduced s) (λ b. got (interval p.0 b)) u p.2 in
      let y = reduced_again t p.0 p.1 in
      let z = reduced_again s q.0 q.1 in
      subst Stays (same_tree q.2) (rw (y, z) refl)

  reduceds_again : (ts us : Trees) → reduceds ts ≡ got us → reduceds us ≡ got us
  reduceds_again none us e = subst (λ (x : Trees). reduceds x ≡ got x) (same_tree e) refl
  reduceds_again (t then ts) us e =
      let p = also_got (reduced t) (λ v. also (reduceds ts) (λ xs. got (v then xs))) us e in
      let q = also_got (reduceds ts) (λ xs. got (p.0 then xs)) us p.2 in
      let y = reduced_again t p.0 p.1 in
      let z = reduceds_again ts q.0 q.1 in
      subst (λ (x : Trees). reduceds x ≡ got x) (same_tree q.2) (rw (y, z) refl)
