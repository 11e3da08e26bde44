-- Laws of specs/Reducing.antt: what is heard is what was decided; a result is never longer than the tree, is accepted again by 2 to 7 and reduced to
-- itself; which refusals the call can give, and that the size of the buffer decides nothing but 9: document 02, slip 8.
use Rattle.std.specs.Prelude.{ℕ, Result, ◌≤◌, ◌<◌, ◌≡◌, List, [], ◌∷◌, ◌++◌, Bool, true, false, ltb, length}
use Rattle.std.proofs.Math.Path.{refl, ap}
use Rattle.std.proofs.Common.{sym, ◌∙◌, subst, arith, ltb-true, ltb-false, le-ltb}
use Rattle.std.proofs.lemmas.Bool.{false≢true}
use Rattle.prelude.specs.Choice.{pick}
use Rattle.refusal.specs.declared.Refusal.{Refusal}
use Rattle.refusal.specs.declared.Refusal.TheVariants.{BufferTooShort, ConstantOperands}
use Rattle.op.specs.declared.Op.{Op}
use Rattle.tree.specs.Limits.{planner}
use Rattle.tree.specs.Tree.{Tree, Trees, none, ◌then◌, null, unbounded, bool, num, str, date, timestamp, spatial, id, monadic, dyadic, function, array, interval, encode, Bytes}
use Rattle.tree.specs.Parse.{Read, refused, got, also}
use Rattle.tree.specs.ParseLaws.{not_got, parse_encode}
use Rattle.tree.specs.Accepted.{accepted_tree}
use Rattle.tree.specs.AcceptedLaws.{tree_is}
use Rattle.tree.specs.LimitLaws.{is_of}
use Rattle.tree.specs.RefusalLaws.{of_tree, gives, also-gives, later, tree_gives}
use Rattle.tree.specs.Written.{said}
use Rattle.reduce.specs.declared.Meet.{Meet}
use Rattle.reduce.specs.declared.Meet.TheVariants.{Keeps, MeetNull, MeetBool, Clash}
use Rattle.reduce.specs.Sort.{sort_of}
use Rattle.reduce.specs.Rules.{meet}
use Rattle.reduce.specs.Reduced.{met, one_reduced, two_reduced, reduced, reduceds}
use Rattle.reduce.specs.Reducing.{fitted, reducing, answer, heard}
use Rattle.reduce.specs.ReducedLaws.{same_tree, reduced_short}
use Rattle.reduce.specs.PlaceLaws.{reduced_taken}
use Rattle.reduce.specs.SelfLaws.{reduced_again}

-- ---- What is heard.

heard-answer : (x : Read (List ℕ)) → heard (answer x) ≡ said x
unfolding answer
heard-answer (refused n) = refl
heard-answer (got x) = refl

pub heard-said : {r : Result ℕ Refusal} (x : Read (List ℕ)) → r ≡ answer x → heard r ≡ said x
heard-said x e = ap heard e ∙ heard-answer x

-- ---- What is refused of a tree that 2 to 7 accept: of any refusals among which 14 is, it is one.

module _ (rs : List Refusal) (e : is_of rs ConstantOperands ≡ true) where
  met-gives : (c : Meet) (o : Op) (a b : Tree) → gives rs (met c o a b) ≡ true
  unfolding met
  met-gives Keeps o a b = refl
  met-gives MeetNull o a b = refl
  met-gives (MeetBool c) o a b = refl
  met-gives Clash o a b = e

  mutual
    unfolding reduced reduceds two_reduced

    reduced_gives : (t : Tree) → gives rs (reduced t) ≡ true
    reduced_gives null = refl
    reduced_gives unbounded = refl
    reduced_gives (bool b) = refl
    reduced_gives (num m s) = refl
    reduced_gives (str f s) = refl
    reduced_gives (date y m d) = refl
    reduced_gives (timestamp y m d h i s) = refl
    reduced_gives (spatial n s) = refl
    reduced_gives (id s) = refl
    reduced_gives (monadic o t) = also-gives rs (reduced t) (λ v. got (one_reduced o v)) (reduced_gives t) (λ v. refl)
    reduced_gives (dyadic o t u) =
        also-gives rs (reduced t) (λ a. also (reduced u) (λ b. two_reduced o a b)) (reduced_gives t) (λ a.
        also-gives rs (reduced u) (λ b. two_reduced o a b) (reduced_gives u) (λ b. met-gives (meet o (sort_of a) (sort_of b)) o a b))
    reduced_gives (function n ts) = also-gives rs (reduceds ts) (λ us. got (function n us)) (reduceds_gives ts) (λ us. refl)
    reduced_gives (array ts) = also-gives rs (reduceds ts) (λ us. got (array us)) (reduceds_gives ts) (λ us. refl)
    reduced_gives (interval t u) =
        also-gives rs (reduced t) (λ a. also (reduced u) (λ b. got (interval a b))) (reduced_gives t) (λ a.
        also-gives rs (reduced u) (λ b. got (interval a b)) (reduced_gives u) (λ b. refl))

    reduceds_gives : (ts : Trees) → gives rs (reduceds ts) ≡ true
    reduceds_gives none = refl
    reduceds_gives (t then ts) =
        also-gives rs (reduced t) (λ v. also (reduceds ts) (λ us. got (v then us))) (reduced_gives t) (λ v.
        also-gives rs (reduceds ts) (λ us. got (v then us)) (reduceds_gives ts) (λ us. refl))

-- ---- What a tree's bytes decide, whatever the size of the buffer.

-- x is the reduced tree of the one that the bytes s hold
pub record Given (s x : List ℕ) : Type 0 where
  pub tree : Tree
  pub becomes : Tree
  pub read : accepted_tree planner s ≡ got tree
  pub reduces : reduced tree ≡ got becomes
  pub is : encode becomes ≡ x

-- refusals 2 to 7 and 14
abbrev pub of_reducing : List Refusal
of_reducing = of_tree ++ (ConstantOperands ∷ [])

-- A refusal of 2 to 7 or 14 is the answer at every size; or a tree is, at every size that has room for it, and at every other it is a 9.
pub data Decided (s : List ℕ) : Type 0 where
  refuses : (n : Refusal) → is_of of_reducing n ≡ true → ((room : ℕ) → reducing s room ≡ refused n) → Decided s
  gives_tree : (x : List ℕ) → Given s x → ((room : ℕ) → reducing s room ≡ fitted room x) → Decided s

pub decided : (s : List ℕ) → Decided s
unfolding reducing also
decided s = first (accepted_tree planner s) refl
  where
    second : (t : Tree) → accepted_tree planner s ≡ got t → (r : Read Tree) → reduced t ≡ r → Decided s
    second t e (refused n) f = refuses n (sym (ap (gives of_reducing) f) ∙ reduced_gives of_reducing refl t) (λ room. rw (e, f) refl)
    second t e (got u) f = gives_tree (encode u) (record { tree = t; becomes = u; read = e; reduces = f; is = refl }) (λ room. rw (e, f) refl)

    first : (r : Read Tree) → accepted_tree planner s ≡ r → Decided s
    first (refused n) e = refuses n (later {A = Tree} of_tree (ConstantOperands ∷ []) (refused n) (sym (ap (gives of_tree) e) ∙ tree_gives planner s)) (λ room. rw e refl)
    first (got t) e = second t e (reduced t) refl

fits : (room : ℕ) (x : List ℕ) → length x ≤ room → fitted room x ≡ got x
unfolding fitted
fits room x h = simp (le-ltb room (length x) h) refl

fitted_got : (room : ℕ) (x y : List ℕ) → fitted room x ≡ got y → (x ≡ y) × (length x ≤ room)
unfolding fitted
fitted_got room x y e = go (ltb room (length x)) refl e
  where
    go : (b : Bool) → ltb room (length x) ≡ b → pick b (refused BufferTooShort) (got x) ≡ got y → (x ≡ y) × (length x ≤ room)
    go true q z = not_got BufferTooShort y z
    go false q z = (same_tree z, ltb-false room (length x) q)

fitted_refused : (room : ℕ) (x : List ℕ) (n : Refusal) → fitted room x ≡ refused n → (n ≡ BufferTooShort) × (room < length x)
unfolding fitted
fitted_refused room x n e = go (ltb room (length x)) refl e
  where
    go : (b : Bool) → ltb room (length x) ≡ b → pick b (refused BufferTooShort) (got x) ≡ refused n → (n ≡ BufferTooShort) × (room < length x)
    go true q z = (cc z, ltb-true room (length x) q)
    go false q z = not_got n x (sym z)

-- ---- The laws of a call on a tree of bytes.

module _ (s : List ℕ) where
  -- a result is the reduced tree of what the bytes hold, and fits
  pub given : (room : ℕ) (x : List ℕ) → reducing s room ≡ got x → Given s x × (length x ≤ room)
  given room x e = go (decided s)
    where
      go : Decided s → Given s x × (length x ≤ room)
      go (refuses n i f) = not_got n x (sym (f room) ∙ e)
      go (gives_tree y g f) =
          let h = fitted_got room y x (sym (f room) ∙ e) in
          (subst (λ (z : List ℕ). Given s z) h.0 g, omega (arith, ap length h.0, h.1))

  -- and is the result at every size that has room for it
  pub at_room : (room : ℕ) (x : List ℕ) → Given s x → reducing s room ≡ fitted room x
  unfolding reducing also
  at_room room x g = simp (g.read, g.reduces, g.is) refl

  -- What is refused is one of 2 to 7, 14 and 9.
  pub reducing_refuses : (room : ℕ) (n : Refusal) → reducing s room ≡ refused n → is_of (of_reducing ++ (BufferTooShort ∷ [])) n ≡ true
  reducing_refuses room n e = go (decided s)
    where
      go : Decided s → is_of (of_reducing ++ (BufferTooShort ∷ [])) n ≡ true
      go (refuses m i f) =
          let h : m ≡ n = cc (sym (f room) ∙ e) in
          subst (λ (k : Refusal). is_of (of_reducing ++ (BufferTooShort ∷ [])) k ≡ true) h (later {A = Tree} of_reducing (BufferTooShort ∷ []) (refused m) i)
      go (gives_tree y g f) = ap (is_of (of_reducing ++ (BufferTooShort ∷ []))) (fitted_refused room y n (sym (f room) ∙ e)).0

  -- A 9 means that the reduced tree is longer than the buffer.
  pub nine_is : (room : ℕ) → reducing s room ≡ refused BufferTooShort → (x : List ℕ) × Given s x × (room < length x)
  nine_is room e = go (decided s)
    where
      go : Decided s → (x : List ℕ) × Given s x × (room < length x)
      go (refuses n i f) = let h : n ≡ BufferTooShort = cc (sym (f room) ∙ e) in absurd (false≢true (ap (is_of of_reducing) (sym h) ∙ i))
      go (gives_tree y g f) = (y, g, (fitted_refused room y BufferTooShort (sym (f room) ∙ e)).1)

  -- More room changes nothing: a result stays, and so does any refusal but 9.
  pub more_room : (a b : ℕ) (x : List ℕ) → a ≤ b → reducing s a ≡ got x → reducing s b ≡ got x
  more_room a b x l e = let h = given a x e in at_room b x h.0 ∙ fits b x (omega (arith, h.1))

  pub refused_anywhere : (a b : ℕ) (n : Refusal) → is_of of_reducing n ≡ true → reducing s a ≡ refused n → reducing s b ≡ refused n
  refused_anywhere a b n i e = go (decided s)
    where
      go : Decided s → reducing s b ≡ refused n
      go (refuses m j f) = f b ∙ sym (f a) ∙ e
      go (gives_tree y g f) =
          let h : n ≡ BufferTooShort = (fitted_refused a y n (sym (f a) ∙ e)).0 in
          absurd (false≢true (ap (is_of of_reducing) (sym h) ∙ i))

  module _ (b : Bytes s) where
    given_short : (x : List ℕ) → Given s x → length x ≤ length s
    given_short x g =
        let h = tree_is planner s g.tree g.read in
        let w = parse_encode planner.depth s g.tree b h.1 in
        omega (arith, ap length w, ap length g.is, reduced_short g.tree g.becomes g.reduces)

    -- A result is never longer than the tree.
    pub reducing_short : (room : ℕ) (x : List ℕ) → reducing s room ≡ got x → length x ≤ length s
    reducing_short room x e = given_short x (given room x e).0

    -- It is accepted again by 2 to 7, as a tree that is reduced.
    pub reducing-taken : (room : ℕ) (x : List ℕ) → reducing s room ≡ got x → (u : Tree) × (accepted_tree planner x ≡ got u) × (reduced u ≡ got u)
    reducing-taken room x e =
        let g = (given room x e).0 in
        let r = reduced_taken s g.tree g.becomes b g.read g.reduces in
        (g.becomes, ap (accepted_tree planner) (sym g.is) ∙ r, reduced_again g.tree g.becomes g.reduces)

    -- Reducing it again, with any buffer that holds it, gives it itself.
    pub reducing_again : (room again : ℕ) (x : List ℕ) → length x ≤ again → reducing s room ≡ got x → reducing x again ≡ got x
    unfolding reducing also
    reducing_again room again x l e =
        let g = (given room x e).0 in
        let r = reduced_taken s g.tree g.becomes b g.read g.reduces in
        let q : accepted_tree planner x ≡ got g.becomes = ap (accepted_tree planner) (sym g.is) ∙ r in
        simp (q, reduced_again g.tree g.becomes g.reduces, g.is, fits again x l) refl

    -- A buffer as long as the tree suffices: what is then refused is one of 2 to 7 and 14, and never 9.
    pub enough_room : (room : ℕ) (n : Refusal) → length s ≤ room → reducing s room ≡ refused n → is_of of_reducing n ≡ true
    enough_room room n l e = go (decided s)
      where
        go : Decided s → is_of of_reducing n ≡ true
        go (refuses m i f) = let h : m ≡ n = cc (sym (f room) ∙ e) in sym (ap (is_of of_reducing) h) ∙ i
        go (gives_tree y g f) =
            let h : room < length y = (fitted_refused room y n (sym (f room) ∙ e)).1 in
            absurd (omega (arith, given_short y g))
