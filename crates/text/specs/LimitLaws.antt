-- One tree lowered by two callers, whatever their limits and buffers (document 02, slip 7): what one writes the other writes too, or refuses with 2, 4, 8
-- or 9. Both read the same tree or refuse it by its size (crate tree, LimitLaws.antt); of one text the limit and the room alone decide.
use Rattle.std.specs.Prelude.{ℕ, ◌≤◌, ◌<◌, ◌≡◌, Bool, true, false, List, [], ◌∷◌, length, ltb, eqb}
use Rattle.std.proofs.Math.Path.{refl}
use Rattle.std.proofs.Common.{sym, ap, ◌∙◌, arith, ltb-true, ltb-false}
use Rattle.prelude.specs.Choice.{pick, either}
use Rattle.refusal.specs.declared.Refusal.{Refusal}
use Rattle.refusal.specs.declared.Refusal.TheVariants.{TreeTooLong, TooDeep, TextTooLong, BufferTooShort}
use Rattle.refusal.specs.Number.{number_of}
use Rattle.literal.specs.declared.Writing.{Writing}
use Rattle.tree.specs.declared.Limits.{Limits}
use Rattle.tree.specs.Limits.{NoGreater, planner}
use Rattle.tree.specs.Tree.{Tree, Settings, Bytes}
use Rattle.tree.specs.Levels.{levels}
use Rattle.tree.specs.Parse.{Read, refused, got, also, parse}
use Rattle.tree.specs.Placed.{placed}
use Rattle.tree.specs.ParseLaws.{not_got}
use Rattle.tree.specs.Accepted.{accepted, settings as tree-settings}
use Rattle.tree.specs.AcceptedLaws.{accepted-is}
use Rattle.tree.specs.EncodeLaws.{size_limit}
use Rattle.tree.specs.LevelLaws.{shallow_read, deep_refused}
use Rattle.tree.specs.LimitLaws.{is_of, Else, alike, stops, sizes, accepted-more, accepted_other}
use Rattle.room.specs.Room.{sized}
use Rattle.room.specs.RoomLaws.{has_room}
use Rattle.text.specs.Text.{text}
use Rattle.text.specs.Lowered.{fitted, lowering_within}
use Rattle.text.specs.LoweredLaws.{Given, given, at_room}

-- the refusals that go by a caller's limits and buffer
abbrev pub by_size : List Refusal
by_size = TreeTooLong ∷ TooDeep ∷ TextTooLong ∷ BufferTooShort ∷ []

among : (n : Refusal) → is_of sizes n ≡ true → is_of by_size n ≡ true
among n i = go (eqb (number_of TreeTooLong) (number_of n)) (eqb (number_of TooDeep) (number_of n)) i
  where
    go : (x y : Bool) → either x (either y false) ≡ true → either x (either y (is_of (TextTooLong ∷ BufferTooShort ∷ []) n)) ≡ true
    go true y i = refl
    go false true i = refl
    go false false i = absurd (let v : ◌≡◌ {A = ℕ} 0 1 = cc in let w : ⊥ = omega arith in w)

fitted_else : (limit room : ℕ) (x : List ℕ) → Else by_size (fitted limit room x) (got x)
unfolding fitted sized
fitted_else limit room x = go (ltb limit (length x)) (ltb room (length x))
  where
    go : (a b : Bool) → Else by_size (pick a (refused TextTooLong) (pick b (refused BufferTooShort) (got x))) (got x)
    go true b = stops TextTooLong refl refl
    go false true = stops BufferTooShort refl refl
    go false false = alike refl

module _ (a b : Limits) (w : Writing) (settings tree : List ℕ) where
  -- What b lets through a lets through too, or refuses by its own limits or buffer.
  pub other_caller : (m n : ℕ) (x : List ℕ) → lowering_within b w settings tree n ≡ got x → Else by_size (lowering_within a w settings tree m) (got x)
  unfolding lowering_within also
  other_caller m n x e =
      let g = given b w settings tree n x e in
      go g (accepted_other a b settings tree g.holds g.read)
    where
      onto : {y z : Read (List ℕ)} → z ≡ y → Else by_size y (got x) → Else by_size z (got x)
      onto q (alike r) = alike (q ∙ r)
      onto q (stops k i r) = stops k i (q ∙ r)

      go : (g : Given b w settings tree x) → Else sizes (accepted a settings tree) (got g.holds) → Else by_size (lowering_within a w settings tree m) (got x)
      go g (alike r) =
          onto
          (ap (λ (s : Read (Settings × Tree)). also s (λ p. fitted a.text m (text w p.0 p.1))) r ∙ ap (fitted a.text m) g.is)
          (fitted_else a.text m x)
      go g (stops k i r) = stops k (among k i) (ap (λ (s : Read (Settings × Tree)). also s (λ p. fitted a.text m (text w p.0 p.1))) r)

  -- Which of them: 2 if the tree is longer than a's limit, else 4 if it has more levels, else 8 or 9 by the text.
  pub own_answer : (m n : ℕ) (h : Settings) (t : Tree) (x : List ℕ) → NoGreater b planner → Bytes tree → accepted b settings tree ≡ got (h, t) → lowering_within b w settings tree n ≡ got x
      → lowering_within a w settings tree m ≡ pick (ltb a.tree (length tree)) (refused TreeTooLong) (pick (ltb a.depth (levels t)) (refused TooDeep) (fitted a.text m x))
  unfolding lowering_within accepted also
  own_answer m n h t x l y r e = go (ltb a.tree (length tree)) (ltb a.depth (levels t)) refl refl
    where
      q : (tree-settings settings ≡ got h) × (length tree ≤ b.tree) × (parse b.depth tree ≡ got t) × (placed t ≡ true)
      q = accepted-is b settings tree h t r

      is : text w h t ≡ x
      is = let g = given b w settings tree n x e in let z : ◌≡◌ {A = Settings × Tree} g.holds (h, t) = (let v : ◌≡◌ {A = Read (Settings × Tree)} (got g.holds) (got (h, t)) = sym g.read ∙ r in cc) in sym (ap (λ (p : Settings × Tree). text w p.0 p.1) z) ∙ g.is

      short : length tree < size_limit
      short = omega (arith, q.1, l.tree)

      go : (c d : Bool) → ltb a.tree (length tree) ≡ c → ltb a.depth (levels t) ≡ d
          → lowering_within a w settings tree m ≡ pick c (refused TreeTooLong) (pick d (refused TooDeep) (fitted a.text m x))
      go true d i j = simp (q.0, i)
      go false true i j = simp (q.0, i, deep_refused a.depth b.depth tree t y short q.2 (ltb-true a.depth (levels t) j))
      go false false i j = simp (q.0, i, shallow_read a.depth b.depth tree t y short q.2 (ltb-false a.depth (levels t) j), q.3) (ap (fitted a.text m) is)

  -- "For the same call, settings and tree both write equal texts where both accept".
  pub both_write : (m n : ℕ) (x y : List ℕ) → lowering_within a w settings tree m ≡ got x → lowering_within b w settings tree n ≡ got y → x ≡ y
  both_write m n x y d e = go (other_caller m n y e)
    where
      go : Else by_size (lowering_within a w settings tree m) (got y) → x ≡ y
      go (alike q) = let z : ◌≡◌ {A = Read (List ℕ)} (got x) (got y) = sym d ∙ q in cc
      go (stops k i q) = not_got k x (sym q ∙ d)

  -- What the one accepts the other refuses by 2, 4, 8 or 9 alone.
  pub refuses_by_size : (m n : ℕ) (x : List ℕ) (r : Refusal) → lowering_within b w settings tree n ≡ got x → lowering_within a w settings tree m ≡ refused r → is_of by_size r ≡ true
  refuses_by_size m n x r e d = go (other_caller m n x e)
    where
      go : Else by_size (lowering_within a w settings tree m) (got x) → is_of by_size r ≡ true
      go (alike q) = not_got r x (sym d ∙ q)
      go (stops k i q) = let z : ◌≡◌ {A = Read (List ℕ)} (refused k) (refused r) = sym q ∙ d in let v : k ≡ r = cc in sym (ap (is_of by_size) v) ∙ i

  -- What is accepted within some limits is accepted within any that are no smaller, with a buffer as long as the text, or a longer one.
  pub more_accepts : (m n : ℕ) (x : List ℕ) → NoGreater a b → lowering_within a w settings tree m ≡ got x → length x ≤ n → lowering_within b w settings tree n ≡ got x
  unfolding fitted
  more_accepts m n x h e l =
      let g = given a w settings tree m x e in
      let k : Given b w settings tree x = record { holds = g.holds; read = accepted-more a b settings tree g.holds h g.read; is = g.is; short = omega (arith, g.short, h.text) } in
      at_room b w settings tree x n k ∙ has_room refused (got x) b.text n (length x) k.short l
