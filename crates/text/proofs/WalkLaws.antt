-- What the walk needs: a list's text item by item, the pieces of a template as texts, the node that a record of kind 9 or 10 is, and the text of each form step by step.
use Prim.Native.Nat.{ℕ, zero, suc, ◌+◌, ◌-◌, ◌*◌, ◌%◌, ◌≤◌, ◌<◌, min}
use mathlib.Core.Path.{◌≡◌, refl, ap, sym, ◌∙◌, subst}
use mathlib.Core.List.{List, [], ◌∷◌, ◌++◌, append_assoc, append-nil}
use mathlib.Core.Bool.{Bool, true, false, ◌&&◌}
use native.Mathlib.Omega.{arith}
use lib.ListN.{length, get_or, take, drop, length-drop, length-take, length-append, drop_of_length-le}
use lib.Seq.{drop-drop, take-take, take-suc, take_all, take_at, drop_at}
use native.Mathlib.Nat.{add-sub_cancel_left}
use native.Mathlib.Numerals.{add-one}
use Rattle.emit.specs.EmitLaws.{lays_none, lays_of, lays_then}
use Rattle.sql.specs.TemplateLaws.{fill-append, spelt-append, digit-part, end_fills}
use lib.Dec.{T, eqb, ltb, lt→ltb}
use borrow.Author.Tests.{ltb-true, ltb-false, eqb-true, eq-eqb, ne_eqb}
use Rattle.text.proofs.NodeLaws.{is-between, is_spatial_lem, is_temporal_lem, apart, infix_parts, monadic_parts, between-parts, spatial_parts}
use Rattle.prelude.specs.Choice.{pick, both, either, negated, between, all}
use Rattle.prelude.specs.Bytes.{bytes}
use Rattle.prelude.specs.Table.{both_left, both_right}
use Rattle.record.specs.Record.{le16, record_of}
use Rattle.op.specs.declared.Op.{Op}
use Rattle.op.specs.Op.{op_number}
use Rattle.op.specs.OpLaws.{number-below}
use Rattle.literal.specs.declared.Writing.{Writing}
use Rattle.tree.specs.Kinds.{UNBOUNDED}
use Rattle.tree.specs.Tree.{Tree, Trees, Settings, encode, encodes, counted, null, unbounded, bool, num, str, date, timestamp, spatial, id, monadic, dyadic, function, array, interval, none, ◌then◌, kind_of}
use Rattle.literal.specs.Literal.{Slot, stop_slot, null_text, date_text}
use Rattle.sql.specs.declared.Part.{Part}
use Rattle.sql.specs.declared.Part.TheVariants as parts
use Rattle.sql.specs.Template.{fill, place, spelt, part_of, words_of}
use Rattle.operand.specs.declared.End as end
use Rattle.operand.specs.declared.End.TheVariants.{Column, Instant, Other, Open, Null}
use Rattle.part.specs.declared.Flat as flat
use Rattle.part.specs.declared.Flat.TheVariants.{Words, Opened, Nothing}
use Rattle.part.specs.declared.Piece.TheVariants as pieces
use Rattle.part.specs.PieceWords.{is_second, end_piece, piece_of, flat_text}
use Rattle.emit.specs.Emit.{count_limit, ended}
use Rattle.emit.specs.LaysWords.{Lays}
use Rattle.text.specs.Text.{text, texts, joined, end_text}
use Rattle.spelling.specs.Spelling.{word}
use Rattle.text.specs.EndWords.{Is, Are, node_ends, slot, temporal_of}
use Rattle.text.specs.FormWords.{items_of, infix_text, reduced_text, left_bare, right_bare, twin, twin_of, operand_of, before_text, behind_text}
use Rattle.text.specs.LeafWords.{leaf_text}
use Rattle.text.specs.NodeWords.{Node, one, two, Bound, gone, item}
use Rattle.text.specs.RecordWords.{Inside, part, Stands, EndOf, sound, sounds}
use Rattle.text.proofs.RecordLaws.{beyond, size_of, long, part_at}
use Rattle.text.proofs.LiteralLaws.{kind-whole}
use Rattle.text.proofs.EndLaws.{both_first, both-second, stands_part}
use Rattle.text.proofs.LeafLaws.{leaf_text_lem}
use Rattle.text.proofs.OperandLaws.{operand_stands, twins, under_stands, bounds}
use Rattle.text.proofs.SortLaws.{kind_id}
use Rattle.tree.specs.Tests.{first, second, is_id, is_literal_or_id, ends_of, by_operator}
use Rattle.tree.specs.Placed.{is_between}

never : {A : Type 0} → ◌≡◌ {A = ℕ} 0 1 → A
never e = absurd (let v : ⊥ = omega arith in v)

-- Items.

-- the items after the first, each after a comma
unfoldable pub after : Writing → Settings → Trees → List ℕ
after writing g none = []
after writing g (t then ts) = bytes ", " ++ (text writing g t ++ after writing g ts)

joined-after : (writing : Writing) (g : Settings) (t : Tree) (ts : Trees) → joined (texts writing g (t then ts)) ≡ text writing g t ++ after writing g ts
unfolding joined texts after
joined-after writing g t none = sym (append-nil (text writing g t))
joined-after writing g t (u then us) = ap (λ (l : List ℕ). text writing g t ++ (bytes ", " ++ l)) (joined-after writing g u us)

-- what is to come at the place p of a list
unfoldable pub tail : Writing → Settings → ℕ → Trees → List ℕ
tail writing g p us = pick (eqb p 0) (joined (texts writing g us)) (after writing g us)

-- how far the items of ts have come
pub record Come (writing : Writing) (g : Settings) (s : List ℕ) (at : ℕ) (out₀ : List ℕ) (ts : Trees) (p here : ℕ) (out : List ℕ) : Type 0 where
  pub done : List ℕ
  pub us : Trees
  pub there : drop p s ≡ encodes us
  pub fit : sounds us ≡ true
  pub whole : joined (texts writing g ts) ≡ done ++ tail writing g p us
  pub laid : Lays count_limit at done out₀ out here

pub come_start : (writing : Writing) (g : Settings) (s : List ℕ) (at : ℕ) (out : List ℕ) (ts : Trees) (here : ℕ) → s ≡ encodes ts → sounds ts ≡ true → here ≡ ended count_limit at 0 → Come writing g s at out ts 0 here out
unfolding tail
come_start writing g s at out ts here e f h = record { done = []; us = ts; there = e; fit = f; whole = refl; laid = lays_none h }

tail_none : (writing : Writing) (g : Settings) (p : ℕ) → tail writing g p none ≡ []
unfolding tail joined texts after
tail_none writing g p = go (eqb p 0)
  where
    go : (b : Bool) → ◌≡◌ {A = List ℕ} (pick {A = List ℕ} b [] []) []
    go true = refl
    go false = refl

no_more : (s : List ℕ) (p : ℕ) (ts : Trees) → drop p s ≡ encodes ts → length s ≤ p → ts ≡ none
unfolding encodes
no_more s p none d h = refl
no_more s p (x then ts) d h =
    let a : length (encode x) + length (encodes ts) ≡ 0 = sym (length-append (encode x) (encodes ts)) ∙ ap length (sym d ∙ drop_of_length-le s h) in
    let b = long x in
    absurd (let v : ⊥ = omega arith in v)

pub come_end : {writing : Writing} {g : Settings} {s : List ℕ} {at : ℕ} {out₀ : List ℕ} {ts : Trees} {p here : ℕ} {out : List ℕ} → length s ≤ p → Come writing g s at out₀ ts p here out → Lays count_limit at (joined (texts writing g ts)) out₀ out here
come_end {writing} {g} {s} {at} {out₀} {ts} {p} h c =
    let z : tail writing g p c.us ≡ [] = ap (λ (us : Trees). tail writing g p us) (no_more s p c.us c.there h) ∙ tail_none writing g p in
    lays_of (sym (c.whole ∙ ap (λ (l : List ℕ). c.done ++ l) z ∙ append-nil c.done)) c.laid

tail_next : (writing : Writing) (g : Settings) (p : ℕ) (u : Tree) (us : Trees) → tail writing g p (u then us) ≡ pick (eqb p 0) [] (bytes ", ") ++ (text writing g u ++ after writing g us)
unfolding tail after
tail_next writing g p u us = go (eqb p 0)
  where
    go : (b : Bool) → pick b (joined (texts writing g (u then us))) (bytes ", " ++ (text writing g u ++ after writing g us)) ≡ pick b [] (bytes ", ") ++ (text writing g u ++ after writing g us)
    go true = joined-after writing g u us
    go false = refl

-- the next item
pub record Next (writing : Writing) (g : Settings) (s : List ℕ) (at : ℕ) (out₀ : List ℕ) (ts : Trees) (p z here : ℕ) (out : List ℕ) : Type 0 where
  pub u : Tree
  pub stands : part s p z ≡ encode u
  pub fit : sound u ≡ true
  pub on : {m n : List ℕ} {comma there : ℕ} → Lays count_limit here (pick (eqb p 0) [] (bytes ", ")) out m comma → Lays count_limit comma (text writing g u) m n there → Come writing g s at out₀ ts z there n

pub come_next : {writing : Writing} {g : Settings} {s : List ℕ} {at : ℕ} {out₀ : List ℕ} {ts : Trees} {p z here : ℕ} {out : List ℕ} → p < length s → EndOf s p z → Come writing g s at out₀ ts p here out → Next writing g s at out₀ ts p z here out
unfolding encodes sounds tail
come_next {writing} {g} {s} {at} {out₀} {ts} {p} {z} {here} {out} h e c = go c.us c.there c.fit c.whole
  where
    go : (us : Trees) → drop p s ≡ encodes us → sounds us ≡ true → joined (texts writing g ts) ≡ c.done ++ tail writing g p us → Next writing g s at out₀ ts p z here out
    go none d f w = absurd (let q : length s - p ≡ 0 = sym (length-drop p s) ∙ ap length d in let v : ⊥ = omega arith in v)
    go (u then us) d f w =
        let zz : z ≡ p + length (encode u) = e.exact u (encodes us) d in
        let pos : (z ≡ 0) → ⊥ = λ q. let l = long u in let v : ⊥ = omega arith in v in
        let sep : List ℕ = pick {A = List ℕ} (eqb p 0) [] (bytes ", ") in
        let t : tail writing g z us ≡ after writing g us = simp (ne_eqb z 0 pos) in
        record {
          u = u;
          stands = ap (λ (n : ℕ). part s p n) zz ∙ part_at s p u (encodes us) d;
          fit = both_first (sound u) (sounds us) f;
          on = λ a b. record {
            done = c.done ++ (sep ++ text writing g u);
            us = us;
            there = ap (λ (n : ℕ). drop n s) zz ∙ beyond s p u (encodes us) d;
            fit = both-second (sound u) (sounds us) f;
            whole = w ∙ ap (λ (l : List ℕ). c.done ++ l) (tail_next writing g p u us ∙ sym (append_assoc sep (text writing g u) (after writing g us))) ∙ sym (append_assoc c.done (sep ++ text writing g u) (after writing g us)) ∙ ap (λ (l : List ℕ). (c.done ++ (sep ++ text writing g u)) ++ l) (sym t);
            laid = lays_then c.laid (lays_then a b);
          };
        }

-- Pieces of a template.

module _ {s : List ℕ} {es : List end.End} {xs : List Tree} (a : Are s es xs) where
  end_is : (j : ℕ) → j < 4 → Is s (get_or es j (Column 0 0)) (get_or xs j null)
  end_is zero h = a.is0
  end_is (suc zero) h = a.is1
  end_is (suc (suc zero)) h = a.is2
  end_is (suc (suc (suc zero))) h = a.is3
  end_is (suc (suc (suc (suc j)))) h = absurd (let v : ⊥ = omega arith in v)

plain_end : (writing : Writing) (g : Settings) {s : List ℕ} (j : ℕ) (e : end.End) (x : Tree) (f : flat.Flat) → Is s e x → end_piece j e ≡ pieces.Plain f → end_text writing (stop_slot (is_second j)) x (text writing g x) ≡ flat_text writing f
unfolding flat_text text
plain_end writing g j (Column a z) x f i e = never (cc)
plain_end writing g j (Instant a z) x f i e = never (cc)
plain_end writing g j (Other a z) x f i e = never (cc)
plain_end writing g j Open x f i e = let q : f ≡ Opened (is_second j) = cc in ap (λ (y : Tree). end_text writing (stop_slot (is_second j)) y (text writing g y)) i.here ∙ ap (flat_text writing) (sym q)
plain_end writing g j Null x f i e = let q : f ≡ Nothing = cc in ap (λ (y : Tree). end_text writing (stop_slot (is_second j)) y (text writing g y)) i.here ∙ ap (flat_text writing) (sym q)

node_end : {s : List ℕ} (j : ℕ) (e : end.End) (x : Tree) (p z : ℕ) → Is s e x → end_piece j e ≡ pieces.Node p z → (Inside s p z × (part s p z ≡ encode x)) × (eqb (kind_of x) UNBOUNDED ≡ false)
node_end j (Column a b) x p z i e = never (cc)
node_end {s} j (Instant a b) x p z i e = let q : a ≡ p = cc in let r : b ≡ z = cc in (rw (← q, ← r) i.here, sym i.opened)
node_end {s} j (Other a b) x p z i e = let q : a ≡ p = cc in let r : b ≡ z = cc in (rw (← q, ← r) i.here, sym i.opened)
node_end j Open x p z i e = never (cc)
node_end j Null x p z i e = never (cc)

name-end : {s : List ℕ} (j : ℕ) (e : end.End) (x : Tree) (p z : ℕ) → Is s e x → end_piece j e ≡ pieces.Name p z → (Inside s p z × (part s p z ≡ encode x)) × (is_id x ≡ true) × (eqb (kind_of x) UNBOUNDED ≡ false)
name-end {s} j (Column a b) x p z i e = let q : a ≡ p = cc in let r : b ≡ z = cc in (rw (← q, ← r) i.here, sym i.column, sym i.opened)
name-end j (Instant a b) x p z i e = never (cc)
name-end j (Other a b) x p z i e = never (cc)
name-end j Open x p z i e = never (cc)
name-end j Null x p z i e = never (cc)

-- a name's text is its record's body
name_text : (writing : Writing) (g : Settings) (x : Tree) → is_id x ≡ true → text writing g x ≡ drop 6 (encode x)
unfolding is_id text encode record_of
name_text writing g null e = never (cc)
name_text writing g unbounded e = never (cc)
name_text writing g (bool b) e = never (cc)
name_text writing g (num m s) e = never (cc)
name_text writing g (str f s) e = never (cc)
name_text writing g (date y m d) e = never (cc)
name_text writing g (timestamp y m d h i s) e = never (cc)
name_text writing g (spatial n s) e = never (cc)
name_text writing g (id n) e = refl
name_text writing g (monadic o t) e = never (cc)
name_text writing g (dyadic o t u) e = never (cc)
name_text writing g (function n ts) e = never (cc)
name_text writing g (array ts) e = never (cc)
name_text writing g (interval t u) e = never (cc)

-- no digit
clear : List ℕ → Bool
clear l = all (λ b. negated (between 48 b 57)) l

clear_fill : (f : ℕ → List ℕ) (l : List ℕ) → clear l ≡ true → fill f l ≡ l
unfolding clear fill
clear_fill f [] e = refl
clear_fill f (b ∷ l) e = go (between 48 b 57) e (clear_fill f l)
  where
    go : (x : Bool) → (negated x && clear l) ≡ true → (clear l ≡ true → fill f l ≡ l) → pick x (f (b - 48)) (b ∷ []) ++ fill f l ≡ b ∷ l
    go true z h = never (cc)
    go false z h = ap (λ (x : List ℕ). b ∷ x) (h z)

-- the words of a part have none
clear_part : (p : Part) → 4 ≤ place p → clear (part_of p) ≡ true
unfolding part_of clear
clear_part parts.E0 h = absurd (let v : ⊥ = omega arith in v)
clear_part parts.E1 h = absurd (let v : ⊥ = omega arith in v)
clear_part parts.E2 h = absurd (let v : ⊥ = omega arith in v)
clear_part parts.E3 h = absurd (let v : ⊥ = omega arith in v)
clear_part parts.Open h = refl
clear_part parts.Close h = refl
clear_part parts.CloseBoth h = refl
clear_part parts.Greater h = refl
clear_part parts.Less h = refl
clear_part parts.Equal h = refl
clear_part parts.Unequal h = refl
clear_part parts.Quote h = refl
clear_part parts.IsNotNull h = refl
clear_part parts.IsNotNullQuote h = refl
clear_part parts.NotNull h = refl
clear_part parts.Or h = refl
clear_part parts.And h = refl
clear_part parts.Not h = refl
clear_part parts.Blank h = refl

-- the text of an end's part
end-part : (writing : Writing) (g : Settings) (xs : List Tree) (p : Part) → place p < 4 → fill (slot writing g xs) (part_of p) ≡ slot writing g xs (place p)
unfolding fill
end-part writing g xs p h =
    ap (fill (slot writing g xs)) (digit-part p h)
    ∙ end_fills (slot writing g xs) (place p) [] (lt→ltb (place p) 4 h)
    ∙ append-nil (slot writing g xs (place p))

-- an end that is not open is written by its own text
closed_text : (writing : Writing) (p : Slot) (x : Tree) (y : List ℕ) → eqb (kind_of x) UNBOUNDED ≡ false → end_text writing p x y ≡ y
closed_text writing p x y e = rw e refl

-- a part of a template that is written as it is
plain_piece : (writing : Writing) (g : Settings) {s : List ℕ} {es : List end.End} {xs : List Tree} → Are s es xs → (c : Part) (f : flat.Flat) → piece_of c es ≡ pieces.Plain f → fill (slot writing g xs) (part_of c) ≡ flat_text writing f
unfolding piece_of flat_text words_of
plain_piece writing g {s} {es} {xs} a c f e = go (ltb (place c) 4) refl e
  where
    go : (b : Bool) → ltb (place c) 4 ≡ b → pick b (end_piece (place c) (get_or es (place c) (Column 0 0))) (pieces.Plain (Words c)) ≡ pieces.Plain f → fill (slot writing g xs) (part_of c) ≡ flat_text writing f
    go true q z =
        let h = ltb-true (place c) 4 q in
        end-part writing g xs c h
        ∙ plain_end writing g (place c) (get_or es (place c) (Column 0 0)) (get_or xs (place c) null) f (end_is a (place c) h) z
    go false q z =
        let y : f ≡ Words c = cc in
        clear_fill (slot writing g xs) (part_of c) (clear_part c (ltb-false (place c) 4 q))
        ∙ ap (λ (b : Bool). pick b [] (part_of c)) (sym q)
        ∙ ap (flat_text writing) (sym y)

-- a part of a template that stands for a record
pub record Child (writing : Writing) (g : Settings) (s : List ℕ) (p z : ℕ) (l : List ℕ) : Type 0 where
  pub x : Tree
  pub inside : Inside s p z
  pub stands : part s p z ≡ encode x
  pub fit : sound x ≡ true
  pub filled : l ≡ text writing g x

pub node_piece : (writing : Writing) (g : Settings) {s : List ℕ} {es : List end.End} {xs : List Tree} → Are s es xs → (c : Part) (p z : ℕ) → piece_of c es ≡ pieces.Node p z → Child writing g s p z (fill (slot writing g xs) (part_of c))
unfolding piece_of
node_piece writing g {s} {es} {xs} a c p z e = go (ltb (place c) 4) refl e
  where
    go : (b : Bool) → ltb (place c) 4 ≡ b → pick b (end_piece (place c) (get_or es (place c) (Column 0 0))) (pieces.Plain (Words c)) ≡ pieces.Node p z → Child writing g s p z (fill (slot writing g xs) (part_of c))
    go true q y =
        let h = ltb-true (place c) 4 q in
        let i = end_is a (place c) h in
        let n = node_end (place c) (get_or es (place c) (Column 0 0)) (get_or xs (place c) null) p z i y in
        record { x = get_or xs (place c) null; inside = n.0.0; stands = n.0.1; fit = i.fit; filled = end-part writing g xs c h ∙ closed_text writing (stop_slot (is_second (place c))) (get_or xs (place c) null) (text writing g (get_or xs (place c) null)) n.1 }
    go false q y = never (cc)

-- a part of a template that stands for a name
pub record Word (s : List ℕ) (p z : ℕ) (l : List ℕ) : Type 0 where
  pub inside : Inside s p z
  pub filled : l ≡ drop 6 (part s p z)

pub name_piece : (writing : Writing) (g : Settings) {s : List ℕ} {es : List end.End} {xs : List Tree} → Are s es xs → (c : Part) (p z : ℕ) → piece_of c es ≡ pieces.Name p z → Word s p z (fill (slot writing g xs) (part_of c))
unfolding piece_of
name_piece writing g {s} {es} {xs} a c p z e = go (ltb (place c) 4) refl e
  where
    go : (b : Bool) → ltb (place c) 4 ≡ b → pick b (end_piece (place c) (get_or es (place c) (Column 0 0))) (pieces.Plain (Words c)) ≡ pieces.Name p z → Word s p z (fill (slot writing g xs) (part_of c))
    go true q y =
        let h = ltb-true (place c) 4 q in
        let n = name-end (place c) (get_or es (place c) (Column 0 0)) (get_or xs (place c) null) p z (end_is a (place c) h) y in
        record { inside = n.0.0; filled = end-part writing g xs c h ∙ closed_text writing (stop_slot (is_second (place c))) (get_or xs (place c) null) (text writing g (get_or xs (place c) null)) n.2 ∙ name_text writing g (get_or xs (place c) null) n.1 ∙ ap (drop 6) (sym n.0.1) }
    go false q y = never (cc)

-- one part more of a template
fill_next : (f : ℕ → List ℕ) (ps : List Part) (k : ℕ) (d : Part) → k < length ps → fill f (spelt (take (k + 1) ps)) ≡ fill f (spelt (take k ps)) ++ fill f (part_of (get_or ps k d))
unfolding spelt
fill_next f ps k d l =
    ap (λ (x : List Part). fill f (spelt x)) (ap (λ (j : ℕ). take j ps) (add-one k) ∙ take-suc ps k d l)
    ∙ ap (fill f) (spelt-append (take k ps) (get_or ps k d ∷ []) ∙ ap (λ (x : List ℕ). spelt (take k ps) ++ x) (append-nil (part_of (get_or ps k d))))
    ∙ fill-append f (spelt (take k ps)) (part_of (get_or ps k d))

-- Nodes with operands.

op_one : (o : Op) (t : Tree) → le16 (encode (monadic o t)) 6 ≡ op_number o
unfolding encode record_of
op_one o t = let h = number-below o in omega arith

op_two : (o : Op) (t u : Tree) → le16 (encode (dyadic o t u)) 6 ≡ op_number o
unfolding encode record_of
op_two o t u = let h = number-below o in omega arith

sides : (s : List ℕ) (o : Op) (t u : Tree) → s ≡ encode (dyadic o t u) → drop 8 s ≡ encode t ++ encode u
unfolding encode record_of
sides s o t u e = ap (λ (l : List ℕ). drop 8 l) e

both_sides : (s : List ℕ) (o : Op) (t u : Tree) (m : ℕ) → s ≡ encode (dyadic o t u) → sound (dyadic o t u) ≡ true → EndOf s 8 m → Stands s 8 m t × Stands s m (length s) u
unfolding sound
both_sides s o t u m e f n =
    let d = sides s o t u e in
    let l : length s ≡ 8 + (length (encode t) + length (encode u)) = ap length e ∙ size_of (dyadic o t u) ∙ (let z : 6 + suc (suc (length (encode t ++ encode u))) ≡ 8 + (length (encode t) + length (encode u)) = rw length-append (omega arith) in z) in
    let mm : m ≡ 8 + length (encode t) = n.exact t (encode u) d in (
      record { rest = encode u; there = d; past = mm; starts = omega arith; inside = omega arith; fit = both_first (sound t) (sound u) f },
      record {
        rest = [];
        there = ap (λ (y : ℕ). drop y s) mm ∙ beyond s 8 t (encode u) d ∙ sym (append-nil (encode u));
        past = omega arith;
        starts = omega arith;
        inside = omega arith;
        fit = both-second (sound t) (sound u) f;
      },
    )

pub node_of : (s : List ℕ) (kind op m : ℕ) (t : Tree) → s ≡ encode t → sound t ≡ true → kind ≡ le16 s 4 → op ≡ le16 s 6 → EndOf s 8 m → 9 ≤ kind → kind < 11 → Node s kind op m t
unfolding sound
node_of s kind op m null e f k n z a b = absurd (let w = kind-whole s null e in let v : ⊥ = omega arith in v)
node_of s kind op m unbounded e f k n z a b = absurd (let w = kind-whole s unbounded e in let v : ⊥ = omega arith in v)
node_of s kind op m (bool y) e f k n z a b = absurd (let w = kind-whole s (bool y) e in let v : ⊥ = omega arith in v)
node_of s kind op m (num y x) e f k n z a b = absurd (let w = kind-whole s (num y x) e in let v : ⊥ = omega arith in v)
node_of s kind op m (str y x) e f k n z a b = absurd (let w = kind-whole s (str y x) e in let v : ⊥ = omega arith in v)
node_of s kind op m (date y q d) e f k n z a b = absurd (let w = kind-whole s (date y q d) e in let v : ⊥ = omega arith in v)
node_of s kind op m (timestamp y q d h i x) e f k n z a b = absurd (let w = kind-whole s (timestamp y q d h i x) e in let v : ⊥ = omega arith in v)
node_of s kind op m (spatial y x) e f k n z a b = absurd (let w = kind-whole s (spatial y x) e in let v : ⊥ = omega arith in v)
node_of s kind op m (id x) e f k n z a b = absurd (let w = kind-whole s (id x) e in let v : ⊥ = omega arith in v)
node_of s kind op m (monadic o t) e f k n z a b = one o t (k ∙ kind-whole s (monadic o t) e) (n ∙ ap (λ (l : List ℕ). le16 l 6) e ∙ op_one o t) e f
node_of s kind op m (dyadic o t u) e f k n z a b = let p = both_sides s o t u m e f z in two o t u (k ∙ kind-whole s (dyadic o t u) e) (n ∙ ap (λ (l : List ℕ). le16 l 6) e ∙ op_two o t u) p.0 p.1
node_of s kind op m (function y ts) e f k n z a b = absurd (let w = kind-whole s (function y ts) e in let v : ⊥ = omega arith in v)
node_of s kind op m (array ts) e f k n z a b = absurd (let w = kind-whole s (array ts) e in let v : ⊥ = omega arith in v)
node_of s kind op m (interval t u) e f k n z a b = absurd (let w = kind-whole s (interval t u) e in let v : ⊥ = omega arith in v)

-- Lists.

pub record Listed (writing : Writing) (g : Settings) (s : List ℕ) (from to : ℕ) (t : Tree) : Type 0 where
  pub ts : Trees
  pub there : take (length s - to) (drop to s) ≡ encodes ts
  pub fit : sounds ts ≡ true
  pub whole : text writing g t ≡ take (to - from) (drop from s) ++ (bytes "(" ++ (joined (texts writing g ts) ++ bytes ")"))

array_listed : (writing : Writing) (g : Settings) (s : List ℕ) (from to : ℕ) (ts : Trees) → s ≡ encode (array ts) → sounds ts ≡ true → to ≡ 6 → from ≡ 6 → Listed writing g s from to (array ts)
unfolding encode record_of text
array_listed writing g s from to ts e f a b =
    let d : drop 6 s ≡ encodes ts = ap (λ (l : List ℕ). drop 6 l) e in
    let l : length (drop 6 s) ≤ length s - 6 = rw length-drop (omega arith) in
    record {
      ts = ts;
      there = ap (λ (n : ℕ). take (length s - n) (drop n s)) a ∙ take_all (length s - 6) (drop 6 s) l ∙ d;
      fit = f;
      whole = rw (a, b) refl;
    }

function_listed : (writing : Writing) (g : Settings) (s : List ℕ) (from to : ℕ) (n : List ℕ) (ts : Trees) → s ≡ encode (function n ts) → sounds ts ≡ true → to ≡ 7 + length n → from ≡ 7 → Listed writing g s from to (function n ts)
unfolding encode record_of text counted
function_listed writing g s from to n ts e f a b =
    let d : drop 7 s ≡ n ++ encodes ts = ap (λ (l : List ℕ). drop 7 l) e in
    let z : drop (7 + length n) s ≡ encodes ts = sym (drop-drop (length n) 7 s) ∙ ap (λ (l : List ℕ). drop (length n) l) d ∙ drop_at n (encodes ts) (length n) refl in
    let l : length (drop (7 + length n) s) ≤ length s - (7 + length n) = rw length-drop (omega arith) in
    let k : take (to - from) (drop from s) ≡ n =
    ap (λ (x : ℕ). take (to - x) (drop x s)) b ∙ ap (λ (x : ℕ). take (x - 7) (drop 7 s)) a ∙ ap (λ (x : ℕ). take x (drop 7 s)) (add-sub_cancel_left 7 (length n)) ∙ ap (λ (x : List ℕ). take (length n) x) d ∙ take_at n (encodes ts) (length n) refl in
    record {
      ts = ts;
      there = ap (λ (x : ℕ). take (length s - x) (drop x s)) a ∙ take_all (length s - (7 + length n)) (drop (7 + length n) s) l ∙ z;
      fit = f;
      whole = ap (λ (l : List ℕ). l ++ (bytes "(" ++ (joined (texts writing g ts) ++ bytes ")"))) (sym k);
    }

counted-length : (n : List ℕ) → length (counted n) ≡ suc (length n)
unfolding counted
counted-length n = refl

name-length : (n : List ℕ) (ts : Trees) → get_or (encode (function n ts)) 6 0 ≡ length n
unfolding encode record_of counted
name-length n ts = refl

pub listed : (writing : Writing) (g : Settings) (s : List ℕ) (kind from to : ℕ) (t : Tree) → s ≡ encode t → sound t ≡ true → kind ≡ le16 s 4 → 11 ≤ kind → kind ≤ 12 → to ≡ min (pick (eqb kind 12) 6 (7 + get_or s 6 0)) (length s) → from ≡ min 7 to → Listed writing g s from to t
unfolding sound
listed writing g s kind from to null e f k a b p q = absurd (let w = kind-whole s null e in let v : ⊥ = omega arith in v)
listed writing g s kind from to unbounded e f k a b p q = absurd (let w = kind-whole s unbounded e in let v : ⊥ = omega arith in v)
listed writing g s kind from to (bool y) e f k a b p q = absurd (let w = kind-whole s (bool y) e in let v : ⊥ = omega arith in v)
listed writing g s kind from to (num y x) e f k a b p q = absurd (let w = kind-whole s (num y x) e in let v : ⊥ = omega arith in v)
listed writing g s kind from to (str y x) e f k a b p q = absurd (let w = kind-whole s (str y x) e in let v : ⊥ = omega arith in v)
listed writing g s kind from to (date y r d) e f k a b p q = absurd (let w = kind-whole s (date y r d) e in let v : ⊥ = omega arith in v)
listed writing g s kind from to (timestamp y r d h i x) e f k a b p q = absurd (let w = kind-whole s (timestamp y r d h i x) e in let v : ⊥ = omega arith in v)
listed writing g s kind from to (spatial y x) e f k a b p q = absurd (let w = kind-whole s (spatial y x) e in let v : ⊥ = omega arith in v)
listed writing g s kind from to (id x) e f k a b p q = absurd (let w = kind-whole s (id x) e in let v : ⊥ = omega arith in v)
listed writing g s kind from to (monadic o x) e f k a b p q = absurd (let w = kind-whole s (monadic o x) e in let v : ⊥ = omega arith in v)
listed writing g s kind from to (dyadic o x y) e f k a b p q = absurd (let w = kind-whole s (dyadic o x y) e in let v : ⊥ = omega arith in v)
listed writing g s kind from to (function n ts) e f k a b p q =
    let w : kind ≡ 11 = k ∙ kind-whole s (function n ts) e in
    let l : length s ≡ 6 + length (counted n ++ encodes ts) = ap length e ∙ size_of (function n ts) in
    let m : length (counted n ++ encodes ts) ≡ length (counted n) + length (encodes ts) = length-append (counted n) (encodes ts) in
    let o : length (counted n) ≡ suc (length n) = counted-length n in
    let r : get_or s 6 0 ≡ length n = ap (λ (x : List ℕ). get_or x 6 0) e ∙ name-length n ts in
    let t7 : to ≡ min (7 + get_or s 6 0) (length s) = p ∙ ap (λ (x : Bool). min (pick x 6 (7 + get_or s 6 0)) (length s)) (ne_eqb kind 12 (λ z. let v : ⊥ = omega arith in v)) in
    function_listed writing g s from to n ts e f (omega arith) (omega arith)
listed writing g s kind from to (array ts) e f k a b p q =
    let w : kind ≡ 12 = k ∙ kind-whole s (array ts) e in
    let l : 6 ≤ length s = rw e (long (array ts)) in
    let tt6 : to ≡ min 6 (length s) = p ∙ ap (λ (x : Bool). min (pick x 6 (7 + get_or s 6 0)) (length s)) (eq-eqb kind 12 w) in
    array_listed writing g s from to ts e f (omega arith) (omega arith)
listed writing g s kind from to (interval x y) e f k a b p q = absurd (let w = kind-whole s (interval x y) e in let v : ⊥ = omega arith in v)

-- Steps of the walk.

pub leaf-step : (writing : Writing) (g : Settings) (s : List ℕ) (t : Tree) (k : ℕ) → s ≡ encode t → sound t ≡ true → k ≡ le16 s 4 → k < 9 → leaf_text writing g s ≡ text writing g t
leaf-step writing g s t k e f q h = ap (leaf_text writing g) e ∙ leaf_text_lem writing g t (let w = kind-whole s t e in let v : kind_of t < 9 = omega arith in v) f

-- an end that is a date
pub date-step : (writing : Writing) (g : Settings) (s : List ℕ) (t : Tree) (k : ℕ) → s ≡ encode t → sound t ≡ true → k ≡ le16 s 4 → k ≡ 5 → date_text (le16 s 6) (get_or s 8 0) (get_or s 9 0) ≡ text writing g t
unfolding leaf_text
date-step writing g s t k e f q h = dated (sym q ∙ h) ∙ leaf-step writing g s t k e f q (omega arith)
  where
    dated : le16 s 4 ≡ 5 → date_text (le16 s 6) (get_or s 8 0) (get_or s 9 0) ≡ leaf_text writing g s
    dated d = rw d refl

-- an operator that is neither, and one of the two that is not the first
pub not_either : (a b : Bool) → negated (either a b) ≡ true → (a ≡ false) × (b ≡ false)
not_either false false e = (refl, refl)
not_either false true e = let z : false ≡ true = e in (cc, cc)
not_either true b e = let z : false ≡ true = e in (cc, cc)

pub or_else : (a b : Bool) → negated (either a b) ≡ false → a ≡ false → b ≡ true
or_else true b e h = let z : true ≡ false = h in cc
or_else false true e h = refl
or_else false false e h = let z : true ≡ false = e in cc

pub high_text : (writing : Writing) (g : Settings) (s : List ℕ) (t : Tree) (k : ℕ) → s ≡ encode t → k ≡ le16 s 4 → 12 < k → [] ≡ text writing g t
unfolding text
high_text writing g s null k e q z = absurd (let w = kind-whole s null e in let v : ⊥ = omega arith in v)
high_text writing g s unbounded k e q z = absurd (let w = kind-whole s unbounded e in let v : ⊥ = omega arith in v)
high_text writing g s (bool y) k e q z = absurd (let w = kind-whole s (bool y) e in let v : ⊥ = omega arith in v)
high_text writing g s (num y x) k e q z = absurd (let w = kind-whole s (num y x) e in let v : ⊥ = omega arith in v)
high_text writing g s (str y x) k e q z = absurd (let w = kind-whole s (str y x) e in let v : ⊥ = omega arith in v)
high_text writing g s (date y r d) k e q z = absurd (let w = kind-whole s (date y r d) e in let v : ⊥ = omega arith in v)
high_text writing g s (timestamp y r d h i x) k e q z = absurd (let w = kind-whole s (timestamp y r d h i x) e in let v : ⊥ = omega arith in v)
high_text writing g s (spatial y x) k e q z = absurd (let w = kind-whole s (spatial y x) e in let v : ⊥ = omega arith in v)
high_text writing g s (id x) k e q z = absurd (let w = kind-whole s (id x) e in let v : ⊥ = omega arith in v)
high_text writing g s (monadic o x) k e q z = absurd (let w = kind-whole s (monadic o x) e in let v : ⊥ = omega arith in v)
high_text writing g s (dyadic o x y) k e q z = absurd (let w = kind-whole s (dyadic o x y) e in let v : ⊥ = omega arith in v)
high_text writing g s (function y ts) k e q z = absurd (let w = kind-whole s (function y ts) e in let v : ⊥ = omega arith in v)
high_text writing g s (array ts) k e q z = absurd (let w = kind-whole s (array ts) e in let v : ⊥ = omega arith in v)
high_text writing g s (interval x y) k e q z = refl

pub six : (s : List ℕ) (t : Tree) → s ≡ encode t → 6 ≤ length s
six s t e = rw e (long t)

pub fourteen : (s : List ℕ) (t : Tree) (k : ℕ) → s ≡ encode t → k ≡ le16 s 4 → 9 ≤ k → k < 11 → 14 ≤ length s
fourteen s null k e q a b = absurd (let w = kind-whole s null e in let v : ⊥ = omega arith in v)
fourteen s unbounded k e q a b = absurd (let w = kind-whole s unbounded e in let v : ⊥ = omega arith in v)
fourteen s (bool y) k e q a b = absurd (let w = kind-whole s (bool y) e in let v : ⊥ = omega arith in v)
fourteen s (num y x) k e q a b = absurd (let w = kind-whole s (num y x) e in let v : ⊥ = omega arith in v)
fourteen s (str y x) k e q a b = absurd (let w = kind-whole s (str y x) e in let v : ⊥ = omega arith in v)
fourteen s (date y r d) k e q a b = absurd (let w = kind-whole s (date y r d) e in let v : ⊥ = omega arith in v)
fourteen s (timestamp y r d h i x) k e q a b = absurd (let w = kind-whole s (timestamp y r d h i x) e in let v : ⊥ = omega arith in v)
fourteen s (spatial y x) k e q a b = absurd (let w = kind-whole s (spatial y x) e in let v : ⊥ = omega arith in v)
fourteen s (id x) k e q a b = absurd (let w = kind-whole s (id x) e in let v : ⊥ = omega arith in v)
fourteen s (monadic o x) k e q a b = let l = ap length e in let m = size_of (monadic o x) in let n = long x in omega arith
fourteen s (dyadic o x y) k e q a b = let l = ap length e in let m = size_of (dyadic o x y) in let n = long x in let p = length-append (encode x) (encode y) in omega arith
fourteen s (function y ts) k e q a b = absurd (let w = kind-whole s (function y ts) e in let v : ⊥ = omega arith in v)
fourteen s (array ts) k e q a b = absurd (let w = kind-whole s (array ts) e in let v : ⊥ = omega arith in v)
fourteen s (interval x y) k e q a b = absurd (let w = kind-whole s (interval x y) e in let v : ⊥ = omega arith in v)

next : (f : ℕ → List ℕ) (ps : List Part) (k : ℕ) (d : Part) → k < length ps → (b : List ℕ) → fill f (part_of (get_or ps k d)) ≡ b → fill f (spelt (take k ps)) ++ b ≡ fill f (spelt (take (k + 1) ps))
next f ps k d l b e = sym (fill_next f ps k d l ∙ ap (λ (y : List ℕ). fill f (spelt (take k ps)) ++ y) e)

module _ (writing : Writing) (g : Settings) {s : List ℕ} {es : List end.End} {xs : List Tree} (a : Are s es xs) (ps : List Part) (k : ℕ) (d : Part) (l : k < length ps) {at here r : ℕ} {l₀ out m : List ℕ} (laid : Lays count_limit at (fill (slot writing g xs) (spelt (take k ps))) l₀ out here) where
  pub plain_step : (f : flat.Flat) → piece_of (get_or ps k d) es ≡ pieces.Plain f → Lays count_limit here (flat_text writing f) out m r → Lays count_limit at (fill (slot writing g xs) (spelt (take (k + 1) ps))) l₀ m r
  plain_step f e x = lays_of (next (slot writing g xs) ps k d l (flat_text writing f) (plain_piece writing g a (get_or ps k d) f e)) (lays_then laid x)

  pub node-step : (p z : ℕ) (e : piece_of (get_or ps k d) es ≡ pieces.Node p z) → Lays count_limit here (text writing g (node_piece writing g a (get_or ps k d) p z e).x) out m r → Lays count_limit at (fill (slot writing g xs) (spelt (take (k + 1) ps))) l₀ m r
  node-step p z e x = lays_of (next (slot writing g xs) ps k d l (text writing g (node_piece writing g a (get_or ps k d) p z e).x) (node_piece writing g a (get_or ps k d) p z e).filled) (lays_then laid x)

  pub name-step : (p z : ℕ) (e : piece_of (get_or ps k d) es ≡ pieces.Name p z) → Lays count_limit here (drop 6 (part s p z)) out m r → Lays count_limit at (fill (slot writing g xs) (spelt (take (k + 1) ps))) l₀ m r
  name-step p z e x = lays_of (next (slot writing g xs) ps k d l (drop 6 (part s p z)) (name_piece writing g a (get_or ps k d) p z e).filled) (lays_then laid x)

-- the items are shorter than their node
rest-length : (s : List ℕ) (to : ℕ) → to ≤ length s → length (take (length s - to) (drop to s)) ≡ length s - to
rest-length s to h = ap length (take_all (length s - to) (drop to s) (rw length-drop (omega arith))) ∙ length-drop to s

pub items_fall : (s : List ℕ) (to t : ℕ) → 6 ≤ to → to ≤ length s → 5 * length s + 4 ≡ t → 5 * length (take (length s - to) (drop to s)) + 5 < t
items_fall s to t a b e = let r = rest-length s to b in omega arith

pub items_short : (s : List ℕ) (to : ℕ) → to ≤ length s → length s ≤ 32768 → length (take (length s - to) (drop to s)) ≤ 32768
items_short s to b h = let r = rest-length s to b in omega arith

-- Kinds and operators of a node with operands.

pub two_node : {s : List ℕ} {kind op m : ℕ} {t : Tree} → (kind ≡ 9 → ⊥) → Node s kind op m t → (kind ≡ 10) × Node s 10 op m t
two_node h (one o x k n e f) = absurd (h k)
two_node h (two o x y k n p q) = (k, two o x y refl n p q)

pub temporal_node : {s : List ℕ} {kind op m : ℕ} {t : Tree} → temporal_of kind op ≡ true → Node s kind op m t → Node s 10 op m t × (between 26 op 40 ≡ true)
unfolding temporal_of
temporal_node {s} {kind} {op} {m} {t} e n = go (eqb kind 10) refl e
  where
    go : (b : Bool) → eqb kind 10 ≡ b → pick b (between 26 op 40) false ≡ true → Node s 10 op m t × (between 26 op 40 ≡ true)
    go true q z = (subst (λ (j : ℕ). Node s j op m t) (eqb-true kind 10 q) n, z)
    go false q z = never (cc)

pub node_ends_lem : {s : List ℕ} {op m : ℕ} {t : Tree} → Node s 10 op m t → (es : List end.End) → ((x y : Tree) → Stands s 8 m x → Stands s m (length s) y → Are s es (ends_of x y)) → Are s es (node_ends t)
unfolding node_ends by_operator
node_ends_lem (one o x k n e f) es h = absurd (let v : ⊥ = omega (arith, k) in v)
node_ends_lem (two o x y k n p q) es h = h x y p q

pub not_temporal : (kind op : ℕ) → kind ≡ 10 → temporal_of kind op ≡ false → between 26 op 40 ≡ false
unfolding temporal_of
not_temporal kind op k e = simp (eq-eqb kind 10 k) at e

-- An operator between its sides.

-- the five steps of its text
pub infix_step : {s : List ℕ} {op m : ℕ} {t : Tree} (writing : Writing) (g : Settings) → Node s 10 op m t → between 26 op 40 ≡ false → between 18 op 25 ≡ false → between 47 op 48 ≡ false → {a b : Bool}
    → ((x : Tree) → part s 8 m ≡ encode x → a ≡ left_bare op x) → ((y : Tree) → part s m (length s) ≡ encode y → b ≡ right_bare op y)
    → {at i j k n r : ℕ} {l₀ l₁ l₂ l₃ l₄ l₅ : List ℕ}
    → Lays count_limit at (pick a [] (bytes "(")) l₀ l₁ i
    → ((x : Tree) → part s 8 m ≡ encode x → sound x ≡ true → Lays count_limit i (text writing g x) l₁ l₂ j)
    → ((o : Op) → op ≡ op_number o → Lays count_limit j (infix_text a (word o) b) l₂ l₃ k)
    → ((y : Tree) → part s m (length s) ≡ encode y → sound y ≡ true → Lays count_limit k (text writing g y) l₃ l₄ n)
    → Lays count_limit n (pick b [] (bytes ")")) l₄ l₅ r → Lays count_limit at (text writing g t) l₀ l₅ r
infix_step writing g (one o x k n e f) ht hs hw ha hb l1 l2 l3 l4 l5 = absurd (let v : ⊥ = omega (arith, k) in v)
infix_step {s} {op} {m} writing g (two o x y k n p q) ht hs hw {a} {b} ha hb l1 l2 l3 l4 l5 =
    let ex = (stands_part p).1 in
    let ey = (stands_part q).1 in
    let av : a ≡ left_bare (op_number o) x = ha x ex ∙ ap (λ (j : ℕ). left_bare j x) n in
    let bv : b ≡ right_bare (op_number o) y = hb y ey ∙ ap (λ (j : ℕ). right_bare j y) n in
    let w : text writing g (dyadic o x y) ≡ _ =
    infix_parts writing g o x y
    (is-between o ∙ ap (λ (j : ℕ). between 47 j 48) (sym n) ∙ hw)
    (is_spatial_lem o ∙ ap (λ (j : ℕ). between 18 j 25) (sym n) ∙ hs)
    (is_temporal_lem o ∙ ap (λ (j : ℕ). between 26 j 40) (sym n) ∙ ht) in
    let z : pick a [] (bytes "(") ++ (text writing g x ++ (infix_text a (word o) b ++ (text writing g y ++ pick b [] (bytes ")")))) ≡ text writing g (dyadic o x y) =
    ap (λ (c : Bool). pick c [] (bytes "(") ++ (text writing g x ++ (infix_text c (word o) b ++ (text writing g y ++ pick b [] (bytes ")"))))) av
    ∙ ap (λ (c : Bool). pick (left_bare (op_number o) x) [] (bytes "(") ++ (text writing g x ++ (infix_text (left_bare (op_number o) x) (word o) c ++ (text writing g y ++ pick c [] (bytes ")"))))) bv
    ∙ sym w in
    lays_of z (lays_then l1 (lays_then (l2 x ex p.fit) (lays_then (l3 o n) (lays_then (l4 y ey q.fit) l5))))

-- An operand between two texts.

pub monadic_node : {s : List ℕ} {kind op m : ℕ} {t : Tree} → kind ≡ 9 → Node s kind op m t → Node s 9 op m t
monadic_node {s} {kind} {op} {m} {t} k n = subst (λ (j : ℕ). Node s j op m t) k n

pub from_bounds : (d : Bool) (n from : ℕ) → 14 ≤ n → from ≡ pick d (min 16 n) 8 → (8 ≤ from) × (from ≤ n)
from_bounds true n from h e = (omega arith, omega arith)
from_bounds false n from h e = (omega arith, omega arith)

pub monadic_step : {s : List ℕ} {op m : ℕ} {t : Tree} (writing : Writing) (g : Settings) → Node s 9 op m t → {bare d : Bool} {below inner from : ℕ}
    → ((x : Tree) → part s 8 (length s) ≡ encode x → bare ≡ is_literal_or_id x) → below ≡ le16 s 12 → inner ≡ le16 s 14 → d ≡ twin_of op below inner → from ≡ pick d (min 16 (length s)) 8
    → {at i j r : ℕ} {l₀ l₁ l₂ l₃ : List ℕ}
    → ((o : Op) → op ≡ op_number o → Lays count_limit at (before_text op (word o) bare) l₀ l₁ i)
    → ((x : Tree) → part s from (length s) ≡ encode x → sound x ≡ true → Lays count_limit i (text writing g x) l₁ l₂ j)
    → ((o : Op) → op ≡ op_number o → Lays count_limit j (behind_text g op (word o) bare d) l₂ l₃ r)
    → Lays count_limit at (text writing g t) l₀ l₃ r
monadic_step writing g (two o x y k n p q) hb b i w f l1 l2 l3 = absurd (let v : ⊥ = omega (arith, k) in v)
monadic_step {s} {op} writing g (one o x k n e f) {bare} {d} hb b i w z l1 l2 l3 =
    let st = under_stands s op _ _ d b i w o x e f n _ z in
    let v : bare ≡ is_literal_or_id x = hb x (stands_part (operand_stands s o x e f)).1 in
    let u : twin o x ≡ d = twins s op _ _ d b i w o x e f n in
    let y : before_text op (word o) bare ++ (text writing g (operand_of o x) ++ behind_text g op (word o) bare d) ≡ text writing g (monadic o x) =
    ap (λ (c : Bool). before_text op (word o) c ++ (text writing g (operand_of o x) ++ behind_text g op (word o) c d)) v
    ∙ ap (λ (j : ℕ). before_text j (word o) (is_literal_or_id x) ++ (text writing g (operand_of o x) ++ behind_text g j (word o) (is_literal_or_id x) d)) n
    ∙ ap (λ (c : Bool). before_text (op_number o) (word o) (is_literal_or_id x) ++ (text writing g (operand_of o x) ++ behind_text g (op_number o) (word o) (is_literal_or_id x) c)) (sym u)
    ∙ sym (monadic_parts writing g o x) in
    lays_of y (lays_then (l1 o n) (lays_then (l2 (operand_of o x) (stands_part st).1 st.fit) (l3 o n)))

-- BETWEEN.

pub bounds_range : (b : Bool) (m n p : ℕ) → 8 ≤ m → m ≤ n → p ≡ pick b (min (m + 6) n) n → (8 ≤ p) × (p ≤ n)
bounds_range true m n p g h e = (omega arith, omega arith)
bounds_range false m n p g h e = (omega arith, omega arith)

pub bound_null : {s : List ℕ} {a z : ℕ} (writing : Writing) (g : Settings) {x : Tree} → a ≡ z → Bound s a z x → null_text ≡ text writing g x
unfolding text
bound_null writing g e (gone q) = refl
bound_null {s} {a} {z} writing g e (item x b f) =
    let l : length (part s a z) ≡ length (encode x) = ap length b in
    let m : length (part s a z) ≤ z - a = rw length-take (omega arith) in
    let k = long x in
    absurd (let v : ⊥ = omega arith in v)

pub bound_item : {s : List ℕ} {a z : ℕ} {x : Tree} → (a ≡ z → ⊥) → Bound s a z x → (part s a z ≡ encode x) × (sound x ≡ true)
bound_item h (gone q) = absurd (h q)
bound_item h (item x b f) = (b, f)

pub between_step : {s : List ℕ} {op m : ℕ} {t : Tree} (writing : Writing) (g : Settings) → Node s 10 op m t → between 47 op 48 ≡ true → {p q z : ℕ}
    → p ≡ pick (eqb (le16 s (m + 4)) 12) (min (m + 6) (length s)) (length s) → EndOf s p q → EndOf s q z
    → {at i j k n r : ℕ} {l₀ l₁ l₂ l₃ l₄ l₅ : List ℕ}
    → ((x : Tree) → part s 8 m ≡ encode x → sound x ≡ true → Lays count_limit at (text writing g x) l₀ l₁ i)
    → ((o : Op) → op ≡ op_number o → Lays count_limit i (infix_text true (word o) true) l₁ l₂ j)
    → ((x : Tree) → Bound s p q x → Lays count_limit j (text writing g x) l₂ l₃ k)
    → Lays count_limit k (bytes " AND ") l₃ l₄ n
    → ((x : Tree) → Bound s q z x → Lays count_limit n (text writing g x) l₄ l₅ r)
    → Lays count_limit at (text writing g t) l₀ l₅ r
between_step writing g (one o x k n e f) h ep eq ez l1 l2 l3 l4 l5 = absurd (let v : ⊥ = omega (arith, k) in v)
between_step {s} {op} {m} writing g (two o x y k n p q) h ep eq ez l1 l2 l3 l4 l5 =
    let b = bounds q ep eq ez in
    lays_of (sym (between-parts writing g o x y (is-between o ∙ ap (λ (j : ℕ). between 47 j 48) (sym n) ∙ h)))
    (lays_then (l1 x (stands_part p).1 p.fit) (lays_then (l2 o n) (lays_then (l3 (first (items_of y)) b.0) (lays_then l4 (l5 (second (items_of y)) b.1)))))

-- A call.

pub spatial_step : {s : List ℕ} {op m : ℕ} {t : Tree} (writing : Writing) (g : Settings) → Node s 10 op m t → between 18 op 25 ≡ true → {x y a b : Bool}
    → x ≡ eqb (le16 (part s 8 m) 4) 8 → y ≡ eqb (le16 (part s m (length s)) 4) 8
    → a ≡ both (between 21 op 23) (both x (negated y)) → b ≡ both (between 21 op 23) (both y (negated x))
    → {at i j k n o u v r : ℕ} {l₀ l₁ l₂ l₃ l₄ l₅ l₆ l₇ l₈ : List ℕ}
    → ((c : Op) → op ≡ op_number c → Lays count_limit at (word c) l₀ l₁ i)
    → Lays count_limit i (pick a (bytes "(ST_ReducePrecision(") (bytes "(")) l₁ l₂ j
    → ((w : Tree) → part s 8 m ≡ encode w → sound w ≡ true → Lays count_limit j (text writing g w) l₂ l₃ k)
    → Lays count_limit k (pick a (reduced_text g.precision) []) l₃ l₄ n
    → Lays count_limit n (pick b (bytes ", ST_ReducePrecision(") (bytes ", ")) l₄ l₅ o
    → ((w : Tree) → part s m (length s) ≡ encode w → sound w ≡ true → Lays count_limit o (text writing g w) l₅ l₆ u)
    → Lays count_limit u (pick b (reduced_text g.precision) []) l₆ l₇ v
    → Lays count_limit v (bytes ")") l₇ l₈ r
    → Lays count_limit at (text writing g t) l₀ l₈ r
spatial_step writing g (one c x k n e f) h ex ey ea eb l1 l2 l3 l4 l5 l6 l7 l8 = absurd (let v : ⊥ = omega (arith, k) in v)
spatial_step {s} {op} {m} writing g (two c t u k n p q) h {x} {y} {a} {b} ex ey ea eb l1 l2 l3 l4 l5 l6 l7 l8 =
    let et = (stands_part p).1 in
    let eu = (stands_part q).1 in
    let d : between 18 (op_number c) 25 ≡ true = ap (λ (j : ℕ). between 18 j 25) (sym n) ∙ h in
    let w : is_between c ≡ false = is-between c ∙ apart 18 (op_number c) 25 47 48 d (λ x y. let v : ⊥ = omega arith in v) in
    let xt : x ≡ is_id t = ex ∙ kind_id _ t et in
    let yu : y ≡ is_id u = ey ∙ kind_id _ u eu in
    let av : a ≡ both (between 21 (op_number c) 23) (both (is_id t) (negated (is_id u))) =
    ea ∙ ap (λ (j : ℕ). both (between 21 j 23) (both x (negated y))) n ∙ ap (λ (z : Bool). both (between 21 (op_number c) 23) (both z (negated y))) xt ∙ ap (λ (z : Bool). both (between 21 (op_number c) 23) (both (is_id t) (negated z))) yu in
    let bv : b ≡ both (between 21 (op_number c) 23) (both (is_id u) (negated (is_id t))) =
    eb ∙ ap (λ (j : ℕ). both (between 21 j 23) (both y (negated x))) n ∙ ap (λ (z : Bool). both (between 21 (op_number c) 23) (both z (negated x))) yu ∙ ap (λ (z : Bool). both (between 21 (op_number c) 23) (both (is_id u) (negated z))) xt in
    lays_of (sym (spatial_parts writing g c t u w (is_spatial_lem c ∙ d) a b av bv))
    (lays_then (l1 c n) (lays_then l2 (lays_then (l3 t et p.fit) (lays_then l4 (lays_then l5 (lays_then (l6 u eu q.fit) (lays_then l7 l8)))))))
