-- Laws of specs/Accepted.antt: what an accepted pair of settings and tree is, taken apart and put together again, and that the settings, too, are
-- written as they were read.
use Rattle.std.specs.Prelude.{◌≡◌, refl, List, [], ◌∷◌, ◌++◌, Bool, true, false, ℕ, ◌+◌, ◌-◌, ◌≤◌, ◌<◌, length, get_or, take, drop, ltb, leb, eqb, Option, None, Some, Ok}
use Rattle.std.proofs.Common.{ap, sym, ◌∙◌, ⊎_elim, append-nil, arith, length-drop, take-append-drop, drop_of_length-le, length-take-le, drop-drop, take_all, ltb-false, le-ltb, eqb-true, leb-true}
use Rattle.prelude.specs.Choice.{pick, both}
use Rattle.refusal.specs.declared.Refusal.TheVariants.{BadSettings, TreeTooLong, BadOperand}
use Rattle.record.specs.declared.Frame.{Frame}
use Rattle.record.specs.Record.{frame, record_of, whole}
use Rattle.charset.specs.Charset.{name}
use Rattle.settings.specs.Settings.{precision_limit, settings_kind, is_frame, ci_at, ai_at, cai_at, settings_body, is_settings}
use Rattle.charset.specs.Named.{name_at, past, named_at}
use Rattle.tree.specs.declared.Limits.{Limits}
use Rattle.tree.specs.Tree.{Tree, Settings, encode, encode_settings, counted, Bytes}
use Rattle.tree.specs.Parse.{Read, refused, got, also, parse}
use Rattle.tree.specs.Placed.{placed}
use Rattle.tree.specs.Accepted.{settings_in, settings, accepted_tree, accepted, verdict, said, heard}
use Rattle.tree.specs.GoodWords.{Good}
use Rattle.tree.specs.ByteLaws.{reads-drop}
use Rattle.tree.specs.ParseLaws.{split, both_true, not_got, also_got, frame_record}
use Rattle.tree.specs.EncodeLaws.{size_limit, encode_parse}

-- an accepted tree passes each refusal
pub tree_is : (l : Limits) (s : List ℕ) (t : Tree) → accepted_tree l s ≡ got t → (length s ≤ l.tree) × (parse l.depth s ≡ got t) × (placed t ≡ true)
unfolding accepted_tree
tree_is l s t h =
    ⊎_elim
    (λ w. not_got TreeTooLong t w.1)
    (λ w. let q = also_got (parse l.depth s) (λ u. pick (placed u) (got u) (refused BadOperand)) t w.1 in
    ⊎_elim
    (λ v. let e : q.0 ≡ t = cc v.1 in (
      ltb-false l.tree (length s) w.0,
      q.1 ∙ ap got e,
      sym (ap placed e) ∙ v.0,
    ))
    (λ v. not_got BadOperand t v.1)
    (split (placed q.0) (got q.0) (refused BadOperand) (got t) q.2))
    (split (ltb l.tree (length s)) (refused TreeTooLong) (also (parse l.depth s) (λ u. pick (placed u) (got u) (refused BadOperand))) (got t) h)

-- and what passes each is an accepted tree
pub tree_of : (l : Limits) (s : List ℕ) (t : Tree) → length s ≤ l.tree → parse l.depth s ≡ got t → placed t ≡ true → accepted_tree l s ≡ got t
unfolding accepted_tree also
tree_of l s t n q r = simp (le-ltb l.tree (length s) n, q, r)

-- a tree behind settings, as `accepted` reads it, and as `accepted_tree` does
abbrev behind : (g : Settings) (b : Bool) (r : Read Tree) → Read (Settings × Tree)
behind g b r = pick b (refused TreeTooLong) (also r (λ t. pick (placed t) (got (g, t)) (refused BadOperand)))

abbrev paired : Settings → Read Tree → Read (Settings × Tree)
paired g r = also r (λ t. got (g, t))

behind_is : (g : Settings) (b : Bool) (r : Read Tree) → behind g b r ≡ paired g (pick b (refused TreeTooLong) (also r (λ t. pick (placed t) (got t) (refused BadOperand))))
unfolding also
behind_is g true r = refl
behind_is g false (refused n) = refl
behind_is g false (got t) = go (placed t)
  where
    go : (b : Bool) → ◌≡◌ {A = Read (Settings × Tree)} (pick b (got (g, t)) (refused BadOperand)) (paired g (pick b (got t) (refused BadOperand)))
    go true = refl
    go false = refl

-- behind right settings the tree decides
pub accepted_parts : (l : Limits) (c s : List ℕ) → accepted l c s ≡ also (settings c) (λ g. paired g (accepted_tree l s))
unfolding accepted accepted_tree also
accepted_parts l c s = go (settings c)
  where
    go : (r : Read Settings) → also r (λ g. behind g (ltb l.tree (length s)) (parse l.depth s)) ≡ also r (λ g. paired g (accepted_tree l s))
    go (refused n) = refl
    go (got g) = behind_is g (ltb l.tree (length s)) (parse l.depth s)

-- what is accepted passes each refusal
pub accepted-is : (l : Limits) (c s : List ℕ) (g : Settings) (t : Tree) → accepted l c s ≡ got (g, t)
    → (settings c ≡ got g) × (length s ≤ l.tree) × (parse l.depth s ≡ got t) × (placed t ≡ true)
accepted-is l c s g t h =
    let p = also_got (settings c) (λ k. paired k (accepted_tree l s)) (g, t) (sym (accepted_parts l c s) ∙ h) in
    let q = also_got {B = Settings × Tree} (accepted_tree l s) (λ u. got (p.0, u)) (g, t) p.2 in
    let e : ◌≡◌ {A = Settings × Tree} (p.0, q.0) (g, t) = cc q.2 in
    let r = tree_is l s t (q.1 ∙ ap (λ (x : Settings × Tree). got x.1) e) in
    (p.1 ∙ ap (λ (x : Settings × Tree). got x.0) e, r.0, r.1, r.2)

-- and what passes each is accepted
pub accepted_of : (l : Limits) (c s : List ℕ) (g : Settings) (t : Tree) → settings c ≡ got g → length s ≤ l.tree → parse l.depth s ≡ got t → placed t ≡ true → accepted l c s ≡ got (g, t)
unfolding also
accepted_of l c s g t p n q r = accepted_parts l c s ∙ simp (p, tree_of l s t n q r)

-- so a good tree that is short enough and has everything in its place is accepted as it is written
pub accepted-written : (l : Limits) (c : List ℕ) (g : Settings) (t : Tree) → l.tree < size_limit → settings c ≡ got g → Good t l.depth → length (encode t) ≤ l.tree → placed t ≡ true
    → accepted l c (encode t) ≡ got (g, t)
accepted-written l c g t m p h n r = accepted_of l c (encode t) g t p n (encode_parse l.depth t h (omega arith)) r

-- `(Ok tt)` is the answer for what is accepted and for nothing else
pub valid-is : (l : Limits) (c s : List ℕ) → verdict (accepted l c s) ≡ (Ok tt) → (x : Settings × Tree) × (accepted l c s ≡ got x)
unfolding verdict
valid-is l c s h = go (accepted l c s) refl h
  where
    go : (r : Read (Settings × Tree)) → accepted l c s ≡ r → verdict r ≡ (Ok tt) → (x : Settings × Tree) × (accepted l c s ≡ got x)
    go (refused n) e v = let z : ◌≡◌ {A = ℕ} 0 1 = cc in absurd (omega arith)
    go (got x) e v = (x, e)

pub is-valid : (l : Limits) (c s : List ℕ) (x : Settings × Tree) → accepted l c s ≡ got x → verdict (accepted l c s) ≡ (Ok tt)
unfolding verdict
is-valid l c s x e = simp e

-- The settings.

pub named-front : (s : List ℕ) (i : ℕ) → named_at s i ≡ true → drop i s ≡ counted (name_at s i) ++ drop (past s i) s
unfolding named_at counted
named-front s i e =
    let p = both_true (leb (past s i) (length s)) (name (name_at s i)) e in
    let l : i + 1 + get_or s i 0 ≤ length s = leb-true (past s i) (length s) p.0 in
    let m : ℕ = get_or s i 0 in
    let b : List ℕ = take m (drop (i + 1) s) in
    let k : length b ≡ m = length-take-le m (drop (i + 1) s) (omega (arith, length-drop (i + 1) s)) in
    let d : drop (i + 1) s ≡ b ++ drop (past s i) s = sym (take-append-drop m (drop (i + 1) s)) ∙ ap (λ (r : List ℕ). b ++ r) (drop-drop m (i + 1) s) in
    reads-drop 1 i s (omega arith) ∙ ap (λ (r : List ℕ). m ∷ r) d ∙ ap (λ (j : ℕ). j ∷ (b ++ drop (past s i) s)) (sym k)

frame_is : (n : ℕ) (f : Option Frame) → is_frame n f ≡ true → f ≡ whole settings_kind n
unfolding is_frame
frame_is n None e = cc
frame_is n (Some f) e =
    let p = both_true (eqb f.kind settings_kind) (eqb f.end n) e in
    let a : f.kind ≡ settings_kind = eqb-true f.kind settings_kind p.0 in
    let b : f.end ≡ n = eqb-true f.end n p.1 in
    ap (λ (k : ℕ). whole k f.end) a ∙ ap (λ (i : ℕ). whole settings_kind i) b

-- what a precision and three names are written as
pub names_bytes : (c : List ℕ) → settings_body c ≡ true
    → drop 6 c ≡ get_or c 6 0 ∷ (counted (name_at c (ci_at c)) ++ (counted (name_at c (ai_at c)) ++ counted (name_at c (cai_at c))))
unfolding settings_body named_at
names_bytes c e =
    let last : Bool = eqb (past c (cai_at c)) (length c) in
    let p = both_true (leb (get_or c 6 0) precision_limit) (both (named_at c (ci_at c)) (both (named_at c (ai_at c)) (both (named_at c (cai_at c)) last))) e in
    let q = both_true (named_at c (ci_at c)) (both (named_at c (ai_at c)) (both (named_at c (cai_at c)) last)) p.1 in
    let r = both_true (named_at c (ai_at c)) (both (named_at c (cai_at c)) last) q.1 in
    let s = both_true (named_at c (cai_at c)) last r.1 in
    let l : past c (ci_at c) ≤ length c = leb-true (past c (ci_at c)) (length c) (both_true (leb (past c (ci_at c)) (length c)) (name (name_at c (ci_at c))) q.0).0 in
    let f : past c (cai_at c) ≡ length c = eqb-true (past c (cai_at c)) (length c) s.1 in
    let m : length c ≤ past c (cai_at c) = omega arith in
    let z : drop (past c (cai_at c)) c ≡ [] = drop_of_length-le c m in
    let x : List ℕ = counted (name_at c (ci_at c)) in
    let y : List ℕ = counted (name_at c (ai_at c)) in
    let w : List ℕ = counted (name_at c (cai_at c)) in
    reads-drop 1 6 c (omega arith)
    ∙ ap (λ (i : List ℕ). get_or c 6 0 ∷ i)
    (named-front c (ci_at c) q.0
    ∙ ap (λ (i : List ℕ). x ++ i) (named-front c (ai_at c) r.0 ∙ ap (λ (i : List ℕ). y ++ i) (named-front c (cai_at c) s.0 ∙ ap (λ (i : List ℕ). w ++ i) z ∙ append-nil w)))

-- the settings that are read are what was written
pub settings_encode : (c : List ℕ) (g : Settings) → Bytes c → settings c ≡ got g → c ≡ encode_settings g
unfolding settings is_settings encode_settings
settings_encode c g h e =
    ⊎_elim
    (λ w. let p = both_true (is_frame (length c) (frame c)) (settings_body c) w.0 in
    let k : Settings = settings_in c in
    let z : k ≡ g = cc w.1 in
    let f : frame c ≡ whole settings_kind (length c) = frame_is (length c) (frame c) p.0 in
    let n : length c ≤ length c = omega arith in
    let d : drop (length c) c ≡ [] = drop_of_length-le c n in
    let b : take (length c - 6) (drop 6 c) ≡ drop 6 c = take_all (length c - 6) (drop 6 c) (omega (arith, length-drop 6 c)) in
    frame_record c settings_kind (length c) h f
    ∙ ap (λ (l : List ℕ). record_of settings_kind (take (length c - 6) (drop 6 c)) ++ l) d
    ∙ append-nil (record_of settings_kind (take (length c - 6) (drop 6 c)))
    ∙ ap (λ (l : List ℕ). record_of settings_kind l) (b ∙ names_bytes c p.1)
    ∙ ap (λ (x : Settings). encode_settings x) z)
    (λ w. not_got BadSettings g w.1)
    (split (is_settings c) (got (settings_in c)) (refused BadSettings) (got g) e)

-- what is heard of the answer is what was decided
pub heard-verdict : {A : Type 0} (x : Read A) → heard (verdict x) ≡ said x
unfolding verdict
heard-verdict (refused n) = refl
heard-verdict (got a) = refl
