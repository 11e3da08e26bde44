-- What the kind of a whole record says of its tree; the template of a temporal node.
use Prim.Native.Nat.{ℕ, zero, suc, ◌-◌}
use borrow.Author.Tests.{le-ltb}
use Rattle.prelude.specs.Choice.{between}
use mathlib.Core.Path.{◌≡◌, refl, ap, sym, ◌∙◌}
use mathlib.Core.List.{List}
use mathlib.Core.Bool.{Bool, true, false}
use native.Mathlib.Omega.{arith}
use lib.ListN.{length}
use lib.Dec.{eqb}
use Rattle.record.specs.Record.{le16}
use Rattle.op.specs.declared.Op.{Op}
use Rattle.std.specs.Prelude.{Option, Some, None}
use Rattle.op.specs.Op.{op_number, op_of, is_spatial}
use Rattle.op.specs.OpLaws.{number_of, of_number}
use Rattle.literal.specs.declared.Writing.{Writing}
use Rattle.tree.specs.Tree.{Tree, Settings, encode, kind_of}
use Rattle.tree.specs.Placed.{is_between}
use Rattle.tree.specs.Tests.{is_interval, is_id, columns_of, ends_of, by_operator}
use Rattle.operand.specs.declared.End as end
use Rattle.operand.specs.Ends.{columns}
use Rattle.sql.specs.Template.{fill, template_of}
use Rattle.sql.specs.Translators.{translate}
use Rattle.text.specs.Text.{text}
use Rattle.text.specs.EndWords.{Are, node_ends, slot}
use Rattle.text.specs.NodeWords.{Node, one, two}
use Rattle.text.specs.RecordWords.{part}
use Rattle.text.proofs.LiteralLaws.{kind-whole}
use Rattle.text.proofs.EndLaws.{stands_part}
use Rattle.text.proofs.NodeLaws.{is-between, is_spatial_lem, is_temporal_lem, apart, temporal_fills}

id_kind : (t : Tree) → eqb (kind_of t) 8 ≡ is_id t
unfolding is_id
id_kind t = refl

interval_kind : (t : Tree) → eqb (kind_of t) 13 ≡ is_interval t
unfolding is_interval
interval_kind t = refl

pub kind_id : (s : List ℕ) (t : Tree) → s ≡ encode t → eqb (le16 s 4) 8 ≡ is_id t
kind_id s t e = ap (λ (k : ℕ). eqb k 8) (kind-whole s t e) ∙ id_kind t

kind_interval : (s : List ℕ) (t : Tree) → s ≡ encode t → eqb (le16 s 4) 13 ≡ is_interval t
kind_interval s t e = ap (λ (k : ℕ). eqb k 13) (kind-whole s t e) ∙ interval_kind t

same-columns : (op : ℕ) (o : Op) (t u : Tree) (a b : Bool) (column : ℕ → Bool) → op ≡ op_number o → a ≡ is_interval t → b ≡ is_interval u
    → ((j : ℕ) → column j ≡ columns_of t u j) → template_of (translate op a b column) ≡ template_of (translate (op_number o) (is_interval t) (is_interval u) (columns_of t u))
same-columns op o t u a b column n x y c =
    ap (λ (k : ℕ). template_of (translate k a b column)) n
    ∙ ap (λ (k : Bool). template_of (translate (op_number o) k b column)) x
    ∙ ap (λ (k : Bool). template_of (translate (op_number o) (is_interval t) k column)) y
    ∙ ap (λ (k : ℕ → Bool). template_of (translate (op_number o) (is_interval t) (is_interval u) k)) (λ i. λ j. c j i)

-- the columns of the code are those of the tree
same_column : {s : List ℕ} {e : List end.End} (t u : Tree) → Are s e (ends_of t u) → (j : ℕ) → columns e j ≡ columns_of t u j
unfolding ends_of is_id
same_column t u a zero = a.is0.column
same_column t u a (suc zero) = a.is1.column
same_column t u a (suc (suc zero)) = a.is2.column
same_column t u a (suc (suc (suc zero))) = a.is3.column
same_column t u a (suc (suc (suc (suc j)))) = simp (le-ltb (suc (suc (suc (suc j)))) 4 (omega arith))

-- the number of a node's operator names one
pub named : {s : List ℕ} {op m : ℕ} {t : Tree} → Node s 10 op m t → op_of op ≡ None → ⊥
named (one o x k n e f) q = let v : ⊥ = omega (arith, k) in v
named (two o x y k n p r) q =
    let z : ◌≡◌ {A = Option Op} None (Some o) = sym q ∙ ap op_of n ∙ number_of o in
    let u : ◌≡◌ {A = ℕ} 0 1 = cc in
    let v : ⊥ = omega arith in
    v

-- a template by the operator that a number names
pub by_op : (op : ℕ) (o : Op) (a b : Bool) (column : ℕ → Bool) {w : List ℕ} → w ≡ template_of (translate (op_number o) a b column) → op_of op ≡ Some o → w ≡ template_of (translate op a b column)
by_op op o a b column e q = e ∙ ap (λ (n : ℕ). template_of (translate n a b column)) (sym (of_number op o q))

-- the template of a temporal node
pub template_fills : {s : List ℕ} {op m : ℕ} (writing : Writing) (g : Settings) {t : Tree} → Node s 10 op m t → between 26 op 40 ≡ true → {e : List end.End} → Are s e (node_ends t) → {a b : Bool} {w : List ℕ}
    → a ≡ eqb (le16 (part s 8 m) 4) 13 → b ≡ eqb (le16 (part s m (length s)) 4) 13 → w ≡ template_of (translate op a b (columns e)) → text writing g t ≡ fill (slot writing g (node_ends t)) w
unfolding node_ends by_operator
template_fills writing g (one o x k n e f) h r ea eb ew = absurd (let v : ⊥ = omega (arith, k) in v)
template_fills {s} {op} writing g (two o x y k n p q) h {e} r ea eb ew =
    let c : between 26 (op_number o) 40 ≡ true = ap (λ (j : ℕ). between 26 j 40) (sym n) ∙ h in
    let b : is_between o ≡ false = is-between o ∙ apart 26 (op_number o) 40 47 48 c (λ x y. let v : ⊥ = omega arith in v) in
    let z : is_spatial o ≡ false = is_spatial_lem o ∙ apart 26 (op_number o) 40 18 25 c (λ x y. let v : ⊥ = omega arith in v) in
    temporal_fills writing g o x y b z (is_temporal_lem o ∙ c)
    ∙ ap (fill (slot writing g (ends_of x y)))
    (sym (ew ∙ same-columns op o x y _ _ (columns e) n (ea ∙ kind_interval _ x (stands_part p).1) (eb ∙ kind_interval _ y (stands_part q).1) (same_column x y r)))
