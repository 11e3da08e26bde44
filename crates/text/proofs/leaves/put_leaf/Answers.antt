-- Each kind lays its own text.
use mathlib.Core.Path.{◌≡◌, ap, sym, ◌∙◌}
use Prim.Native.Nat.{ℕ}
use lib.ListN.{get_or, drop}
use lib.Dec.{eqb}
use mir.Syntax.{w64}
use mir.Val.{to_z, of_z}
use mir.Facts.{to_z-of_z}
use borrow.Author.Tests.{ne_eqb}
use Rattle.record.specs.Record.{le16, le32}
use Rattle.tree.specs.Parse.{mantissa}
use Rattle.literal.specs.Literal.{bool_text, num_text, spatial_text}
use Rattle.emit.specs.EmitLaws.{lays, lays_of}
use Rattle.text.specs.LeafWords.{leaf_text}
use Rattle.tree.specs.Accepted.{settings_in}
use Rattle.text.proofs.LeafLaws.{str_collated}
use Rattle.text.proofs.leaves.put_leaf.Goals as goal

pub returns-in-0 : goal.returns-in-0
unfolding leaf_text
returns-in-0 c = rw (sym c.word_at.ensures.0 ∙ c.in-0.is) (lays c.put.ensures)

pub returns-in-1 : goal.returns-in-1
unfolding leaf_text
returns-in-1 c = rw (sym c.word_at.ensures.0 ∙ c.in-1.is) (lays c.put_unbounded.ensures)

pub returns-in-2 : goal.returns-in-2
unfolding leaf_text
returns-in-2 c = rw (sym c.word_at.ensures.0 ∙ c.in-2.is) (lays_of (ap (λ (x : ℕ). bool_text (eqb x 1)) c.byte_at.ensures.0) (lays c.put_bool.ensures))

pub returns-in-3 : goal.returns-in-3
unfolding leaf_text
returns-in-3 c = let s = c.args.s.now in let m = c.signed_at.result in let q : to_z w64 (of_z w64 m) ≡ mantissa s 6 = to_z-of_z {w = w64} {z = m} (record { sfits = c.signed_at.type_inv }) ∙ c.signed_at.ensures in let e : num_text (to_z w64 (of_z w64 m)) c.byte_at-in-3.result ≡ num_text (mantissa s 6) (get_or s 14 0) = cc in rw (sym c.word_at.ensures.0 ∙ c.in-3.is) (lays_of e (lays c.put_num.ensures))

pub returns-in-4 : goal.returns-in-4
unfolding leaf_text
returns-in-4 c = let i = c.args in rw (sym c.word_at.ensures.0 ∙ c.in-4.is) (lays_of (str_collated (settings_in i.style.set.now) (get_or i.s.now 6 0) (drop 7 i.s.now)) c.qstr_to_sql.ensures)

pub returns-in-5 : goal.returns-in-5
unfolding leaf_text
returns-in-5 c = rw (sym c.word_at.ensures.0 ∙ c.in-5.is) c.put_date.ensures

pub returns-in-6 : goal.returns-in-6
unfolding leaf_text
returns-in-6 c = rw (sym c.word_at.ensures.0 ∙ c.in-6.is) c.put_timestamp.ensures

pub returns-in-7 : goal.returns-in-7
unfolding leaf_text
returns-in-7 c = let s = c.args.s.now in let e : spatial_text c.dword_at.result c.rest.result.now ≡ spatial_text (le32 s 6) (drop 10 s) = cc in rw (sym c.word_at.ensures.0 ∙ c.in-7.is) (lays_of e (lays c.put_spatial.ensures))

pub returns-in_default : goal.returns-in_default
unfolding leaf_text
returns-in_default c = let s = c.args.s.now in let e = c.word_at.ensures.0 in let r = c.in_default.in_default-own.rest in simp (ne_eqb (le16 s 4) 0 (λ z. r.0.0.0.0.0.0.0.1 (e ∙ z)), ne_eqb (le16 s 4) 1 (λ z. r.0.0.0.0.0.0.1 (e ∙ z)), ne_eqb (le16 s 4) 2 (λ z. r.0.0.0.0.0.1 (e ∙ z)), ne_eqb (le16 s 4) 3 (λ z. r.0.0.0.0.1 (e ∙ z)), ne_eqb (le16 s 4) 4 (λ z. r.0.0.0.1 (e ∙ z)), ne_eqb (le16 s 4) 5 (λ z. r.0.0.1 (e ∙ z)), ne_eqb (le16 s 4) 6 (λ z. r.0.1 (e ∙ z)), ne_eqb (le16 s 4) 7 (λ z. r.1 (e ∙ z))) (lays_of c.rest-in_default.ensures (lays c.put-in_default.ensures))
