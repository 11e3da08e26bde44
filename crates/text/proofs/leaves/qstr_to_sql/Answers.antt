-- The text in quotes, with its collation if the flags ask for one.
use mathlib.Core.Path.{◌≡◌, ap, sym, ◌∙◌}
use mathlib.Core.List.{List, [], ◌++◌, append-nil}
use Prim.Native.Nat.{ℕ}
use lib.ListN.{get_or, drop}
use borrow.Author.Tests.{eq-eqb, ne_eqb}
use Rattle.string.specs.Quote.{doubled}
use Rattle.literal.specs.Literal.{quoted, collate}
use Rattle.emit.specs.EmitLaws.{lays, lays_of, lays_then}
use Rattle.text.specs.LeafWords.{collation}
use Rattle.tree.specs.Accepted.{settings_in}
use Rattle.text.proofs.leaves.qstr_to_sql.Goals as goal

pub returns-then-flags-eq-PLAIN : goal.returns-then-flags-eq-PLAIN
returns-then-flags-eq-PLAIN c = let i = c.args in let z : collation (settings_in i.set.now) (get_or i.s.now 6 0) ≡ [] = simp (eq-eqb (get_or i.s.now 6 0) 0 (sym c.byte_at-flags.ensures.0 ∙ c.if-flags-eq-PLAIN.true)) in lays_of (ap (λ (x : List ℕ). quoted (doubled x)) c.rest.ensures ∙ sym (append-nil (quoted (doubled (drop 7 i.s.now)))) ∙ ap (λ (l : List ℕ). quoted (doubled (drop 7 i.s.now)) ++ l) (sym z)) (lays c.put_str-end.ensures)

pub returns : goal.returns
returns c = let i = c.args in let q : get_or i.s.now 6 0 ≡ c.byte_at-flags.result = sym c.byte_at-flags.ensures.0 in let z : collation (settings_in i.set.now) (get_or i.s.now 6 0) ≡ collate c.name_of.result.now = ap (collation (settings_in i.set.now)) q ∙ simp (ne_eqb _ _ c.if-flags-eq-PLAIN.false) (ap collate (sym c.name_of.ensures)) in lays_then (lays_of (ap (λ (x : List ℕ). quoted (doubled x)) c.rest.ensures) (lays c.put_str-end.ensures)) (lays_of (sym z) (lays c.put_collate.ensures))
