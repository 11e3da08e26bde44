-- `reduce::chains::text_below` meets its contract, one record at a time; the measure is the length of the record.
use native.Mathlib.Omega.{arith}
use mathlib.Core.Path.{◌≡◌, refl, sym, ap, ◌∙◌}
use lib.ListN.{length, drop, length-take, length-drop}
use Rattle.reduce.proofs.ChainLaws.{below_text, below_other, below_case, below_accent, below_none, below_length, below_recorded}
use Prim.Native.Nat.{ℕ, ◌-◌}
use Rattle.reduce.specs.declared.Chain.TheVariants.{Text}
use Rattle.reduce.proofs.chains.+text_below.Goals as goal

pub returns-then-kind-eq-STR : goal.returns-then-kind-eq-STR
returns-then-kind-eq-STR t c = λ u e. ap (λ (f : ℕ). Text (length c.args.s.now) f) c.byte_at-flags.ensures.0 ∙ below_text c.args.s.now _ u e c.word_at-kind.ensures.0 c.if-kind-eq-STR.true

pub returns-then-kind-ne-MONADIC : goal.returns-then-kind-ne-MONADIC
returns-then-kind-ne-MONADIC t c = λ u e. below_other c.args.s.now _ u e c.word_at-kind.ensures.0 c.if-kind-eq-STR.false c.if-kind-ne-MONADIC.true

pub slice_bounds-text_below-count : goal.slice_bounds-text_below-count
slice_bounds-text_below-count t c = let h = below_length c.args.s.now c.requires (sym c.word_at-kind.ensures.0 ∙ c.if-kind-ne-MONADIC.false) in omega arith

pub slice_bounds-text_below-start : goal.slice_bounds-text_below-start
slice_bounds-text_below-start t c = let h = below_length c.args.s.now c.requires (sym c.word_at-kind.ensures.0 ∙ c.if-kind-ne-MONADIC.false) in omega arith

pub text_below-requires : goal.text_below-requires
text_below-requires t c = (let h = below_length c.args.s.now c.requires (sym c.word_at-kind.ensures.0 ∙ c.if-kind-ne-MONADIC.false) in let m = c.decreases in omega (arith, length-take (length c.args.s.now - 8) (drop 8 c.args.s.now), length-drop 8 c.args.s.now), below_recorded c.args.s.now c.requires (sym c.word_at-kind.ensures.0 ∙ c.if-kind-ne-MONADIC.false))

pub returns-in-16 : goal.returns-in-16
returns-in-16 t c = λ u e. c.joined.ensures.case refl ∙ below_case c.args.s.now _ _ u e c.word_at-kind.ensures.0 c.if-kind-ne-MONADIC.false c.word_at-op.ensures.0 _ c.in-16.is c.text_below.ensures

pub slice_bounds-text_below-count-in-17 : goal.slice_bounds-text_below-count-in-17
slice_bounds-text_below-count-in-17 t c = let h = below_length c.args.s.now c.requires (sym c.word_at-kind.ensures.0 ∙ c.if-kind-ne-MONADIC.false) in omega arith

pub slice_bounds-text_below-start-in-17 : goal.slice_bounds-text_below-start-in-17
slice_bounds-text_below-start-in-17 t c = let h = below_length c.args.s.now c.requires (sym c.word_at-kind.ensures.0 ∙ c.if-kind-ne-MONADIC.false) in omega arith

pub text_below-requires-in-17 : goal.text_below-requires-in-17
text_below-requires-in-17 t c = (let h = below_length c.args.s.now c.requires (sym c.word_at-kind.ensures.0 ∙ c.if-kind-ne-MONADIC.false) in let m = c.decreases in omega (arith, length-take (length c.args.s.now - 8) (drop 8 c.args.s.now), length-drop 8 c.args.s.now), below_recorded c.args.s.now c.requires (sym c.word_at-kind.ensures.0 ∙ c.if-kind-ne-MONADIC.false))

pub returns-in-17 : goal.returns-in-17
returns-in-17 t c = λ u e. c.joined-in-17.ensures.accent refl ∙ below_accent c.args.s.now _ _ u e c.word_at-kind.ensures.0 c.if-kind-ne-MONADIC.false c.word_at-op.ensures.0 _ c.in-17.is c.text_below-in-17.ensures

pub returns-in_default : goal.returns-in_default
returns-in_default t c = λ u e. below_none c.args.s.now _ _ u e c.word_at-kind.ensures.0 c.if-kind-ne-MONADIC.false c.word_at-op.ensures.0 (let a : c.word_at-op.result ≡ 16 → ⊥ = omega arith in a) (let b : c.word_at-op.result ≡ 17 → ⊥ = omega arith in b)
