-- `string::past_sequences` meets its contract: the loop keeps that the string is read up to i; each `return` is a law of where it stops.
use Prim.Native.Nat.{◌+◌}
use mathlib.Core.Path.{◌≡◌, sym, ◌∙◌}
use mathlib.Core.Bool.{true}
use native.Mathlib.Omega.{arith}
use lib.Dec.{eqb}
use lib.ListN.{get_or}
use borrow.Author.Tests.{eqb-true, eqb-false}
use Rattle.prelude.specs.Bytes.{apostrophe}
use Rattle.string.specs.QuoteLaws.{mark_inside}
use Rattle.string.proofs.SequenceLaws.{reaches_then, simple_passes, marks_quoted, other_bytes, pair_passes, bad_told, closed_told, end-told, valid-told}
use Rattle.string.proofs.past_sequences.Goals as goal

pub loop-i-init : goal.loop-i-init
loop-i-init c = c.requires

pub loop-i-preserved-then-is_simple : goal.loop-i-preserved-then-is_simple
loop-i-preserved-then-is_simple c = let p = simple_passes _ _ c.loop-i-test.true _ (sym c.is_simple.ensures ∙ c.if-is_simple.true) in reaches_then c.loop-i.invariant p.0 p.1

pub is_doubled-requires : goal.is_doubled-requires
is_doubled-requires c = c.loop-i-test.true

pub returns-then-not-is_doubled : goal.returns-then-not-is_doubled
returns-then-not-is_doubled c = closed_told c.loop-i.invariant (marks_quoted _ _ (sym c.is_simple.ensures ∙ c.if-is_simple.false) c.if-b-eq39.true) c.loop-i-test.true c.if-b-eq39.true (eqb-false _ _ (sym c.is_doubled.ensures ∙ c.if-not-is_doubled.true))

pub overflow_add-i-then-b-eq39 : goal.overflow_add-i-then-b-eq39
overflow_add-i-then-b-eq39 c = let e : eqb (get_or c.args.s.now (c.loop-i.i + 1) 0) apostrophe ≡ true = sym c.is_doubled.ensures ∙ c.if-not-is_doubled.false in let p = mark_inside c.args.s.now (c.loop-i.i + 1) e in omega (arith, p)

pub loop-i-smaller-then-b-eq39 : goal.loop-i-smaller-then-b-eq39
loop-i-smaller-then-b-eq39 c = let e : eqb (get_or c.args.s.now (c.loop-i.i + 1) 0) apostrophe ≡ true = sym c.is_doubled.ensures ∙ c.if-not-is_doubled.false in let p = mark_inside c.args.s.now (c.loop-i.i + 1) e in omega (arith, p)

pub loop-i-preserved-then-b-eq39 : goal.loop-i-preserved-then-b-eq39
loop-i-preserved-then-b-eq39 c = let e : eqb (get_or c.args.s.now (c.loop-i.i + 1) 0) apostrophe ≡ true = sym c.is_doubled.ensures ∙ c.if-not-is_doubled.false in let p = mark_inside c.args.s.now (c.loop-i.i + 1) e in let q = pair_passes c.args.s.now c.loop-i.i p c.if-b-eq39.true (eqb-true _ _ e) in reaches_then c.loop-i.invariant q.0 (λ z. q.1)

pub sequence_at-requires : goal.sequence_at-requires
sequence_at-requires c = (c.loop-i-test.true, other_bytes _ c.args.quoted (sym c.is_simple.ensures ∙ c.if-is_simple.false) c.if-b-eq39.false)

pub returns-in_default : goal.returns-in_default
returns-in_default c = bad_told c.loop-i.invariant c.in_default.ensures c.loop-i-test.true (other_bytes _ c.args.quoted (sym c.is_simple.ensures ∙ c.if-is_simple.false) c.if-b-eq39.false)

pub overflow_add-i-in-Some : goal.overflow_add-i-in-Some
overflow_add-i-in-Some c = omega (arith, c.in-Some.ensures.1.inside)

pub loop-i-smaller : goal.loop-i-smaller
loop-i-smaller c = omega (arith, c.in-Some.ensures.0, c.in-Some.ensures.1.inside)

pub loop-i-preserved : goal.loop-i-preserved
loop-i-preserved c = reaches_then c.loop-i.invariant c.in-Some.ensures.1 (λ q. c.in-Some.ensures.2)

pub returns-then-quoted : goal.returns-then-quoted
returns-then-quoted c = end-told c.loop-i.invariant c.if-quoted.true c.loop-i-test.false

pub returns-else-quoted : goal.returns-else-quoted
returns-else-quoted c = valid-told c.loop-i.invariant c.if-quoted.false c.loop-i-test.false
