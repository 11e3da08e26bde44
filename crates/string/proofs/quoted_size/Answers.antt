-- `string::quoted_size` meets its contract: a text that the first simple bytes do not decide is told by the rest.
use mathlib.Core.Path.{refl, sym, ◌∙◌}
use native.Mathlib.Omega.{arith}
use borrow.Author.Tests.{eqb-false}
use Rattle.string.proofs.SequenceLaws.{end-quoted, closed_quoted}
use Rattle.string.proofs.quoted_size.Goals as goal

pub returns-then-i-s : goal.returns-then-i-s
returns-then-i-s c = sym (end-quoted c.past_simple-i.ensures refl (omega arith))

pub returns-then-not-is_doubled : goal.returns-then-not-is_doubled
returns-then-not-is_doubled c = sym (closed_quoted c.past_simple-i.ensures refl (omega arith) c.if-s-i-eq39.true (eqb-false _ _ (sym c.is_doubled.ensures ∙ c.if-not-is_doubled.true)))
