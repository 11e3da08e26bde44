-- Each branch is one write of the definition's three texts.
use Prim.Native.Nat.{ℕ}
use mathlib.Core.Path.{◌≡◌, ap}
use mathlib.Core.List.{List, ◌++◌}
use mathlib.Core.Bool.{Bool, true, false}
use Rattle.prelude.specs.Choice.{pick}
use Rattle.prelude.specs.Bytes.{bytes}
use Rattle.emit.specs.Emit.{count_limit, Puts}
use Rattle.emit.specs.EmitLaws.{lays, lays_of}
use Rattle.emit.specs.LaysWords.{Lays}
use Rattle.text.specs.FormWords.{infix_text}
use Rattle.text.proofs.forms.put_infix.Goals as goal

between-sides : {entry exit u w : List ℕ} {at r : ℕ} (a b : Bool) → u ≡ w
    → Puts count_limit at (pick a (bytes " ") (bytes ") ") ++ (u ++ pick b (bytes " ") (bytes " ("))) entry exit r
    → Lays count_limit at (infix_text a w b) entry exit r
unfolding infix_text
between-sides a b e p = lays_of (ap (λ (x : List ℕ). pick a (bytes " ") (bytes ") ") ++ (x ++ pick b (bytes " ") (bytes " ("))) e) (lays p)

pub returns-then-b : goal.returns-then-b
returns-then-b c = λ o e. rw (c.if-a.true, c.if-b.true) (between-sides true true (c.word_of-word.ensures o e) c.put_all.ensures)

pub returns-then-a : goal.returns-then-a
returns-then-a c = λ o e. rw (c.if-a.true, c.if-b.false) (between-sides true false (c.word_of-word.ensures o e) c.put_all-then-a.ensures)

pub returns-then-b-2 : goal.returns-then-b-2
returns-then-b-2 c = λ o e. rw (c.if-a.false, c.if-b-2.true) (between-sides false true (c.word_of-word.ensures o e) c.put_all-then-b-2.ensures)

pub returns : goal.returns
returns c = λ o e. rw (c.if-a.false, c.if-b-2.false) (between-sides false false (c.word_of-word.ensures o e) c.put_all-2.ensures)
