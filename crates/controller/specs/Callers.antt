-- Planner and controller on one tree: document 02, slip 7, sentence by sentence, whatever the two buffers. Of any two callers these are laws of
-- crate text, LimitLaws.antt.
use Rattle.std.specs.Prelude.{ℕ, ◌≤◌, ◌≡◌, true, List, length, ltb}
use native.Mathlib.Omega.{arith}
use Rattle.prelude.specs.Choice.{pick}
use Rattle.refusal.specs.declared.Refusal.{Refusal}
use Rattle.refusal.specs.declared.Refusal.TheVariants.{TreeTooLong, TooDeep, TextTooLong, BufferTooShort}
use Rattle.literal.specs.declared.Writing.{Writing}
use Rattle.tree.specs.Limits.{NoGreater, planner}
use Rattle.tree.specs.Tree.{Tree, Settings, Bytes}
use Rattle.tree.specs.Levels.{levels}
use Rattle.tree.specs.Parse.{refused, got}
use Rattle.tree.specs.Accepted.{accepted}
use Rattle.tree.specs.LimitLaws.{is_of}
use Rattle.room.specs.Room.{sized}
use Rattle.text.specs.Lowered.{fitted, lowering_within, lowering}
use Rattle.text.specs.LimitLaws.{by_size, own_answer, both_write, refuses_by_size, more_accepts}
use Rattle.controller.specs.Controller.{controller}

-- the controller's limits are "no greater than the planner's"
pub smaller : NoGreater controller planner
smaller = record { tree = omega arith; depth = omega arith; text = omega arith }

module _ (w : Writing) (settings tree : List ℕ) (theirs ours : ℕ) where
  -- "For the same call, settings and tree both write equal texts where both accept".
  pub equal_texts : (x y : List ℕ) → lowering_within controller w settings tree ours ≡ got x → lowering w settings tree theirs ≡ got y → x ≡ y
  equal_texts = both_write controller planner w settings tree ours theirs

  -- "what the planner accepts the controller refuses by 2, 4, 8 or 9 alone".
  pub controller_refuses : (x : List ℕ) (r : Refusal) → lowering w settings tree theirs ≡ got x → lowering_within controller w settings tree ours ≡ refused r → is_of by_size r ≡ true
  controller_refuses = refuses_by_size controller planner w settings tree ours theirs

  -- Which of them, of a tree t that the planner reads: 2 if its record has more than 2,000 bytes, else 4 if it has more than 8 levels, else 8 if the text
  -- has more than 4,000 bytes, else 9 if it has more than the buffer; else it is written.
  pub controller_answers : (h : Settings) (t : Tree) (x : List ℕ) → Bytes tree → accepted planner settings tree ≡ got (h, t) → lowering w settings tree theirs ≡ got x
      → lowering_within controller w settings tree ours
      ≡ pick (ltb 2000 (length tree)) (refused TreeTooLong)
      (pick (ltb 8 (levels t)) (refused TooDeep)
      (pick (ltb 4000 (length x)) (refused TextTooLong)
      (pick (ltb ours (length x)) (refused BufferTooShort) (got x))))
  unfolding fitted sized
  controller_answers h t x y r e = own_answer controller planner w settings tree ours theirs h t x (record { tree = omega arith; depth = omega arith; text = omega arith }) y r e

  -- What the controller accepts the planner accepts with a buffer as long as the text, or a longer one.
  pub planner_accepts : (x : List ℕ) → lowering_within controller w settings tree ours ≡ got x → length x ≤ theirs → lowering w settings tree theirs ≡ got x
  planner_accepts x e = more_accepts controller planner w settings tree ours theirs x smaller e
