-- Laws of the test of room that a writer of several parts makes once: what it counts where the whole lacks room, and what room for the whole is to a part.
use Rattle.std.specs.Prelude.{ℕ, ◌+◌, ◌<◌, ◌≤◌, min, ◌≡◌, List, Bool, true, false, length}
use Rattle.std.proofs.Common.{arith, sym, ◌∙◌, ltb-true}
use Rattle.emit.specs.Emit.{count_limit, ended, lacks, Puts}
use Rattle.emit.specs.EmitLaws as emit
use Rattle.emit.specs.EmitLaws.{Room, placed_over, puts_over}

module _ (out : List ℕ) (at : ℕ) (t : List ℕ) {w : ℕ} {b : Bool} (e : w ≡ length t) (f : b ≡ lacks count_limit (length out) at w) where
  -- nothing is changed, and the end is counted
  pub no_room : {r : ℕ} → b ≡ true → r ≡ ended count_limit at w → Puts count_limit at t out out r
  no_room g h = puts_over count_limit at w t out e f g h

  pub room : b ≡ false → Room count_limit (length out) at (length t)
  room g = let h = emit.room count_limit (length out) at w f g in record { inside = omega arith; counted = omega arith }

-- the same where the length is added up only as far as a number goes, which is past the cap
module _ (out : List ℕ) (at : ℕ) (t : List ℕ) {w : ℕ} {b : Bool} (e : w ≡ min (length t) 0xffff_ffff_ffff_ffff) (f : b ≡ lacks count_limit (length out) at w) where
  pub no_room_far : {r : ℕ} → b ≡ true → r ≡ ended count_limit at w → Puts count_limit at t out out r
  no_room_far g h =
      let l : min (length out) count_limit < at + w = ltb-true (min (length out) count_limit) (at + w) (sym f ∙ g) in
      record { laid = sym (placed_over count_limit out at t (omega arith)); end = omega arith }

  pub room_far : b ≡ false → Room count_limit (length out) at (length t)
  room_far g = let h = emit.room count_limit (length out) at w f g in record { inside = omega arith; counted = omega arith }

-- room for all is room for a front
pub front : {cap len at n : ℕ} (m : ℕ) → Room cap len at n → m ≤ n → Room cap len at m
front m g h = record { inside = omega arith; counted = omega arith }
