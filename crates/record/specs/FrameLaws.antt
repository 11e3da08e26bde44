-- Laws of a record's frame: where there is one, its tests have passed, so it lies within the bytes.
use Rattle.std.specs.Prelude.{ℕ, ◌+◌, ◌-◌, ◌≤◌, ◌≡◌, refl, List, Bool, true, false, Option, None, Some, length, ltb}
use Rattle.std.proofs.Common.{ap, sym, arith, ltb-false}
use Rattle.prelude.specs.Choice.{pick}
use Rattle.record.specs.declared.Frame.{Frame}
use Rattle.record.specs.Record.{le16, le32, frame, whole}

-- two frames that are one
module _ {k e j n : ℕ} (h : whole k e ≡ whole j n) where
  abbrev frame_or : Option Frame → Frame
  frame_or None = record { kind = k; end = e }
  frame_or (Some f) = f

  pub whole-kind : k ≡ j
  whole-kind = ap (λ (f : Option Frame). (frame_or f).kind) h

  pub whole-end : e ≡ n
  whole-end = ap (λ (f : Option Frame). (frame_or f).end) h

pub frame-whole : (s : List ℕ) (k e : ℕ) → frame s ≡ whole k e → (6 ≤ length s) × (2 ≤ le32 s 0) × (le32 s 0 ≤ length s - 4) × (k ≡ le16 s 4) × (e ≡ le32 s 0 + 4)
unfolding frame
frame-whole s k e = go (ltb (length s) 6) refl (ltb (le32 s 0) 2) refl (ltb (length s - 4) (le32 s 0)) refl
  where
    go : (a : Bool) → ltb (length s) 6 ≡ a → (b : Bool) → ltb (le32 s 0) 2 ≡ b → (d : Bool) → ltb (length s - 4) (le32 s 0) ≡ d → pick a None (pick b None (pick d None (whole (le16 s 4) (le32 s 0 + 4)))) ≡ whole k e → (6 ≤ length s) × (2 ≤ le32 s 0) × (le32 s 0 ≤ length s - 4) × (k ≡ le16 s 4) × (e ≡ le32 s 0 + 4)
    go true p b q d r h = let z : ◌≡◌ {A = ℕ} 0 1 = cc in absurd (omega arith)
    go false p true q d r h = let z : ◌≡◌ {A = ℕ} 0 1 = cc in absurd (omega arith)
    go false p false q true r h = let z : ◌≡◌ {A = ℕ} 0 1 = cc in absurd (omega arith)
    go false p false q false r h = (ltb-false (length s) 6 p, ltb-false (le32 s 0) 2 q, ltb-false (length s - 4) (le32 s 0) r, sym (whole-kind h), sym (whole-end h))

pub frame-within : (s : List ℕ) (k e : ℕ) → frame s ≡ whole k e → (6 ≤ e) × (e ≤ length s)
frame-within s k e h = let w = frame-whole s k e h in (omega arith, omega arith)
