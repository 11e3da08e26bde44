-- Parts that are read one after another into their places.
use Rattle.std.proofs.Common.{ℕ, ◌<◌, ◌+◌, List, length, slice_index_or, slice_set, sym, subst, inl, inr, arith}
use Rattle.std.proofs.lemmas.Bool.{cases_eq}
use Rattle.std.proofs.lemmas.List.{get_or-set_other}
use Rattle.std.proofs.lemmas.Grind.{get_or-set_at}
use Rattle.input.specs.Part.{IsRead}
use Rattle.input.specs.declared.Part.{Part}

-- one more, behind those that were read before it
pub one_more : (ps : List Part) (i : ℕ) (p : Part) → i < length ps → ((k : ℕ) (d : Part) → k < i → IsRead (slice_index_or ps k d)) → IsRead p → (k : ℕ) (d : Part) → k < i + 1 → IsRead (slice_index_or (slice_set ps i p) k d)
one_more ps i p b before now k d h =
    elim (cases_eq i k) [
      | inl e ↦ subst IsRead (sym (get_or-set_at ps i k p d (sym e) b)) now
      | inr n ↦ subst IsRead (sym (get_or-set_other ps i k p d (λ e. n (sym e)))) (before k d (omega (arith, n)))
    ]
