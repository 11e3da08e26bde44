-- Laws of specs/Case.antt: bytes with their letters as capitals.
use Rattle.std.specs.Prelude.{ℕ, ◌≡◌, List, length, get_or}
use Rattle.std.proofs.lemmas.List.{length-map}
use Rattle.std.proofs.Math.ListN.{get_or-map}
use Rattle.word.specs.Case.{upper, uppers}

pub upper_at : (a : List ℕ) (i : ℕ) → get_or (uppers a) i 0 ≡ upper (get_or a i 0)
unfolding upper
upper_at a i = get_or-map upper a i 0

pub upper-length : (a : List ℕ) → length (uppers a) ≡ length a
upper-length a = length-map a upper
