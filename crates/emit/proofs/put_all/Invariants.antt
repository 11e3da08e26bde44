-- What is written so far is the texts before this one.
use Rattle.std.proofs.Common.{◌≡◌, ◌+◌, length, take, flat_map}
use Rattle.std.proofs.lemmas.List.Edits.{sets}
use Rattle.emit.proofs.put_all.Given as goal

abbrev pub invariant-loop-text : goal.invariant-loop-text
invariant-loop-text l =
    let t = flat_map (λ t. t.now) (take l.text-index l.texts) in
    (l.here ≡ l.at + length t) × (l.out ≡ sets l.initial.out l.at t)
