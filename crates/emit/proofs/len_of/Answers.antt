-- A sum that stops at the largest number is the least of the sum and that number.
use Rattle.std.proofs.Common.{◌≡◌, ◌+◌, ◌≤◌, min, ℕ, List, [], ◌∷◌, length, length-append, fold, flat_map, Bor, arith, rules, ap, ◌∙◌, zero-add}
use Rattle.emit.proofs.len_of.Goals as goal

abbrev add : ℕ → Bor (List ℕ) → ℕ
add n t = min (n + length t.now) 0xffff_ffff_ffff_ffff

sum : (n : ℕ) (ts : List (Bor (List ℕ))) → n ≤ 0xffff_ffff_ffff_ffff → fold add n ts ≡ min (n + length (flat_map (λ t. t.now) ts)) 0xffff_ffff_ffff_ffff
sum n [] h = omega arith
sum n (t ∷ ts) h =
    let a = length-append t.now (flat_map (λ (x : Bor (List ℕ)). x.now) ts) in
    sum (add n t) ts (omega arith) ∙ omega (arith, a)

pub returns : goal.returns
returns c = let e : c.fold.result ≡ fold add 0 c.args.texts.now = search rules in e ∙ sum 0 c.args.texts.now (omega arith) ∙ ap (λ (k : ℕ). min k 0xffff_ffff_ffff_ffff) (zero-add (length (flat_map (λ (t : Bor (List ℕ)). t.now) c.args.texts.now)))
