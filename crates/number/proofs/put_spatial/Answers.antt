-- The texts that are put one after the other are the geometry: the digits fill the front of the array.
use Rattle.std.proofs.Common.{◌≡◌, ◌≤◌, ℕ, List, ◌++◌, length, take, drop, replicate, length-take-le, take_at, append_assoc, ap, sym, ◌∙◌}
use Rattle.prelude.specs.Bytes.{bytes}
use Rattle.literal.specs.Literal.{low, quoted, decimal, spatial_text}
use Rattle.literal.specs.LiteralLaws.{decimal-low}
use Rattle.emit.specs.EmitLaws.{puts_of}
use Rattle.number.proofs.put_spatial.Goals as goal

filled : (zeros part : List ℕ) (n k : ℕ) → k ≤ length zeros → k ≡ length (decimal n) → part ≡ low (length (take k zeros)) n → part ≡ decimal n
filled zeros part n k h e f = f ∙ ap (λ (w : ℕ). low w n) (length-take-le k zeros h ∙ e) ∙ sym (decimal-low n)

pub returns : goal.returns
unfolding spatial_text quoted
returns c =
    let i = c.args in
    let w = i.w.now in
    let n = c.decimal_len-k in
    let k = n.result in
    let zeros : List ℕ = replicate 20 0 in
    let part = c.fill_low.new.part in
    let d : part ≡ decimal i.srid = filled zeros part i.srid k n.ensures.1 n.ensures.0 c.fill_low.ensures.text in
    let t : take k (part ++ drop k zeros) ≡ decimal i.srid = take_at part (drop k zeros) k (ap length d ∙ sym n.ensures.0) ∙ d in
    puts_of
    (ap (λ (x : List ℕ). bytes "ST_GeomFromText('" ++ (w ++ (bytes "', " ++ (x ++ bytes ")")))) t
    ∙ ap (λ (x : List ℕ). bytes "ST_GeomFromText('" ++ x) (sym (append_assoc w (bytes "'") (bytes ", " ++ (decimal i.srid ++ bytes ")")))))
    c.put_all.ensures
