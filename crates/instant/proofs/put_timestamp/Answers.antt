-- The five texts that are put one after the other, by their other names, are the timestamp in quotes.
use Rattle.std.proofs.Common.{◌≡◌, List, ℕ, [], ◌++◌, append_assoc, append-nil, ap, sym, ◌∙◌}
use Rattle.prelude.specs.Bytes.{bytes}
use Rattle.emit.specs.EmitLaws.{puts_of}
use Rattle.literal.specs.Literal.{quoted, date, clock, after_seconds, timestamp}
use Rattle.instant.proofs.put_timestamp.Goals as goal

regroup : (day time close more a b : List ℕ) → day ≡ a → time ≡ b → close ≡ more ++ bytes "'"
    → bytes "'" ++ (day ++ (bytes "T" ++ (time ++ (close ++ [])))) ≡ quoted (a ++ (bytes "T" ++ (b ++ more)))
unfolding quoted
regroup day time close more a b e f g =
    ap (λ (x : List ℕ). bytes "'" ++ (day ++ (bytes "T" ++ (time ++ x)))) (append-nil close ∙ g)
    ∙ ap (λ (x : List ℕ). bytes "'" ++ (x ++ (bytes "T" ++ (time ++ (more ++ bytes "'"))))) e
    ∙ ap (λ (x : List ℕ). bytes "'" ++ (a ++ (bytes "T" ++ (x ++ (more ++ bytes "'"))))) f
    ∙ ap (λ (x : List ℕ). bytes "'" ++ (a ++ (bytes "T" ++ x))) (sym (append_assoc b more (bytes "'")))
    ∙ ap (λ (x : List ℕ). bytes "'" ++ x) (sym (append_assoc a (bytes "T" ++ (b ++ more)) (bytes "'")))

pub returns : goal.returns
unfolding timestamp
returns c =
    let d = c.args.date in
    let t = c.args.time in
    puts_of
    (regroup c.text.result c.text-2.result c.close_of.result.now (after_seconds c.args.writing) (date d.year d.month d.day) (clock t.hour t.minute t.second) c.text.ensures c.text-2.ensures c.close_of.ensures)
    c.put_all.ensures
