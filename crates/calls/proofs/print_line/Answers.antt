-- `calls::print_line` meets its contract: a refusal's line.
use Rattle.std.proofs.Common.{◌≡◌, ◌++◌, ◌∙◌, ap, sym, subst, Err, OnOk}
use Rattle.calls.proofs.LineLaws.{text_built}
use Rattle.std.specs.Io.KnownBytes.{Appends}
use Rattle.calls.specs.Words.{line_of}
use Rattle.calls.proofs.print_line.Goals as goal

pub returns-in_ok-write_fmt-in-Err : goal.returns-in_ok-write_fmt-in-Err
unfolding line_of
returns-in_ok-write_fmt-in-Err g c =
    let text : c.as_bytes.result.now ≡ line_of (Err c.in-Err.r) c.args.out.now = c.as_bytes.ensures.value ∙ c.as_str.ensures.value ∙ (text_built _ _ _ c.in_ok-write_fmt-in-Err.ensures.writes c.new-line.ensures.intact).1 ∙ ap (λ s. s ++ line_of (Err c.in-Err.r) c.args.out.now) c.new-line.ensures.text in
    subst (λ l. OnOk c.write_all-in-Err.result (Appends (g.W.Write.contents c.args.to.now) (g.W.Write.contents c.write_all-in-Err.new.self) (line_of l c.args.out.now))) (sym c.in-Err.is)
    (subst (λ s. OnOk c.write_all-in-Err.result (Appends (g.W.Write.contents c.args.to.now) (g.W.Write.contents c.write_all-in-Err.new.self) s)) text c.write_all-in-Err.ensures.bytes)
