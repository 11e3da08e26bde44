-- `charset::named_at` meets its contract: the length byte says how far the name reaches, and whether that is within the bytes.
use mathlib.Core.Path.{sym, ◌∙◌}
use native.Mathlib.Omega.{arith}
use Prim.Native.Nat.{◌+◌, ◌-◌}
use lib.ListN.{length, drop, length-take, length-drop}
use Rattle.charset.proofs.Laws.{named_in, named_out}
use Rattle.charset.proofs.named_at.Goals as goal

pub returns-in_default : goal.returns-in_default
returns-in_default c = sym (named_out c.args.s.now c.args.i (omega (arith, c.in_default.ensures.lookup.3)))

pub returns-in-Some-get : goal.returns-in-Some-get
returns-in-Some-get c =
    let e = c.in-Some.ensures.lookup.3 in
    let w = c.in-Some-get.ensures.lookup in
    c.is_name.ensures ∙ named_in c.args.s.now c.args.i _ _ (c.from.ensures ∙ e.1 0) e.0 w.0.1 w.0.2

pub returns-in-None : goal.returns-in-None
returns-in-None c =
    let e = c.in-Some.ensures.lookup.3 in
    let q = c.from.ensures ∙ e.1 0 in
    let i = c.args.i in
    let s = c.args.s.now in
    let rest = drop (i + 1) s in
    sym (named_out s i (omega (arith, q, e.0, c.in-None.ensures.lookup.0, length-take (length s - (i + 1)) rest, length-drop (i + 1) s)))
