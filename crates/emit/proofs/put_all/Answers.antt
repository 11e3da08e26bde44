-- Where there is room the texts are laid one after the other, else nothing is changed.
use Rattle.std.proofs.Common.{◌≡◌, ◌+◌, ◌<◌, append-nil, length-append, ℕ, List, [], ◌∷◌, ◌++◌, length, take, get_or, flat_map, Bor, arith, ap, ◌∙◌, take_all}
use Rattle.std.proofs.lemmas.List.{take_more}
use Rattle.std.proofs.lemmas.List.Concat.{flat_map-append}
use Rattle.std.proofs.lemmas.List.Folds.{length-flat_map-take}
use Rattle.std.proofs.lemmas.List.Edits.{sets}
use Rattle.emit.specs.EmitLaws.{sets_append, wrote_puts}
use Rattle.emit.specs.RoomLaws.{no_room_far, room_far}
use Rattle.emit.proofs.put_all.Goals as goal

abbrev joined : List (Bor (List ℕ)) → List ℕ
joined ts = flat_map (λ (t : Bor (List ℕ)). t.now) ts

abbrev none : Bor (List ℕ)
none = record { ref_ptr = (0, 0); now = [] }

-- one text more
module _ (ts : List (Bor (List ℕ))) (k : ℕ) (h : k < length ts) where
  joined_more : joined (take (k + 1) ts) ≡ joined (take k ts) ++ (get_or ts k none).now
  joined_more =
      ap joined (take_more ts k none h)
      ∙ flat_map-append (λ (t : Bor (List ℕ)). t.now) (take k ts) (get_or ts k none ∷ [])
      ∙ ap (λ (x : List ℕ). joined (take k ts) ++ x) (append-nil (get_or ts k none).now)

  one_more : (entry : List ℕ) (at here : ℕ) {out exit : List ℕ}
      → (here ≡ at + length (joined (take k ts))) × (out ≡ sets entry at (joined (take k ts)))
      → exit ≡ sets out here (get_or ts k none).now
      → (here + length (get_or ts k none).now ≡ at + length (joined (take (k + 1) ts))) × (exit ≡ sets entry at (joined (take (k + 1) ts)))
  one_more entry at here i e =
      let n = length-append (joined (take k ts)) (get_or ts k none).now in (
        rw joined_more (omega (arith, i.0)),
        rw joined_more (e ∙ rw (i.0, i.1) (sets_append (joined (take k ts)) (get_or ts k none).now entry at)),
      )

pub returns-then-lacks_room : goal.returns-then-lacks_room
returns-then-lacks_room c = let i = c.args in no_room_far i.out.now i.at (joined i.texts.now) c.len_of-n.ensures c.lacks_room.ensures c.if-lacks_room.true c.ended.ensures

pub copy-requires : goal.copy-requires
copy-requires c =
    let i = c.args in
    let l = c.loop-text in
    let g = room_far i.out.now i.at (joined i.texts.now) c.len_of-n.ensures c.lacks_room.ensures c.if-lacks_room.false in
    let f = length-flat_map-take (λ (t : Bor (List ℕ)). t.now) i.texts.now l.text-index none (omega arith) in
    omega (arith, l.invariant.0)

pub overflow_add-here : goal.overflow_add-here
overflow_add-here c =
    let i = c.args in
    let l = c.loop-text in
    let g = room_far i.out.now i.at (joined i.texts.now) c.len_of-n.ensures c.lacks_room.ensures c.if-lacks_room.false in
    let f = length-flat_map-take (λ (t : Bor (List ℕ)). t.now) i.texts.now l.text-index none (omega arith) in
    omega (arith, l.invariant.0)

pub loop-text-preserved : goal.loop-text-preserved
loop-text-preserved c = one_more c.args.texts.now c.loop-text.text-index (omega arith) c.args.out.now c.args.at c.loop-text.here c.loop-text.invariant c.copy.ensures

pub returns : goal.returns
returns c =
    let i = c.args in
    let l = c.loop-text in
    let g = room_far i.out.now i.at (joined i.texts.now) c.len_of-n.ensures c.lacks_room.ensures c.if-lacks_room.false in
    let t = ap joined (take_all l.text-index i.texts.now (omega arith)) in
    wrote_puts g (record { laid = l.invariant.1 ∙ ap (λ (x : List ℕ). sets i.out.now i.at x) t; end = l.invariant.0 ∙ ap (λ (x : List ℕ). i.at + length x) t })
