use Rattle.std.proofs.Common.{◌≡◌, ◌<◌, length, set, get_or, ◌∙◌, ap, sym, arith}
use Rattle.std.proofs.lemmas.List.{get_or-map, map-set, set-get_or}
use Rattle.pl_cells.specs.InitBuffers.{state_of}
use Rattle.pl_rows.specs.Plan.{states}
use Rattle.pl_rows.proofs.whole_pieces.make_room.Goals as goal

pub loop-place-preserved : goal.loop-place-preserved
loop-place-preserved c =
    let bs = c.loop-place.buffers in
    let i = c.loop-place.place in
    let it = c.index-buffers-place.result in
    let old = state_of (get_or bs i it) in
    let within : i < length bs = omega (arith, c.loop-place.auto.buffers) in
    let is : get_or (states bs) i old ≡ old = get_or-map state_of bs i it old within in
    map-set state_of bs i c.reserve_for.new.self
    ∙ ap (set (states bs) i) c.reserve_for.ensures
    ∙ ap (λ o. set (states bs) i o) (sym is)
    ∙ set-get_or (states bs) i old
    ∙ c.loop-place.invariant
