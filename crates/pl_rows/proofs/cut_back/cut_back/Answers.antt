use Rattle.std.proofs.Common.{◌≡◌, ◌<◌, length, set, get_or, sym, ◌∙◌, ap, arith}
use Rattle.std.proofs.lemmas.List.{get_or-map, map-set, length-map}
use Rattle.pl_cells.specs.InitBuffers.{state_of}
use Rattle.pl_rows.specs.Plan.{states}
use Rattle.pl_rows.specs.Steps.{without_last}
use Rattle.pl_rows.proofs.ColumnLaws.{cut_back-more}
use Rattle.pl_rows.proofs.cut_back.cut_back.Goals as goal

pub loop-column-preserved : goal.loop-column-preserved
loop-column-preserved c =
    let n = c.args.count in
    let i = c.loop-column.column in
    let bs = c.loop-column.buffers in
    let before = states c.args.buffers.now in
    let old = state_of (get_or bs i c.index-buffers-column.result) in
    let within : i < length bs = omega (arith, c.loop-column.auto.buffers) in
    let inside : i < length before = simp length-map (omega (arith, c.loop-column.auto.buffers)) in
    let is : get_or (states bs) i old ≡ old = get_or-map state_of bs i c.index-buffers-column.result old within in
    map-set state_of bs i c.remove_cells.new.buffer
    ∙ ap (set (states bs) i) c.remove_cells.ensures
    ∙ ap (λ o. set (states bs) i (without_last n o)) (sym is)
    ∙ ap (λ s. set s i (without_last n (get_or s i old))) c.loop-column.invariant
    ∙ cut_back-more n i before old inside
