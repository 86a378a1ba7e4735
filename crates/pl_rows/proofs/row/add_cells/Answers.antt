use Rattle.std.proofs.Common.{◌≡◌, ◌<◌, ◌+◌, ◌∷◌, Ok, set, get_or, length, drop, refl, sym, ◌∙◌, ap, subst, arith}
use Rattle.std.proofs.lemmas.List.{get_or-map, map-set, length-map, drop_more}
use Rattle.std.proofs.Math.Seq.{map-set_same}
use Rattle.pl_scan.specs.Dialect.{marks_of}
use Rattle.pl_cells.specs.InitBuffers.{state_of}
use Rattle.pl_cells.specs.BufferValue.{with_value, IsCellFault}
use Rattle.pl_rows.specs.Cells.{cell}
use Rattle.pl_rows.specs.Plan.{states, rules_of}
use Rattle.pl_rows.specs.RowRest.{fields_left}
use Rattle.pl_cells.specs.Columns.{field_in}
use Rattle.pl_rows.proofs.RowLaws.{HasReadColumns, IsAt, HasReadColumns-more, next_place, cells_fault}
use Rattle.pl_rows.proofs.RuleLaws.{FollowsRules-at}
use Rattle.pl_rows.proofs.row.add_cells.Goals as goal

pub add_field-requires-clause-rules : goal.add_field-requires-clause-rules
add_field-requires-clause-rules c =
    let i = c.loop-index.index in
    let bs = c.loop-index.buffers in
    let old = get_or bs i c.index-buffers-index.result in
    let within : i < length bs = omega (arith, c.loop-index.auto.buffers) in
    let inside : i < length (states bs) = simp length-map within in
    let is : get_or (states bs) i (state_of old) ≡ state_of old = get_or-map state_of bs i c.index-buffers-index.result (state_of old) within in
    let there : drop i (states c.args.buffers.now) ≡ state_of old ∷ drop (i + 1) (states bs) =
    sym c.loop-index.invariant.cells.rest ∙ drop_more (states bs) i (state_of old) inside ∙ ap (λ s. s ∷ drop (i + 1) (states bs)) is in
    FollowsRules-at (rules_of c.args.plan.now) (states c.args.buffers.now) i (state_of old) (drop (i + 1) (states bs)) c.requires.rules there

pub overflow_add-next : goal.overflow_add-next
overflow_add-next c =
    let plan = c.args.plan.now in
    let i = c.loop-index.index in
    let bs = c.loop-index.buffers in
    let before = states c.args.buffers.now in
    let old = get_or bs i c.index-buffers-index.result in
    let within : i < length bs = omega (arith, c.loop-index.auto.buffers) in
    let is : get_or (states bs) i (state_of old) ≡ state_of old = get_or-map state_of bs i c.index-buffers-index.result (state_of old) within in
    let place = get_or plan.projection.places.now i 0 in
    let at : IsAt plan before (states bs) i place (state_of old) =
    record { inside = simp length-map within; same = simp length-map (omega (arith, c.loop-index.auto.buffers)); count = c.requires.count; is = is; place_is = refl } in
    let low = next_place plan c.args.bytes.now before (states bs) c.loop-index.rest i c.loop-index.next place (state_of old) c.loop-index.invariant at in
    let below = low.1 in
    omega arith

pub returns-in-Err : goal.returns-in-Err
returns-in-Err c =
    let plan = c.args.plan.now in
    let b = c.args.bytes.now in
    let rules = rules_of plan in
    let i = c.loop-index.index in
    let bs = c.loop-index.buffers in
    let before = states c.args.buffers.now in
    let old = get_or bs i c.index-buffers-index.result in
    let within : i < length bs = omega (arith, c.loop-index.auto.buffers) in
    let is : get_or (states bs) i (state_of old) ≡ state_of old = get_or-map state_of bs i c.index-buffers-index.result (state_of old) within in
    let place = get_or plan.projection.places.now i 0 in
    let at : IsAt plan before (states bs) i place (state_of old) =
    record { inside = simp length-map within; same = simp length-map (omega (arith, c.loop-index.auto.buffers)); count = c.requires.count; is = is; place_is = refl } in
    let begin = c.pass_fields-begin.result in
    let fault : IsCellFault c.in-Err.fault (cell rules place (state_of old).dtype (field_in (fields_left (marks_of plan.dialect) begin) 0)) =
    subst (λ f. IsCellFault c.in-Err.fault (cell rules place (state_of old).dtype f)) c.next_field.ensures.field c.in-Err.ensures.0 in
    let kept : states (set bs i c.add_field.new.buffer) ≡ states bs = map-set_same state_of bs i c.add_field.new.buffer c.index-buffers-index.result c.in-Err.ensures.1 in
    rw c.row_fault.ensures
    (cells_fault plan b before (states bs) (states (set bs i c.add_field.new.buffer)) c.loop-index.rest begin i c.loop-index.next place (state_of old) c.in-Err.fault c.loop-index.invariant at
    c.pass_fields-begin.ensures.left fault kept)

pub loop-index-preserved : goal.loop-index-preserved
loop-index-preserved c =
    let plan = c.args.plan.now in
    let b = c.args.bytes.now in
    let rules = rules_of plan in
    let i = c.loop-index.index in
    let bs = c.loop-index.buffers in
    let before = states c.args.buffers.now in
    let old = get_or bs i c.index-buffers-index.result in
    let value = c.in-Ok.ensures.value in
    let within : i < length bs = omega (arith, c.loop-index.auto.buffers) in
    let is : get_or (states bs) i (state_of old) ≡ state_of old = get_or-map state_of bs i c.index-buffers-index.result (state_of old) within in
    let place = get_or plan.projection.places.now i 0 in
    let at : IsAt plan before (states bs) i place (state_of old) =
    record { inside = simp length-map within; same = simp length-map (omega (arith, c.loop-index.auto.buffers)); count = c.requires.count; is = is; place_is = refl } in
    let begin = c.pass_fields-begin.result in
    let ok : cell rules place (state_of old).dtype (field_in (fields_left (marks_of plan.dialect) begin) 0) ≡ Ok value = sym (ap (cell rules place (state_of old).dtype) c.next_field.ensures.field) ∙ c.in-Ok.ensures.is in
    let more = HasReadColumns-more plan b before (states bs) c.loop-index.rest begin c.next_field.result.1 i c.loop-index.next place (state_of old) value c.loop-index.invariant at
    c.pass_fields-begin.ensures.left c.pass_fields-begin.ensures.behind c.next_field.ensures.left c.next_field.ensures.behind ok in
    let now : states (set bs i c.add_field.new.buffer) ≡ set (states bs) i (with_value (state_of old) value) =
    map-set state_of bs i c.add_field.new.buffer ∙ ap (set (states bs) i) c.in-Ok.ensures.pushed in
    subst (λ s. HasReadColumns plan b before s c.next_field.result.1 (i + 1) (place + 1)) (sym now) more
