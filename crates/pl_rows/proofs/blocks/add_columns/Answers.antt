use Rattle.std.proofs.Common.{◌≡◌, ◌<◌, ◌≤◌, ◌+◌, ◌∷◌, suc, set, get_or, length, take, drop, refl, sym, ◌∙◌, ap, subst, arith}
use Rattle.std.proofs.lemmas.List.{get_or-map, map-set, length-map, drop_more}
use Rattle.std.proofs.Math.Seq.{map-set_same}
use Rattle.pl_cells.specs.InitBuffers.{state_of}
use Rattle.pl_table.specs.Rows.{table_rows}
use Rattle.pl_rows.specs.Plan.{states, rules_of}
use Rattle.pl_rows.specs.Steps.{cut_back}
use Rattle.pl_rows.proofs.BlockLaws.{HaveReadColumns, HaveReadColumns-start, HaveReadColumns-more, HaveReadColumns-all, HaveReadColumns-back, length-table_rows, HaveTexts-below}
use Rattle.pl_rows.proofs.PlanLaws.{rising-below}
use Rattle.pl_rows.proofs.RowLaws.{IsAt}
use Rattle.pl_rows.proofs.RuleLaws.{FollowsRules-at}
use Rattle.pl_rows.proofs.blocks.add_columns.Goals as goal

pub loop-index-init : goal.loop-index-init
loop-index-init c = HaveReadColumns-start c.args.plan.now (take c.args.rows (table_rows c.args.block.now c.args.table.now)) (states c.args.buffers.now)

pub add_column-requires-clause-rules : goal.add_column-requires-clause-rules
add_column-requires-clause-rules c =
    let i = c.loop-index.index in
    let bs = c.loop-index.buffers in
    let old = get_or bs i c.index-buffers-index.result in
    let within : i < length bs = omega (arith, c.loop-index-test.true, c.loop-index.auto.buffers) in
    let inside : i < length (states bs) = simp length-map within in
    let is : get_or (states bs) i (state_of old) ≡ state_of old = get_or-map state_of bs i c.index-buffers-index.result (state_of old) within in
    let there : drop i (states c.args.buffers.now) ≡ state_of old ∷ drop (i + 1) (states bs) =
    sym c.loop-index.invariant.rest ∙ drop_more (states bs) i (state_of old) inside ∙ ap (λ s. s ∷ drop (i + 1) (states bs)) is in
    FollowsRules-at (rules_of c.args.plan.now) (states c.args.buffers.now) i (state_of old) (drop (i + 1) (states bs)) c.requires.can.rules there

pub add_column-requires-clause-texts : goal.add_column-requires-clause-texts
add_column-requires-clause-texts c =
    let plan = c.args.plan.now in
    let i = c.loop-index.index in
    let size = length-map c.args.buffers.now state_of in
    let within : i < length plan.projection.places.now = omega (arith, size, c.requires.can.count, c.loop-index-test.true) in
    HaveTexts-below plan.options.null_values plan.projection.width (suc (get_or plan.projection.places.now i 0)) (rising-below 0 plan.projection.width plan.projection.places.now c.requires.can.rising i within) c.requires.can.texts

pub returns-then-not-add_column-clause-kept : goal.returns-then-not-add_column-clause-kept
returns-then-not-add_column-clause-kept c = λ none.
    let plan = c.args.plan.now in
    let i = c.loop-index.index in
    let bs = c.loop-index.buffers in
    let before = states c.args.buffers.now in
    let given = take c.args.rows (table_rows c.args.block.now c.args.table.now) in
    let few : i ≤ length before = simp length-map (omega (arith, c.loop-index-test.true)) in
    let kept : states (set bs i c.add_column.new.buffer) ≡ states bs = map-set_same state_of bs i c.add_column.new.buffer c.index-buffers-index.result (c.if-not-add_column.ensures.kept refl) in
    c.cut_back.ensures
    ∙ ap (cut_back i c.args.rows) kept
    ∙ HaveReadColumns-back plan given c.args.rows i before (states bs) (length-table_rows c.args.rows c.args.block.now c.args.table.now c.requires.rows) few c.requires.can.count c.loop-index.invariant

pub loop-index-preserved : goal.loop-index-preserved
loop-index-preserved c =
    let plan = c.args.plan.now in
    let i = c.loop-index.index in
    let bs = c.loop-index.buffers in
    let before = states c.args.buffers.now in
    let given = take c.args.rows (table_rows c.args.block.now c.args.table.now) in
    let old = get_or bs i c.index-buffers-index.result in
    let within : i < length bs = omega (arith, c.loop-index-test.true, c.loop-index.auto.buffers) in
    let is : get_or (states bs) i (state_of old) ≡ state_of old = get_or-map state_of bs i c.index-buffers-index.result (state_of old) within in
    let place = get_or plan.projection.places.now i 0 in
    let at : IsAt plan before (states bs) i place (state_of old) =
    record { inside = simp length-map within; same = simp length-map (omega (arith, c.loop-index.auto.buffers)); count = c.requires.can.count; is = is; place_is = refl } in
    subst (λ s. HaveReadColumns plan given (i + 1) before s) (sym (map-set state_of bs i c.add_column.new.buffer))
    (HaveReadColumns-more plan given before (states bs) i place (state_of old) (state_of c.add_column.new.buffer) c.loop-index.invariant at (c.if-not-add_column.ensures.added refl))

pub returns-clause-added : goal.returns-clause-added
returns-clause-added c = λ all.
    let plan = c.args.plan.now in
    let before = states c.args.buffers.now in
    let given = take c.args.rows (table_rows c.args.block.now c.args.table.now) in
    let past : length before ≤ c.loop-index.index = simp length-map (omega (arith, c.loop-index-test.false)) in
    let past_now : length (states c.loop-index.buffers) ≤ c.loop-index.index = simp length-map (omega (arith, c.loop-index-test.false, c.loop-index.auto.buffers)) in
    HaveReadColumns-all plan given before (states c.loop-index.buffers) c.loop-index.index c.loop-index.invariant past_now past c.requires.can.count
