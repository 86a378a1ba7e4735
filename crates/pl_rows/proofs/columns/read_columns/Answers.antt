use Rattle.std.proofs.Common.{◌≡◌, length, ◌∙◌, ap, arith}
use Rattle.pl_cells.specs.InitBuffers.{empty_buffers}
use Rattle.pl_rows.specs.Columns.{columns_of}
use Rattle.pl_rows.specs.Plan.{states}
use Rattle.pl_rows.specs.Ranges.{range_end}
use Rattle.pl_rows.proofs.FrameLaws.{written_back, CanRead-empty, plan_columns-empty, range_frame-is}
use Rattle.pl_rows.proofs.PlanLaws.{rising-below}
use Rattle.pl_rows.proofs.columns.read_columns.Goals as goal

pub empty_buffers-requires-clause-places : goal.empty_buffers-requires-clause-places
empty_buffers-requires-clause-places c = rising-below 0 (length c.args.schema.now) c.args.plan.now.projection.places.now c.requires.rising

pub read_range-requires : goal.read_range-requires
read_range-requires c =
    CanRead-empty c.args.plan.now c.args.schema.now (states c.deref_mut.result.now) (ap states c.deref_mut.ensures.value ∙ c.in_ok-buffers.ensures) c.requires.apart c.requires.width c.requires.rising c.requires.texts

pub returns-in_ok-columns-in-Ok : goal.returns-in_ok-columns-in-Ok
returns-in_ok-columns-in-Ok c =
    let plan = c.args.plan.now in
    let schema = c.args.schema.now in
    let range = c.args.range.now in
    let buffers = states c.deref_mut.result.now in
    let fresh : buffers ≡ empty_buffers plan.dialect.quote_char plan.options.encoding schema plan.projection.places.now = ap states c.deref_mut.ensures.value ∙ c.in_ok-buffers.ensures in
    let back = written_back c.in_ok-buffers.buffers.items c.read_range.new.buffers c.in_ok-buffers.buffers.len (omega (arith, c.in_ok-buffers.buffers.ok, c.deref_mut.ensures.len)) (omega (arith, c.read_range.auto.buffers, c.deref_mut.ensures.len, c.in_ok-buffers.buffers.ok)) in
    record {
      columns = c.in_ok-columns-in-Ok.ensures ∙ ap (λ b. columns_of (states b)) back ∙ range_frame-is plan schema range buffers (states c.read_range.new.buffers) fresh c.requires.width c.in-Ok.ensures.added;
      end_is = c.in-Ok.ensures.end ∙ ap (λ columns. range_end plan columns range) (plan_columns-empty plan schema buffers fresh c.requires.width);
    }
