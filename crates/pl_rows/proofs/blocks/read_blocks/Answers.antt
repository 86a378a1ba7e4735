use Rattle.std.proofs.Common.{sym, arith}
use Rattle.pl_rows.specs.Plan.{states}
use Rattle.pl_rows.proofs.BlockLaws.{no_comment, HasReadRows-front}
use Rattle.pl_rows.proofs.PlanLaws.{CanRead-more}
use Rattle.pl_rows.proofs.RangeLaws.{HasReadRows-start}
use Rattle.pl_rows.proofs.blocks.read_blocks.Goals as goal

pub returns-then-is_some : goal.returns-then-is_some
returns-then-is_some c = HasReadRows-start c.args.plan.now c.args.range.now (states c.args.buffers.now) c.requires

pub loop-init : goal.loop-init
loop-init c = (HasReadRows-start c.args.plan.now c.args.range.now (states c.args.buffers.now) c.requires, omega arith)

pub read_block-requires-clause-can : goal.read_block-requires-clause-can
read_block-requires-clause-can c =
    let read = c.loop.invariant.0 in
    CanRead-more c.args.plan.now read.done (states c.args.buffers.now) (states c.loop.buffers) read.filled c.requires

pub overflow_add-at : goal.overflow_add-at
overflow_add-at c =
    let plan = c.args.plan.now in
    let plain = no_comment plan.dialect (sym c.if-is_some.ensures) in
    let more = HasReadRows-front plan c.args.range.now (states c.args.buffers.now) (states c.loop.buffers) (states c.read_block.new.buffers) c.loop.at.rest.now c.loop.at.row _ c.in-Rows.taken c.in-Rows.size c.requires plain c.loop.invariant.0 c.in-Rows.ensures in
    omega (arith, more.few, c.type_inv.range)

pub loop-preserved-in-Rows : goal.loop-preserved-in-Rows
loop-preserved-in-Rows c =
    let plan = c.args.plan.now in
    let plain = no_comment plan.dialect (sym c.if-is_some.ensures) in (
      HasReadRows-front plan c.args.range.now (states c.args.buffers.now) (states c.loop.buffers) (states c.read_block.new.buffers) c.loop.at.rest.now c.loop.at.row _ c.in-Rows.taken c.in-Rows.size c.requires plain c.loop.invariant.0 c.in-Rows.ensures,
      c.loop.invariant.1,
    )
