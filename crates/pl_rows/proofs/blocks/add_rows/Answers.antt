use Rattle.std.proofs.Common.{take, refl}
use Rattle.pl_table.specs.Rows.{table_rows}
use Rattle.pl_rows.specs.Plan.{states}
use Rattle.pl_rows.proofs.BlockLaws.{HaveAllRows-columns, narrow-rows}
use Rattle.pl_rows.proofs.blocks.add_rows.Goals as goal

pub returns-then-passes_more-clause-added : goal.returns-then-passes_more-clause-added
returns-then-passes_more-clause-added c = λ all.
    let rows = take c.args.rows (table_rows c.args.block.now c.args.table.now) in
    HaveAllRows-columns c.args.plan.now rows (states c.args.buffers.now) (states c.add_columns.new.buffers) c.requires.can.count (c.add_columns.ensures.added all)
    (λ none. absurd (cc))

pub returns-clause-added : goal.returns-clause-added
returns-clause-added c = λ all.
    let rows = take c.args.rows (table_rows c.args.block.now c.args.table.now) in
    HaveAllRows-columns c.args.plan.now rows (states c.args.buffers.now) (states c.add_columns-2.new.buffers) c.requires.can.count (c.add_columns-2.ensures.added all)
    (λ none. narrow-rows c.args.rows c.args.plan.now.projection.width c.args.block.now c.args.table.now (c.if-has_excess.ensures refl))
