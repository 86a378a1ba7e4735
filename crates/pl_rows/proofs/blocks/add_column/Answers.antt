use Rattle.pl_cells.specs.InitBuffers.{state_of}
use Rattle.pl_rows.proofs.BlockLaws.{HasAddedColumn-cells}
use Rattle.pl_rows.proofs.blocks.add_column.Goals as goal

pub returns-in-Ok-clause-added : goal.returns-in-Ok-clause-added
returns-in-Ok-clause-added c = λ all.
    HasAddedColumn-cells c.args.plan.now c.args.column c.args.rows c.args.block.now c.args.table.now (state_of c.args.buffer.now) (state_of c.add_column-added.new.self) c.requires.rules
    c.in-Ok.ensures.added c.in-Ok.ensures.sound
