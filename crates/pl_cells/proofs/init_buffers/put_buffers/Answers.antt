use Rattle.std.proofs.Common.{ℕ, not}
use Rattle.pl_frame.specs.Types.{is_readable}
use Rattle.pl_frame.proofs.ColumnLaws.{true_from_not}
use Rattle.pl_cells.specs.InitBuffers.{entry_at}
use Rattle.pl_cells.proofs.PlaceLaws.{find_none}
use Rattle.pl_cells.proofs.init_buffers.put_buffers.Goals as goal

pub put_buffer-requires-clause-readable : goal.put_buffer-requires-clause-readable
put_buffer-requires-clause-readable c =
    true_from_not _ (find_none (λ (place : ℕ). not (is_readable (entry_at c.args.schema.now place).1)) c.args.projection.now c.loop-place.place-index 0 c.requires.readable c.loop-place-test.true)
