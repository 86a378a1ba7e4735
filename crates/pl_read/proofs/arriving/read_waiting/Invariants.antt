use Rattle.std.proofs.Common.{◌≡◌}
use Rattle.pl_cells.specs.InitBuffers.{empty_buffers}
use Rattle.pl_rows.specs.Plan.{states}
use Rattle.pl_read.proofs.arriving.read_waiting.Given as goal

abbrev pub invariant-loop : goal.invariant-loop
invariant-loop g l = states l.buffers.items ≡ empty_buffers l.fn.plan.dialect.quote_char l.fn.plan.options.encoding l.fn.schema l.fn.plan.projection.places.now
