use Rattle.std.proofs.Common.{◌≤◌, ◌^◌}
use Rattle.pl_rows.specs.Blocks.{HasReadRows}
use Rattle.pl_rows.specs.Plan.{states}
use Rattle.pl_rows.proofs.blocks.read_blocks.Given as goal

abbrev pub invariant-loop : goal.invariant-loop
invariant-loop l = HasReadRows l.fn.plan l.fn.range (states l.fn.buffers) (states l.buffers) l.at.rest.now l.at.row × (l.longest ≤ 2 ^ 29)
