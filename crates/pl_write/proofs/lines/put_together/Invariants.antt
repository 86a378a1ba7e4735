use Rattle.std.proofs.Common.{take}
use Rattle.pl_write.specs.Lines.{AreLines}
use Rattle.pl_write.specs.Options.{cell_options}
use Rattle.pl_write.specs.Strips.{joined_strips}
use Rattle.pl_write.proofs.lines.put_together.Given as goal

abbrev pub invariant-loop-place : goal.invariant-loop-place
invariant-loop-place l = AreLines (joined_strips (cell_options l.options) (take l.place l.strips)) l.first l.lines
