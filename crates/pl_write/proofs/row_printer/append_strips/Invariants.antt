use Rattle.std.proofs.Common.{◌≡◌, ◌<◌, ◌≤◌, ◌-◌, ◌++◌, length}
use Rattle.pl_write.specs.Options.{cell_options}
use Rattle.pl_write.specs.Strips.{strip_lines}
use Rattle.pl_write.proofs.row_printer.append_strips.Given as goal

abbrev pub invariant-loop-row : goal.invariant-loop-row
invariant-loop-row l = record {
  lines : 0 < length l.lines;
  up : l.first ≤ l.row;
  text : l.block ++ strip_lines (cell_options l.options) l.strips l.row (l.end - l.row) ≡ l.initial.block ++ strip_lines (cell_options l.options) l.strips l.first (l.end - l.first);
}

abbrev pub decreases-loop-row : goal.decreases-loop-row
decreases-loop-row l = l.end - l.row
