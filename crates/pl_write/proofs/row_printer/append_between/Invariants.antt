use Rattle.std.proofs.Common.{◌≡◌, ◌<◌, ◌-◌, ◌++◌, length}
use Rattle.pl_text.specs.FrameText.{row_lines}
use Rattle.pl_write.specs.Options.{cell_options}
use Rattle.pl_write.proofs.row_printer.append_between.Given as goal

abbrev pub invariant-loop-row : goal.invariant-loop-row
invariant-loop-row l = record {
  lines : 0 < length l.lines;
  text : l.block ++ row_lines (cell_options l.options) l.columns l.row (l.end - l.row) ≡ l.initial.block ++ row_lines (cell_options l.options) l.columns l.first (l.end - l.first);
}

abbrev pub decreases-loop-row : goal.decreases-loop-row
decreases-loop-row l = l.end - l.row
