use Rattle.std.proofs.Common.{◌≡◌, ℕ, ◌+◌, ◌<◌, ◌≤◌, ◌++◌, [], get_or}
use Rattle.pl_write.specs.Lines.{cell_in_line}
use Rattle.pl_write.specs.Options.{cell_options}
use Rattle.pl_write.proofs.lines.append_cells.Given as goal

abbrev pub invariant-loop-k : goal.invariant-loop-k
invariant-loop-k g l = record {
  grown : (j : ℕ) → j < l.k → get_or l.lines j [] ≡ get_or l.initial.lines j [] ++ cell_in_line (cell_options l.options) l.column l.place (l.first + j);
  left : (j : ℕ) → l.k ≤ j → get_or l.lines j [] ≡ get_or l.initial.lines j [];
}
