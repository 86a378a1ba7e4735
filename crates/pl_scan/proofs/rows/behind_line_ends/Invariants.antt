use Rattle.std.proofs.Common.{◌≡◌, length}
use Rattle.pl_scan.specs.RowCount.{cut_line_ends}
use Rattle.pl_scan.proofs.rows.behind_line_ends.Given as goal

abbrev pub invariant-loop-rest : goal.invariant-loop-rest
invariant-loop-rest l = cut_line_ends l.eol_char l.rest ≡ cut_line_ends l.eol_char l.input

abbrev pub decreases-loop-rest : goal.decreases-loop-rest
decreases-loop-rest l = length l.rest
