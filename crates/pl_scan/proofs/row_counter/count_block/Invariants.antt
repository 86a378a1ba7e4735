use Rattle.std.proofs.Common.{◌≡◌, ◌+◌, ◌≤◌, List, ℕ, ◌++◌, length}
use Rattle.pl_frame.specs.Dialect.{marks}
use Rattle.pl_scan.specs.RowStates.{rows_behind}
use Rattle.pl_scan.proofs.row_counter.count_block.Given as goal

abbrev pub invariant-loop-left : goal.invariant-loop-left
invariant-loop-left l = record {
  few : l.rows + length l.left ≤ length l.block;
  counted : (rest : List ℕ) → l.rows + rows_behind (marks l.separator l.quote_char l.eol_char) l.behind (l.left ++ rest)
      ≡ rows_behind (marks l.separator l.quote_char l.eol_char) l.fn.state (l.block ++ rest);
}

abbrev pub decreases-loop-left : goal.decreases-loop-left
decreases-loop-left l = length l.left
