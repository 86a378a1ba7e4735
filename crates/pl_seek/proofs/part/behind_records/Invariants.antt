use Rattle.std.proofs.Common.{◌≡◌, length, drop}
use Rattle.pl_scan.specs.Dialect.{marks_of, comment_of}
use Rattle.pl_table.specs.Rows.{rows}
use Rattle.pl_seek.proofs.part.behind_records.Given as goal

abbrev pub invariant-loop-left : goal.invariant-loop-left
invariant-loop-left l = drop l.left (rows (marks_of l.dialect) (comment_of l.dialect) l.rest) ≡ drop l.count (rows (marks_of l.dialect) (comment_of l.dialect) l.part)

abbrev pub decreases-loop-left : goal.decreases-loop-left
decreases-loop-left l = length l.rest
