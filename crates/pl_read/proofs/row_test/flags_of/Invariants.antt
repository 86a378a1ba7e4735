use Rattle.std.proofs.Common.{◌≡◌, map}
use Rattle.std.specs.List.{range_with_len}
use Rattle.pl_read.specs.RowTest.{row_of}
use Rattle.pl_read.proofs.row_test.flags_of.Given as goal

abbrev pub invariant-loop-row : goal.invariant-loop-row
invariant-loop-row g l = l.flags.items ≡ map (λ row. g.P.RowTest.wants l.fn.predicate (row_of l.fn.df row)) (range_with_len 0 l.row)
