use Rattle.std.proofs.Common.{◌≡◌, drop}
use Rattle.pl_multi.specs.Printing.{have_codes}
use Rattle.pl_multi.proofs.printing.have_codes.Given as goal

abbrev pub invariant-loop-column : goal.invariant-loop-column
invariant-loop-column l = have_codes l.columns ≡ have_codes (drop l.column-index l.columns)
