use Rattle.pl_scan.specs.Dialect.{marks_of}
use Rattle.pl_table.proofs.FlagLaws.{IsCounted}
use Rattle.pl_table.proofs.block.find_words.Given as goal

abbrev pub invariant-loop : goal.invariant-loop
invariant-loop l = IsCounted (marks_of l.fn.dialect) l.spot l.bytes l.counted
