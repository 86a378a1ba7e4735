use Rattle.pl_scan.specs.EvenCounts.{HasCounted}
use Rattle.pl_scan.proofs.line_ends.count_even_ends.Given as goal

abbrev pub invariant-loop-i : goal.invariant-loop-i
invariant-loop-i l = HasCounted l.quote_char l.eol_char l.bytes l.i l.counted
