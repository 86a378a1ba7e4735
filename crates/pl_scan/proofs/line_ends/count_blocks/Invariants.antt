use Rattle.std.proofs.Common.{◌*◌}
use Rattle.pl_scan.specs.EvenCounts.{HasCounted}
use Rattle.pl_scan.proofs.line_ends.count_blocks.Given as goal

abbrev pub invariant-loop-k : goal.invariant-loop-k
invariant-loop-k l = HasCounted l.quote_char l.eol_char l.bytes (l.k * 64) l.counted
