use Rattle.std.proofs.Common.{◌<◌, length}
use Rattle.pl_write.proofs.lines.new_lines.Given as goal

abbrev pub invariant-loop : goal.invariant-loop
invariant-loop l = 0 < length l.lines.items
