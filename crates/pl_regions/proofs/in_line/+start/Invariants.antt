use Rattle.std.proofs.Common.{◌-◌, ◌*◌}
use Rattle.pl_regions.proofs.in_line.+start.Given as goal

abbrev pub decreases-start_and_print : goal.decreases-start_and_print
decreases-start_and_print g l = 2 * l.to_start

abbrev pub decreases-print : goal.decreases-print
decreases-print g l = 2 * l.to_start - 1
