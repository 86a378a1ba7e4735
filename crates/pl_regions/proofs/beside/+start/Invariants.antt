use Rattle.std.proofs.Common.{◌-◌, ◌*◌}
use Rattle.pl_regions.proofs.beside.+start.Given as goal

abbrev pub decreases-start_and_read : goal.decreases-start_and_read
decreases-start_and_read g l = 2 * l.to_start

abbrev pub decreases-read : goal.decreases-read
decreases-read g l = 2 * l.to_start - 1
