use Rattle.std.proofs.Common.{map}
use Rattle.std.specs.Sync.OnceLock.{Named}
use Rattle.pl_write.specs.Options.{cell_options}
use Rattle.pl_regions.specs.Arriving.{IsFrontKept}
use Rattle.pl_regions.proofs.rounds.print_round.Given as goal

abbrev pub ghosts-print_and_keep : goal.ghosts-print_and_keep
ghosts-print_and_keep g a = record {
  names = map (λ (cell : Named). cell.id) a.cells.now;
  reads = λ text front. IsFrontKept a.plan.now a.schema.now (cell_options a.options.now) text front;
}
