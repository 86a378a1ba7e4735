use Rattle.std.proofs.Common.{map}
use Rattle.std.specs.Sync.OnceLock.{Named}
use Rattle.pl_rows.specs.WholePieces.{IsPieceFrame}
use Rattle.pl_read.proofs.rounds.read_round.Given as goal

abbrev pub ghosts-read_and_link : goal.ghosts-read_and_link
ghosts-read_and_link g a = record {
  names = map (λ (cell : Named). cell.id) a.cells.now;
  reads = λ text read. IsPieceFrame a.plan.now a.schema.now text read;
}
