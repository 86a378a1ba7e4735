use Rattle.pl_rows.specs.WholePieces.{IsPieceFrame}
use Rattle.pl_read.proofs.workers.read_by_workers.Given as goal

abbrev pub ghosts-read_on_board-K-Reading : goal.ghosts-read_on_board-K-Reading
ghosts-read_on_board-K-Reading g a = record {
  range = a.range.now;
  reads = λ text read. IsPieceFrame a.plan.now a.schema.now text read;
}

abbrev pub ghosts-read_on_board-T-Task : goal.ghosts-read_on_board-T-Task
ghosts-read_on_board-T-Task g a = record {
  setup = record { bytes = a.range.now; ends = a.ends.items; limit = a.plan.now.limit };
}

abbrev pub ghosts-read_on_board-T-Ledger : goal.ghosts-read_on_board-T-Ledger
ghosts-read_on_board-T-Ledger g a = record { name = a.blanks.handed_out.name; parts = a.blanks.handed_out.parts }

abbrev pub ghosts-read_on_board-P-Ledger : goal.ghosts-read_on_board-P-Ledger
ghosts-read_on_board-P-Ledger g a = record { name = a.blanks.posts.name; parts = a.blanks.posts.parts }

abbrev pub ghosts-read_on_board-S-Ledger : goal.ghosts-read_on_board-S-Ledger
ghosts-read_on_board-S-Ledger g a = record { name = a.blanks.seats.name; parts = a.blanks.seats.parts }

abbrev pub ghosts-read_on_board-R-Ledger : goal.ghosts-read_on_board-R-Ledger
ghosts-read_on_board-R-Ledger g a = record { name = a.blanks.running.name; parts = a.blanks.running.parts }

abbrev pub ghosts-read_on_board-C-Ledger : goal.ghosts-read_on_board-C-Ledger
ghosts-read_on_board-C-Ledger g a = record { name = a.blanks.clean.name; parts = a.blanks.clean.parts }
