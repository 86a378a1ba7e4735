use Rattle.pl_board_tests.proofs.threads.read_by_two.Given as goal

abbrev pub ghosts-read_in_threads-T-Task : goal.ghosts-read_in_threads-T-Task
ghosts-read_in_threads-T-Task g a = record { setup = a.state.setup }

abbrev pub ghosts-read_in_threads-T-Ledger : goal.ghosts-read_in_threads-T-Ledger
ghosts-read_in_threads-T-Ledger g a = record { name = a.blanks.handed_out.name; parts = a.blanks.handed_out.parts }

abbrev pub ghosts-read_in_threads-P-Ledger : goal.ghosts-read_in_threads-P-Ledger
ghosts-read_in_threads-P-Ledger g a = record { name = a.blanks.posts.name; parts = a.blanks.posts.parts }

abbrev pub ghosts-read_in_threads-S-Ledger : goal.ghosts-read_in_threads-S-Ledger
ghosts-read_in_threads-S-Ledger g a = record { name = a.blanks.seats.name; parts = a.blanks.seats.parts }

abbrev pub ghosts-read_in_threads-R-Ledger : goal.ghosts-read_in_threads-R-Ledger
ghosts-read_in_threads-R-Ledger g a = record { name = a.blanks.running.name; parts = a.blanks.running.parts }

abbrev pub ghosts-read_in_threads-C-Ledger : goal.ghosts-read_in_threads-C-Ledger
ghosts-read_in_threads-C-Ledger g a = record { name = a.blanks.clean.name; parts = a.blanks.clean.parts }
