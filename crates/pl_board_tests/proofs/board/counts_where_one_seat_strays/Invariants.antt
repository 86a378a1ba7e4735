use Rattle.pl_board_tests.proofs.board.counts_where_one_seat_strays.Given as goal

abbrev pub ghosts-one_seat_strays-T-Task : goal.ghosts-one_seat_strays-T-Task
ghosts-one_seat_strays-T-Task g a = record { setup = a.state.setup }

abbrev pub ghosts-one_seat_strays-T-Ledger : goal.ghosts-one_seat_strays-T-Ledger
ghosts-one_seat_strays-T-Ledger g a = record { name = a.blanks.handed_out.name; parts = a.blanks.handed_out.parts }

abbrev pub ghosts-one_seat_strays-P-Ledger : goal.ghosts-one_seat_strays-P-Ledger
ghosts-one_seat_strays-P-Ledger g a = record { name = a.blanks.posts.name; parts = a.blanks.posts.parts }

abbrev pub ghosts-one_seat_strays-S-Ledger : goal.ghosts-one_seat_strays-S-Ledger
ghosts-one_seat_strays-S-Ledger g a = record { name = a.blanks.seats.name; parts = a.blanks.seats.parts }

abbrev pub ghosts-one_seat_strays-R-Ledger : goal.ghosts-one_seat_strays-R-Ledger
ghosts-one_seat_strays-R-Ledger g a = record { name = a.blanks.running.name; parts = a.blanks.running.parts }

abbrev pub ghosts-one_seat_strays-C-Ledger : goal.ghosts-one_seat_strays-C-Ledger
ghosts-one_seat_strays-C-Ledger g a = record { name = a.blanks.clean.name; parts = a.blanks.clean.parts }
