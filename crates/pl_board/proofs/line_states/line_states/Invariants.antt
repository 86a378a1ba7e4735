use Rattle.pl_frame.specs.Dialect.{marks}
use Rattle.pl_scan.specs.Comment.{prefix_of}
use Rattle.pl_board.specs.LineStates.{front_setup}
use Rattle.pl_board.proofs.line_states.line_states.Given as goal

abbrev pub ghosts-states_alone : goal.ghosts-states_alone
ghosts-states_alone g a = record { text = a.bytes.now; marks = marks a.dialect.now.separator a.dialect.now.quote_char a.dialect.now.eol_char; comment = prefix_of a.dialect.now.comment_prefix }

abbrev pub ghosts-states_by_workers-K-Scanning : goal.ghosts-states_by_workers-K-Scanning
ghosts-states_by_workers-K-Scanning g a = record { text = a.bytes.now; marks = marks a.dialect.now.separator a.dialect.now.quote_char a.dialect.now.eol_char; comment = prefix_of a.dialect.now.comment_prefix }

abbrev pub ghosts-states_by_workers-T-Task : goal.ghosts-states_by_workers-T-Task
ghosts-states_by_workers-T-Task g a = record { setup = front_setup a.ends.now a.bytes.now }

abbrev pub ghosts-states_by_workers-T-Ledger : goal.ghosts-states_by_workers-T-Ledger
ghosts-states_by_workers-T-Ledger g a = record { name = a.blanks.handed_out.name; parts = a.blanks.handed_out.parts }

abbrev pub ghosts-states_by_workers-P-Ledger : goal.ghosts-states_by_workers-P-Ledger
ghosts-states_by_workers-P-Ledger g a = record { name = a.blanks.posts.name; parts = a.blanks.posts.parts }

abbrev pub ghosts-states_by_workers-S-Ledger : goal.ghosts-states_by_workers-S-Ledger
ghosts-states_by_workers-S-Ledger g a = record { name = a.blanks.seats.name; parts = a.blanks.seats.parts }

abbrev pub ghosts-states_by_workers-R-Ledger : goal.ghosts-states_by_workers-R-Ledger
ghosts-states_by_workers-R-Ledger g a = record { name = a.blanks.running.name; parts = a.blanks.running.parts }

abbrev pub ghosts-states_by_workers-C-Ledger : goal.ghosts-states_by_workers-C-Ledger
ghosts-states_by_workers-C-Ledger g a = record { name = a.blanks.clean.name; parts = a.blanks.clean.parts }
