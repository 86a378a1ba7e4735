use Rattle.pl_scan.specs.Dialect.{marks_of, comment_of}
use Rattle.pl_board.proofs.LineStateLaws.{IsUpTo}
use Rattle.pl_board.proofs.line_states.states_in_order.Given as goal

abbrev pub invariant-loop-number : goal.invariant-loop-number
invariant-loop-number g l = IsUpTo (marks_of l.dialect) (comment_of l.dialect) l.ends l.bytes l.number l.from l.state l.states.items
