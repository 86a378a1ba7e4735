use Rattle.pl_table.proofs.PieceLaws.{rows-append}
use Rattle.pl_table.proofs.laws.closing_piece_ends_at_row_end.Goals as goal

pub returns : goal.returns
returns c = rows-append
