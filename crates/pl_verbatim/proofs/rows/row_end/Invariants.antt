use Rattle.pl_verbatim.proofs.RowLaws.{AreCellsBefore}
use Rattle.pl_verbatim.proofs.rows.row_end.Given as goal

abbrev pub invariant-loop-index : goal.invariant-loop-index
invariant-loop-index l = AreCellsBefore l.text l.start l.kinds l.separator l.quote l.index l.at
