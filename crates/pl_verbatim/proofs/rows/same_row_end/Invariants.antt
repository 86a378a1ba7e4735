use Rattle.pl_verbatim.proofs.SameLaws.{AreSameBefore}
use Rattle.pl_verbatim.proofs.rows.same_row_end.Given as goal

abbrev pub invariant-loop-index : goal.invariant-loop-index
invariant-loop-index l = AreSameBefore l.text l.start l.kinds l.separator l.quote l.form l.index l.at
