use Rattle.pl_verbatim.proofs.RowCopyLaws.{IsCopiedBefore}
use Rattle.pl_verbatim.proofs.rows.copy_row.Given as goal

abbrev pub invariant-loop-index : goal.invariant-loop-index
invariant-loop-index l = IsCopiedBefore l.text l.start l.kinds l.separator l.quote l.index l.from l.at l.fn.lines.items l.lines.items
