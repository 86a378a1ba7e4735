use Rattle.std.proofs.Common.{◌≡◌, ◌∙◌, sym, ap, subst}
use Rattle.pl_frame.specs.Frame.{IsFrame}
use Rattle.pl_multi.specs.Joining.{HasFreeName, IsEarlyFault}
use Rattle.pl_multi.specs.Scan.{no_rows}
use Rattle.pl_multi.proofs.RowsLaws.{frame-none}
use Rattle.pl_multi.proofs.ScanLaws.{early-fault}
use Rattle.pl_multi.proofs.printing.empty_frame.Goals as goal

pub returns-in-Err-clause-refused : goal.returns-in-Err-clause-refused
returns-in-Err-clause-refused c = λ holds before now.
    let job = c.args.job.now in
    early-fault holds before now job.read job.slice job.parts.items c.in-Err.fault
    (subst (λ parts. IsEarlyFault job.read job.slice parts c.in-Err.fault) c.deref.ensures.value c.in-Err.ensures.refused)

pub of_distinct-requires : goal.of_distinct-requires
of_distinct-requires c =
    let job = c.args.job.now in
    let are : c.in-Ok.stacks.items ≡ no_rows job.read job.parts.items = c.in-Ok.ensures.empty ∙ ap (no_rows job.read) c.deref.ensures.value in
    subst IsFrame (sym (c.in_ok-columns.ensures ∙ are))
    (frame-none job.read job.parts.items (subst (HasFreeName job.read.row_index) are c.in-Ok.ensures.free))
