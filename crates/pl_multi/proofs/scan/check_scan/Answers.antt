use Rattle.std.proofs.Common.{inl, sym, ◌∙◌, subst}
use Rattle.pl_multi.specs.Joining.{IsEarlyFault}
use Rattle.pl_multi.proofs.ScanLaws.{early-wrong, some-cause, given-cause, read-fault}
use Rattle.pl_multi.proofs.scan.check_scan.Goals as goal

pub returns-then-is_wrong-clause-refused : goal.returns-then-is_wrong-clause-refused
returns-then-is_wrong-clause-refused c =
    let o = c.args.read.now in
    let first = some-cause o c.check_options-checked.result c.check_options-checked.ensures.passed c.check_options-checked.ensures.refused in
    inl (first.0, first.1, early-wrong o c.args.slice c.args.parts.now first.0 (sym c.is_wrong.ensures ∙ c.if-is_wrong.true))

pub returns-in-Err-clause-refused : goal.returns-in-Err-clause-refused
returns-in-Err-clause-refused c =
    let o = c.args.read.now in
    subst (IsEarlyFault o c.args.slice c.args.parts.now) (sym c.read_fault.ensures)
    (read-fault o c.args.slice c.args.parts.now (sym c.is_wrong.ensures ∙ c.if-is_wrong.false) c.in-Err.fault (given-cause o c.in-Err.fault c.in-Err.ensures.refused))
