-- What is written as it stands waits, and behind what is put nothing does.
use Rattle.std.proofs.Common.{take, arith}
use Rattle.pl_verbatim.proofs.SwapLaws.{cell-waits, lacks-slice, not-opened}
use Rattle.pl_verbatim.proofs.swapped.swap_cell.Goals as goal

pub returns-then-end-other-clause-put : goal.returns-then-end-other-clause-put
returns-then-end-other-clause-put g c =
    let text = c.args.text.now in
    let at = c.args.now.at in
    let end = c.in-Some.end in
    let one = c.in-Some.ensures in
    cell-waits text c.args.now.from at end c.pass-at.result c.args.kind c.args.mark c.args.separator c.args.quote c.args.form.now (take c.args.now.place c.args.out.now) c.requires.swap c.requires.ordered one.after one.within
    one.mark c.pass-at.ensures (not-opened text at end c.args.quote (omega (arith, c.if-at-text.false)) c.if-text-at.true) (lacks-slice c.args.form.now.separator text at c.args.other end c.requires.none c.if-end-other.true) one.cell
