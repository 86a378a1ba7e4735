-- What stands between quotes is a copy of what stands with them.
use Rattle.std.proofs.Common.{arith}
use Rattle.pl_verbatim.proofs.CopyLaws.{inner-at}
use Rattle.pl_verbatim.proofs.copies.marked_inner_end.Goals as goal

pub returns-then-text-to-2-clause-copy : goal.returns-then-text-to-2-clause-copy
returns-then-text-to-2-clause-copy g c =
    inner-at c.args.separator c.args.quote c.args.kind c.args.text.now c.args.at c.in_ok-to.to (omega (arith, c.in_ok-to.ensures.after)) (omega (arith, c.if-to-text.true)) c.if-text-at.false c.if-text-to.true
    c.in_ok-to.ensures.copy
