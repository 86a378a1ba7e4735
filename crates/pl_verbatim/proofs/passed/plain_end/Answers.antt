-- No mark stands before the first that is found.
use Rattle.std.proofs.Common.{arith}
use Rattle.pl_verbatim.proofs.PassedLaws.{plain-front, plain-next, next-within}
use Rattle.pl_verbatim.proofs.passed.plain_end.Goals as goal

pub returns-then-text-at-eq10-clause-plain : goal.returns-then-text-at-eq10-clause-plain
returns-then-text-at-eq10-clause-plain c =
    plain-front c.args.separator c.args.quote c.args.text.now c.args.at c.count_before_stop-count.result (omega (arith, c.if-text-at-ge32.true)) c.count_before_stop-count.ensures c.if-count-lt32.true

pub returns-clause-within : goal.returns-clause-within
returns-clause-within c = next-within c.args.separator c.args.text.now c.args.at c.in_ok-count.count c.requires.inside c.in_ok-count.ensures

pub returns-clause-plain : goal.returns-clause-plain
returns-clause-plain c = plain-next c.args.separator c.args.quote c.args.text.now c.args.at c.in_ok-count.count c.in_ok-count.ensures
