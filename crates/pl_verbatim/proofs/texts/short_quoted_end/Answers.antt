use Rattle.std.proofs.Common.{arith}
use Rattle.pl_verbatim.proofs.QuotedLaws.{bare-quoted}
use Rattle.pl_verbatim.proofs.texts.short_quoted_end.Goals as goal

pub returns-then-text-inner-2-clause-text : goal.returns-then-text-inner-2-clause-text
returns-then-text-inner-2-clause-text c =
    bare-quoted c.args.quote c.args.text.now c.args.at c.count_before_stop-count.result (omega (arith, c.if-text-inner-lt34.false)) c.count_before_stop-count.ensures c.if-count-gt0.true c.if-count-lt32.true c.requires.quote
    c.if-text-inner.true
