use Rattle.std.proofs.Common.{arith}
use Rattle.pl_verbatim.proofs.TextLaws.{front-bare}
use Rattle.pl_verbatim.proofs.texts.bare_text_end.Goals as goal

pub returns-then-text-at-lt128-clause-bare : goal.returns-then-text-at-lt128-clause-bare
returns-then-text-at-lt128-clause-bare c =
    front-bare c.args.separator c.args.quote c.args.text.now c.args.at 32 c.count_before_stop-count.result (omega arith) c.count_before_stop-count.ensures c.if-count-gt0.true c.if-count-lt32.true
