use Rattle.std.proofs.Common.{◌+◌, arith}
use Rattle.std.specs.List.{slice_range}
use Rattle.pl_verbatim.proofs.TextLaws.{front-bare, bare-written}
use Rattle.pl_verbatim.proofs.texts.text_end.Goals as goal

pub returns-then-text-at-lt128-clause-written : goal.returns-then-text-at-lt128-clause-written
returns-then-text-at-lt128-clause-written c =
    bare-written c.args.separator c.args.quote (slice_range c.args.text.now c.args.at (c.args.at + c.count_before_stop-count.result))
    (front-bare c.args.separator c.args.quote c.args.text.now c.args.at 32 c.count_before_stop-count.result (omega arith) c.count_before_stop-count.ensures c.if-count-gt0.true c.if-count-lt32.true)
