use Rattle.std.proofs.Common.{rules}
use Rattle.pl_stream.proofs.HeadLaws.{reach_ends, reach_all}
use Rattle.pl_stream.proofs.head.pass_ends.Goals as goal

pub returns-then-at-bytes-clause-reached : goal.returns-then-at-bytes-clause-reached
returns-then-at-bytes-clause-reached c = reach_ends c.args.options.now c.count_ends-at.result c.args.bytes.now (search rules) c.count_ends-at.ensures.count (search rules)

pub returns-clause-reached : goal.returns-clause-reached
returns-clause-reached c = reach_all c.args.options.now c.count_ends-at.result c.args.bytes.now (search rules) c.count_ends-at.ensures.count (search rules)
