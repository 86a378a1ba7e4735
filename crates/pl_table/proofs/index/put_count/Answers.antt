use Rattle.std.proofs.Common.{arith}
use Rattle.pl_table.proofs.WrittenLaws.{put-count}
use Rattle.pl_table.proofs.index.put_count.Goals as goal

pub returns-clause-written : goal.returns-clause-written
returns-clause-written c want w = put-count want c.args.before c.args.ends c.args.out.now c.args.at _ c.args.bits (omega arith) (omega arith) c.count_through.ensures w
