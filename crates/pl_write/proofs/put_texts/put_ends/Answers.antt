use Rattle.std.proofs.Common.{length, ◌-◌, arith}
use Rattle.pl_write.proofs.PutLaws.{put-ends}
use Rattle.pl_write.proofs.put_texts.put_ends.Goals as goal

pub returns-clause-text : goal.returns-clause-text
returns-clause-text c =
    let text = c.args.text.now in
    put-ends c.args.to.now text c.put_bytes.new.to c.put_bytes-2.new.to c.args.at c.args.count (length text - c.args.count) c.put_bytes.result c.put_bytes-2.result
    (omega arith) c.requires.long (omega arith) c.put_bytes.ensures.text c.put_bytes.ensures.end c.put_bytes-2.ensures.text
