use Rattle.std.proofs.Common.{arith}
use Rattle.std.proofs.lemmas.List.{length-take-le}
use Rattle.pl_write.proofs.PutLaws.{put-first}
use Rattle.pl_write.proofs.put_lines.put_start.Goals as goal

pub put_bytes-requires : goal.put_bytes-requires
put_bytes-requires c = record { room = omega (arith, length-take-le 64 c.args.buffer.now (omega arith)) }

pub returns-then-to-at-ge-SHORT-clause-text : goal.returns-then-to-at-ge-SHORT-clause-text
returns-then-to-at-ge-SHORT-clause-text c =
    put-first c.args.to.now c.args.buffer.now c.put_bytes.new.to c.args.at 64 c.args.count c.put_bytes.result
    (omega arith) (omega arith) (omega arith) c.put_bytes.ensures.end c.put_bytes.ensures.text
