use Rattle.std.proofs.Common.{arith}
use Rattle.pl_csv_c.proofs.ArrayLaws.{cut_part}
use Rattle.pl_csv_c.proofs.put_texts.put_part.Goals as goal

pub returns : goal.returns
returns c =
    cut_part c.args.buffer.now c.args.bytes.now.items c.extend_from_slice-2.new.self.items _ c.args.begin c.args.end 32 _ (omega arith) (omega arith) c.in_ok-extend_from_slice.ensures.items
    (omega (arith, c.len.ensures)) c.truncate.ensures.items
