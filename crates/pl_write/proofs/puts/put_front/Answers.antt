use Rattle.std.proofs.Common.{◌≡◌, length, take, arith}
use Rattle.std.proofs.lemmas.List.{length-take-le}
use Rattle.pl_write.proofs.PutLaws.{put-front}
use Rattle.pl_write.proofs.puts.put_front.Goals as goal

pub returns-clause-text : goal.returns-clause-text
returns-clause-text c =
    let to = c.args.to.now in
    let at = c.args.at in
    let eight : length c.args.bytes ≡ 8 = omega arith in
    put-front (take at to) c.args.bytes c.put_bytes.new.to at 8 c.args.count (length-take-le at to (omega arith)) c.requires.few (rw (c.put_bytes.ensures.end, eight) at c.put_bytes.ensures.text)
