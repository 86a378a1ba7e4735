use Rattle.std.proofs.Common.{rules, arith, length, ◌+◌, ◌<◌, ◌^◌}
use Rattle.pl_seek.proofs.PartLaws.{dialect-given}
use Rattle.pl_stream.proofs.WholeItemLaws.{front-few}
use Rattle.pl_stream.proofs.stepping.settle_records.Goals as goal

pub overflow_add-rows : goal.overflow_add-rows
overflow_add-rows c =
    let o = c.args.read.now in
    let front = c.in-Ok.ensures.settled.front in
    let room : c.args.rows + length c.args.records.now < 2 ^ 64 = search rules in
    omega (arith, room, front-few o.parse_options c.args.records.now c.in-Ok.whole (dialect-given o c.requires.can.sound) front, front.within)
