-- What was put is changed where it stands.
use Rattle.std.proofs.Common.{arith}
use Rattle.std.specs.Prelude.{slice_range}
use Rattle.pl_verbatim.proofs.SwapLaws.{swap-front}
use Rattle.pl_verbatim.proofs.swapped.put_swapped.Goals as goal

pub returns-clause-text : goal.returns-clause-text
returns-clause-text c =
    swap-front c.args.old c.args.new c.args.place c.put_part-end.result c.args.out.now c.put_part-end.new.out c.swap.new.bytes (slice_range c.args.text.now c.args.from c.args.to) c.requires.place
    (omega (arith, c.put_part-end.ensures.end, c.if-to-from.false, c.if-room-lt-ROOM.false, c.requires.place, c.requires.ordered)) c.put_part-end.ensures.text c.swap.ensures
