use Rattle.std.proofs.Common.{◌/◌, ◌%◌, take}
use Rattle.pl_text.specs.ValueText.{padded}
use Rattle.pl_write.proofs.PutLaws.{put-three}
use Rattle.pl_write.proofs.put_times.put_clock.Goals as goal

pub returns-clause-text : goal.returns-clause-text
returns-clause-text c =
    put-three (take c.args.at c.args.to.now) (take c.put_two-hour_end.result c.put_two-hour_end.new.to) (take c.put_byte-minute_begin.result c.put_byte-minute_begin.new.to)
    (take c.put_two-minute_end.result c.put_two-minute_end.new.to) (take c.put_byte-second_begin.result c.put_byte-second_begin.new.to) (take c.put_two.result c.put_two.new.to)
    (padded 2 (c.args.second / 3600)) (padded 2 (c.args.second / 60 % 60)) (padded 2 (c.args.second % 60)) 58 58
    c.put_two-hour_end.ensures.text c.put_byte-minute_begin.ensures.text c.put_two-minute_end.ensures.text c.put_byte-second_begin.ensures.text c.put_two.ensures.text
