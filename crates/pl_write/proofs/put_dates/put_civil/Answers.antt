use Rattle.std.proofs.Common.{take}
use Rattle.pl_text.specs.ValueText.{padded}
use Rattle.pl_write.proofs.PutLaws.{put-three}
use Rattle.pl_write.proofs.put_dates.put_civil.Goals as goal

pub returns-clause-text : goal.returns-clause-text
returns-clause-text c =
    put-three (take c.args.at c.args.to.now) (take c.put_four-year_end.result c.put_four-year_end.new.to) (take c.put_byte-month_begin.result c.put_byte-month_begin.new.to)
    (take c.put_two-month_end.result c.put_two-month_end.new.to) (take c.put_byte-day_begin.result c.put_byte-day_begin.new.to) (take c.put_two.result c.put_two.new.to)
    (padded 4 c.args.year) (padded 2 c.args.month) (padded 2 c.args.day) 45 45
    c.put_four-year_end.ensures.text c.put_byte-month_begin.ensures.text c.put_two-month_end.ensures.text c.put_byte-day_begin.ensures.text c.put_two.ensures.text
