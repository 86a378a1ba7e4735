use Rattle.std.proofs.Common.{◌/◌, ◌%◌, take}
use Rattle.pl_text.specs.ValueText.{padded}
use Rattle.pl_write.proofs.PutLaws.{put-both}
use Rattle.pl_write.proofs.WordLaws.{padded-twice}
use Rattle.pl_write.proofs.put_dates.put_four.Goals as goal

pub returns-clause-text : goal.returns-clause-text
returns-clause-text c =
    let n = c.args.n in
    put-both (take c.args.at c.args.to.now) (take c.put_two-middle.result c.put_two-middle.new.to) (take c.put_two.result c.put_two.new.to)
    (padded 2 (n / 100)) (padded 2 (n % 100)) (padded 4 n) c.put_two-middle.ensures.text c.put_two.ensures.text (padded-twice n c.requires.small)
