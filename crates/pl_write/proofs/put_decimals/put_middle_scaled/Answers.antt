use Rattle.std.proofs.Common.{◌+◌, ◌/◌, ◌%◌, take}
use Rattle.std.specs.Prelude.{decimal}
use Rattle.pl_text.specs.ValueText.{padded, point_text}
use Rattle.pl_write.proofs.PutLaws.{put-both}
use Rattle.pl_write.proofs.PointLaws.{point-onto_eight}
use Rattle.pl_write.proofs.put_decimals.put_middle_scaled.Goals as goal

pub returns-clause-text : goal.returns-clause-text
returns-clause-text c =
    let n = c.args.n in
    let scale = c.args.scale in
    put-both (take c.args.at c.args.to.now) (take c.put_short-middle.result c.put_short-middle.new.to) (take c.put_last.result c.put_last.new.to)
    (decimal (n / 100000000)) (point_text scale (padded 8 (n % 100000000))) (point_text scale (padded (scale + 1) n))
    c.put_short-middle.ensures.text c.put_last.ensures.text
    (point-onto_eight scale n c.requires.few c.requires.low c.requires.high)
