use Rattle.std.proofs.Common.{sym, take, ◌/◌, ◌%◌, arith}
use Rattle.std.specs.Prelude.{decimal}
use Rattle.pl_text.specs.ValueText.{padded}
use Rattle.pl_write.proofs.PutLaws.{put-both}
use Rattle.pl_write.proofs.WordLaws.{decimal-onto_eight}
use Rattle.pl_write.proofs.put_wholes.put_middle.Goals as goal

pub returns-clause-text : goal.returns-clause-text
returns-clause-text c =
    let n = c.args.n in
    put-both (take c.args.at c.args.to.now) (take c.put_short-middle.result c.put_short-middle.new.to) (take c.put_eight.result c.put_eight.new.to)
    (decimal (n / 100000000)) (padded 8 (n % 100000000)) (decimal n)
    c.put_short-middle.ensures.text c.put_eight.ensures.text
    (sym (decimal-onto_eight n (omega arith) c.requires.low))
