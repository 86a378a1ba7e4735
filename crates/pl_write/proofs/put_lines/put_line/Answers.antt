use Rattle.std.proofs.Common.{◌∙◌, ap, take}
use Rattle.pl_write.proofs.PutLaws.{put-kept, none_map}
use Rattle.pl_write.proofs.put_lines.put_line.Goals as goal

pub returns-in-Some-clause-kept : goal.returns-in-Some-clause-kept
returns-in-Some-clause-kept c =
    none_map c.put_terminator.result
    (λ same. ap (take c.args.at) same ∙ put-kept c.args.to.now c.put_start.new.to (take c.args.count c.args.buffer.now) c.args.at c.in-Some.end c.requires.at c.in-Some.ensures.within c.in-Some.ensures.text)
    c.put_terminator.ensures.unchanged
