use Rattle.pl_read.proofs.ArrivingLaws.{IsLinkedOn-back}
use Rattle.pl_read.proofs.linked.link_on.Goals as goal

pub returns : goal.returns
returns c = λ before linked.
    IsLinkedOn-back c.args.plan.now c.args.schema.now _ c.in_ok-left.left.items c.args.intake.now c.put_back.new.self c.link_behind.new.linked (c.in_ok-left.ensures before linked) c.in_ok-put_back.ensures.rest
    c.in_ok-put_back.ensures.size c.in_ok-put_back.ensures.ended
