use Rattle.std.proofs.Common.{refl}
use Rattle.pl_regions.proofs.ArrivingLaws.{lent-pushed}
use Rattle.pl_regions.proofs.kept.front_of_kept.Goals as goal

pub loop-text-preserved : goal.loop-text-preserved
loop-text-preserved c = lent-pushed c.loop-text.lines.items c.push.new.self.items c.loop-text.yielded _ c.in-Some.text c.loop-text.invariant c.in_ok-push.ensures.items refl
