use Rattle.std.proofs.Common.{map}
use Rattle.std.specs.List.{concat}
use Rattle.pl_regions.proofs.ArrivingLaws.{own-pushed}
use Rattle.pl_regions.proofs.kept.append_own.Goals as goal

pub loop-text-preserved : goal.loop-text-preserved
loop-text-preserved c =
    own-pushed c.loop-text.lines.items c.push.new.self.items (concat (map (λ text. text.items) c.args.lines.now.items)) c.loop-text.yielded c.in-Some.text c.in_ok-own.own c.loop-text.invariant c.in_ok-push.ensures.items
    (c.in_ok-own.ensures.items_if_clones_equal (λ x y same. same))
