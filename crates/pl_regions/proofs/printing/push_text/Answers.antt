use Rattle.pl_regions.proofs.RegionLaws.{text-pushed}
use Rattle.pl_regions.proofs.printing.push_text.Goals as goal

pub returns : goal.returns
returns c = text-pushed c.args.lines.now.items c.push.new.self.items _ c.in_ok-push.ensures.items
