use Rattle.pl_scan.proofs.PrefixLaws.{prefix}
use Rattle.pl_scan.proofs.masks.prefix_xor.Goals as goal

pub returns : goal.returns
returns c = prefix c.args.x
