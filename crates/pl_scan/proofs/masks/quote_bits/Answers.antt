use Rattle.pl_scan.proofs.BitLaws.{test-none}
use Rattle.pl_scan.proofs.masks.quote_bits.Goals as goal

pub returns-in-None : goal.returns-in-None
returns-in-None c i h = rw c.in-None.is (test-none i)
