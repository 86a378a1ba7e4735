use Rattle.std.proofs.Common.{ap₂, ◌∙◌}
use Rattle.pl_scan.specs.Bits.{xor}
use Rattle.pl_scan.proofs.BitLaws.{test-xor, spread, test-spread}
use Rattle.pl_scan.proofs.masks.odd_through.Goals as goal

pub returns : goal.returns
returns c i h = test-xor c.prefix_xor.result (spread c.args.odd) i ∙ ap₂ xor (c.prefix_xor.ensures i h) (test-spread c.args.odd i h)
