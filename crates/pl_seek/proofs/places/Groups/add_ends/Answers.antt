use Rattle.std.proofs.Common.{◌+◌, refl, arith}
use Rattle.pl_scan.specs.Bits.{set_bits}
use Rattle.pl_scan.proofs.SetBitLaws.{length-set_bits}
use Rattle.pl_seek.proofs.SeenLaws.{seen-rest}
use Rattle.pl_seek.proofs.places.Groups.add_ends.Goals as goal

pub returns-clause-seen : goal.returns-clause-seen
returns-clause-seen c = λ seen has.
    let size = length-set_bits 64 (c.args.at + 1) c.args.bits (omega arith) in
    seen-rest (set_bits 64 (c.args.at + 1) c.args.bits) c.args.self.now _ seen has refl refl (omega (arith, size)) (omega (arith, size)) (omega (arith, size))
