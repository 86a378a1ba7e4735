use Rattle.std.proofs.Common.{◌≡◌, ◌+◌, subst, arith}
use Rattle.pl_scan.specs.Bits.{set_bits}
use Rattle.pl_table.specs.Entries.{Written}
use Rattle.pl_table.proofs.index.put_eight.Goals as goal

pub returns-clause-written : goal.returns-clause-written
returns-clause-written c want w =
    let e : c.args.at + 4 + 4 ≡ c.args.at + 8 = omega arith in
    subst (λ n. Written want c.put_four.new.out n (set_bits 64 c.args.base c.put_four.result) c.put_four.result) e
    (c.put_four.ensures.written want (c.put_four-rest.ensures.written want w))
