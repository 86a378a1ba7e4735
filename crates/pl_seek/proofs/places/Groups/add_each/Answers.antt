use Rattle.std.proofs.Common.{◌+◌, arith}
use Rattle.pl_seek.proofs.SeenLaws.{bits-none, bits-first, bits-more, bits-all}
use Rattle.pl_seek.proofs.places.Groups.add_each.Goals as goal

pub loop-left-init : goal.loop-left-init
loop-left-init c = bits-none c.args.self.now (c.args.at + 1) c.args.bits (omega arith)

pub add-requires-clause-some : goal.add-requires-clause-some
add-requires-clause-some c = omega (arith, c.loop-left.invariant.every, c.requires.some)

pub add-requires-clause-few : goal.add-requires-clause-few
add-requires-clause-few c = omega (arith, c.loop-left.invariant.few, c.requires.few, bits-first (c.args.at + 1) c.loop-left.left (omega arith) (omega arith))

pub loop-left-preserved : goal.loop-left-preserved
loop-left-preserved c =
    bits-more c.args.self.now c.loop-left.self c.add.new.self (c.args.at + 1) c.args.bits c.loop-left.left _ (omega arith) (omega arith) (omega arith) c.in_ok-add.ensures.every c.in_ok-add.ensures.counted
    c.in_ok-add.ensures.seen c.loop-left.invariant

pub returns-clause-seen : goal.returns-clause-seen
returns-clause-seen c = bits-all c.args.self.now c.loop-left.self (c.args.at + 1) c.args.bits c.loop-left.left (omega arith) c.loop-left.invariant

pub returns-clause-every : goal.returns-clause-every
returns-clause-every c = c.loop-left.invariant.every
