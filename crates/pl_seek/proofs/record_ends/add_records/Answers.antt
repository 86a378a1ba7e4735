use Rattle.std.proofs.Common.{arith, refl}
use Rattle.pl_scan.specs.Dialect.{marks_of}
use Rattle.pl_seek.proofs.GoneLaws.{on-none, on-block, on-end, few-seen}
use Rattle.pl_seek.proofs.record_ends.add_records.Goals as goal

pub loop-at-init : goal.loop-at-init
loop-at-init c = on-none (marks_of c.args.dialect.now) c.args.input.now c.args.groups.now c.args.begin _ c.requires.within (record { odd = refl; fresh = λ e. refl })

pub overflow_add-at : goal.overflow_add-at
overflow_add-at c = omega (arith, c.loop-at.invariant.within)

pub returns-in_default-clause-gone : goal.returns-in_default-clause-gone
returns-in_default-clause-gone c =
    on-end (marks_of c.args.dialect.now) c.args.input.now c.args.groups.now c.loop-at.groups c.args.begin c.loop-at.last c.loop-at.at c.loop-at.carry c.loop-at.invariant

pub returns-in_default-clause-within : goal.returns-in_default-clause-within
returns-in_default-clause-within c = (c.loop-at.invariant.behind, omega (arith, c.loop-at.invariant.order, c.loop-at.invariant.within))

pub returns-in_default-clause-every : goal.returns-in_default-clause-every
returns-in_default-clause-every c = c.loop-at.invariant.every

pub add_ends-requires-clause-some : goal.add_ends-requires-clause-some
add_ends-requires-clause-some c = omega (arith, c.loop-at.invariant.every, c.requires.gone.1.has.every)

pub add_ends-requires-clause-few : goal.add_ends-requires-clause-few
add_ends-requires-clause-few c =
    let so = c.loop-at.invariant.gone c.requires.gone.0 c.requires.gone.1 in
    omega (arith, few-seen (marks_of c.args.dialect.now) c.args.input.now c.loop-at.groups c.requires.gone.0 so.stand c.loop-at.at so.gone)

pub loop-at-preserved : goal.loop-at-preserved
loop-at-preserved c =
    on-block (marks_of c.args.dialect.now) c.args.input.now c.args.groups.now c.loop-at.groups c.add_ends.new.self c.args.begin c.loop-at.last c.loop-at.at c.behind_last-last.result c.loop-at.carry c.in-Some.found
    (omega arith) c.in_ok-add_ends.ensures.every c.in-Some.ensures c.in_ok-add_ends.ensures.seen c.behind_last-last.ensures.value c.behind_last-last.ensures.between c.loop-at.invariant

pub returns-clause-gone : goal.returns-clause-gone
returns-clause-gone c =
    on-end (marks_of c.args.dialect.now) c.args.input.now c.args.groups.now c.loop-at.groups c.args.begin c.loop-at.last c.loop-at.at c.loop-at.carry c.loop-at.invariant

pub returns-clause-within : goal.returns-clause-within
returns-clause-within c = (c.loop-at.invariant.behind, omega (arith, c.loop-at.invariant.order, c.loop-at.invariant.within))

pub returns-clause-every : goal.returns-clause-every
returns-clause-every c = c.loop-at.invariant.every
