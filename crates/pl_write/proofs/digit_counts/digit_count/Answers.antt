use Rattle.std.proofs.Common.{◌*◌, ◌^◌, ◌<◌, ◌≤◌, max, arith}
use Rattle.pl_write.proofs.DigitLaws.{digits_between}
use Rattle.pl_write.proofs.digit_counts.digit_count.Goals as goal

pub returns-clause-count : goal.returns-clause-count
returns-clause-count c =
    let k = c.ilog10.result in
    let low : 10 ^ k ≤ max c.args.n 1 = omega (arith, c.max.ensures, c.ilog10.ensures.power_le) in
    let high : max c.args.n 1 < 10 * 10 ^ k = omega (arith, c.max.ensures, c.ilog10.ensures.next_power_gt) in
    digits_between c.args.n k c.ranges.n.fits low high
