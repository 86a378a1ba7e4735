use Rattle.std.proofs.Common.{arith}
use Rattle.std.proofs.lemmas.Fmt.{decimal_nonempty, length-decimal-le}
use Rattle.pl_write.proofs.CountLaws.{few_bits, count-by_table}
use Rattle.pl_write.proofs.digit_counts.short_digit_count.Goals as goal

pub bounds-ilog2 : goal.bounds-ilog2
bounds-ilog2 c = few_bits c.args.n c.ilog2.result c.requires (omega (arith, c.max.ensures, c.ilog2.ensures.power_le))

pub overflow_add-result : goal.overflow_add-result
overflow_add-result c =
    let n = c.args.n in
    let counted = count-by_table n c.from.result c.ilog2.result c.from.ensures (omega (arith, c.max.ensures, c.ilog2.ensures.power_le)) (omega (arith, c.max.ensures, c.ilog2.ensures.next_power_gt)) c.requires in
    omega (arith, counted, length-decimal-le 8 n (omega arith) (omega arith) (omega arith))

pub returns-clause-count : goal.returns-clause-count
returns-clause-count c =
    count-by_table c.args.n c.from.result c.ilog2.result c.from.ensures (omega (arith, c.max.ensures, c.ilog2.ensures.power_le)) (omega (arith, c.max.ensures, c.ilog2.ensures.next_power_gt)) c.requires

pub returns-clause-some : goal.returns-clause-some
returns-clause-some c =
    let n = c.args.n in
    let counted = count-by_table n c.from.result c.ilog2.result c.from.ensures (omega (arith, c.max.ensures, c.ilog2.ensures.power_le)) (omega (arith, c.max.ensures, c.ilog2.ensures.next_power_gt)) c.requires in
    omega (arith, counted, decimal_nonempty n (omega arith))

pub returns-clause-few : goal.returns-clause-few
returns-clause-few c =
    let n = c.args.n in
    let counted = count-by_table n c.from.result c.ilog2.result c.from.ensures (omega (arith, c.max.ensures, c.ilog2.ensures.power_le)) (omega (arith, c.max.ensures, c.ilog2.ensures.next_power_gt)) c.requires in
    omega (arith, counted, length-decimal-le 8 n (omega arith) (omega arith) (omega arith))
