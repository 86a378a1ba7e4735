use Rattle.std.proofs.Common.{◌≡◌, length, ◌+◌, arith, sym, ap, ◌∙◌}
use Rattle.std.proofs.lemmas.List.{length_push}
use Rattle.pl_seek.proofs.Numbers.{numbers_more, numbers_step}
use Rattle.pl_seek.proofs.reading.numbers_in.Goals as goal

pub numbers-preserved : goal.numbers-preserved
numbers-preserved c =
    let read = sym c.in-Some.ensures in
    let step = numbers_step c.numbers.rest.now c.in-Some.number c.in-Some.after.now read in
    let more = numbers_more c.numbers.numbers.items c.numbers.rest.now c.in-Some.number c.in-Some.after.now _ read c.numbers.invariant.0 in
    let len : length c.push_reserved.new.self.items ≡ length c.numbers.numbers.items + 1 = ap length c.push_reserved.ensures.items ∙ length_push c.numbers.numbers.items c.in-Some.number in
    (rw c.push_reserved.ensures.items more, omega (arith, len, c.push_reserved.ensures.capacity, step.1, c.numbers.invariant.1))
