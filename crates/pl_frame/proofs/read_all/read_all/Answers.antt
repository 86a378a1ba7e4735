use Rattle.std.proofs.Common.{arith, ◌++◌, take, length-append}
use Rattle.pl_frame.proofs.Known.{Consumes-append}
use Rattle.pl_frame.proofs.read_all.read_all.Goals as goal

pub returns-then-count-limit-clause-too_long : goal.returns-then-count-limit-clause-too_long
returns-then-count-limit-clause-too_long g c = λ _.
    let came = take c.in-Ok.count c.read.new.buf in
    let all = c.loop-count.all.items in
    (all ++ came, Consumes-append _ _ _ all came c.loop-count.invariant.came c.in-Ok.ensures.bytes.0, omega (arith, length-append all came, c.in-Ok.ensures.bound.1, c.loop-count.all.ok.0))

pub returns-then-is_err-clause-wanted : goal.returns-then-is_err-clause-wanted
returns-then-is_err-clause-wanted g c = λ _.
    let came = take c.in-Ok.count c.read.new.buf in
    let all = c.loop-count.all.items in
    (all ++ came, Consumes-append _ _ _ all came c.loop-count.invariant.came c.in-Ok.ensures.bytes.0, omega (arith, length-append all came, c.in-Ok.ensures.bound.1, c.loop-count.all.ok.0))
