use Rattle.std.proofs.Common.{length, drop, sym, ap, subst, arith}
use Rattle.pl_options.specs.ReaderBytes.{bytes_in}
use Rattle.pl_read.specs.Steps.{CanReadData}
use Rattle.pl_read.proofs.BatchStepLaws.{rows-fit, rest-is, rest-fewer}
use Rattle.pl_read.proofs.PreparingLaws.{can-read}
use Rattle.pl_read.proofs.batched_reader.BatchedCsvReader.read_next.Goals as goal

pub next_frames-requires-clause-can : goal.next_frames-requires-clause-can
next_frames-requires-clause-can g c κs within =
    let it = c.self.inside in
    let input = bytes_in it.bytes in
    subst (CanReadData c.plan_of-plan.result it.options it.prepared.schema) (sym (rest-is it.at c.bytes.result.now input c.bytes.ensures))
    (can-read it.options input (drop it.at input) it.prepared c.plan_of-plan.result c.self.invariant.allowed c.self.invariant.prepared_is c.plan_of-plan.ensures.plan c.plan_of-plan.ensures.nulls c.plan_of-plan.ensures.distinct
    (rest-fewer it.options input it.prepared it.at it.rows it.fault c.self.invariant))

pub next_frames-requires-clause-fits : goal.next_frames-requires-clause-fits
next_frames-requires-clause-fits g c κs within =
    let it = c.self.inside in
    let input = bytes_in it.bytes in
    let same = rest-is it.at c.bytes.result.now input c.bytes.ensures in
    let few = rows-fit it.options input it.prepared it.at it.rows it.fault c.self.invariant in
    omega (arith, ap length same, few, c.self.invariant.fits)
