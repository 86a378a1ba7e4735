use Rattle.std.proofs.Common.{arith, sym, ◌∙◌}
use Rattle.pl_options.specs.ReaderBytes.{bytes_in}
use Rattle.pl_read.proofs.BatchStepLaws.{step-fits, step-may, step-batches}
use Rattle.pl_read.proofs.batched_reader.BatchedCsvReader.next_batches.Goals as goal

pub overflow_add-self-in-Ok : goal.overflow_add-self-in-Ok
overflow_add-self-in-Ok g c =
    let it = c.self.inside in
    let fits = step-fits it.options (bytes_in it.bytes) it.prepared it.at it.rows c.args.n it.fault c.in-Ok.next c.args.self.now c.in_default.is c.self.view_is c.self.invariant (sym c.is_over.ensures ∙ c.if-is_over.false) c.in-Ok.ensures.next in
    omega (arith, fits)

pub invariant_of-self : goal.invariant_of-self
invariant_of-self g c =
    let it = c.self.inside in
    step-may it.options (bytes_in it.bytes) it.prepared it.at it.rows c.args.n it.fault c.in-Ok.next c.args.self.now c.in_default.is c.self.view_is c.self.invariant (sym c.is_over.ensures ∙ c.if-is_over.false) c.in-Ok.ensures.next

pub returns-in-Ok-clause-batches : goal.returns-in-Ok-clause-batches
returns-in-Ok-clause-batches g c =
    let it = c.self.inside in
    step-batches it.options (bytes_in it.bytes) it.prepared it.at it.rows c.args.n it.fault c.in-Ok.next c.args.self.now c.in_default.is c.self.view_is c.self.invariant (sym c.is_over.ensures ∙ c.if-is_over.false) c.in-Ok.ensures.next

pub returns-in-Ok-clause-stands : goal.returns-in-Ok-clause-stands
returns-in-Ok-clause-stands g c =
    let it = c.self.inside in
    (step-may it.options (bytes_in it.bytes) it.prepared it.at it.rows c.args.n it.fault c.in-Ok.next c.args.self.now c.in_default.is c.self.view_is c.self.invariant (sym c.is_over.ensures ∙ c.if-is_over.false) c.in-Ok.ensures.next).stands
