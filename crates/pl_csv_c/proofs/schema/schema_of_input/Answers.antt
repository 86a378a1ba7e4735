use Rattle.pl_read.proofs.BatchStepLaws.{refused-options}
use Rattle.std.proofs.Common.{inl}
use Rattle.pl_csv_c.proofs.schema.schema_of_input.Goals as goal

pub returns-in-Err-clause-refused : goal.returns-in-Err-clause-refused
returns-in-Err-clause-refused c = inl (refused-options c.args.read.now c.args.input.now c.in-Err.fault c.in-Err.ensures.refused)
