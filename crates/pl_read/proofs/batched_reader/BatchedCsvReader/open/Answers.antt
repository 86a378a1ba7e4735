use Rattle.pl_options.specs.ReaderBytes.{bytes_in}
use Rattle.pl_read.proofs.BatchStepLaws.{refused-options}
use Rattle.pl_read.proofs.batched_reader.BatchedCsvReader.open.Goals as goal

pub returns-in-Err-clause-refused : goal.returns-in-Err-clause-refused
returns-in-Err-clause-refused c = refused-options c.args.options (bytes_in c.args.bytes) c.in-Err.fault c.in-Err.ensures.refused
