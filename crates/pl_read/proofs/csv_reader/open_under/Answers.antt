use Rattle.std.proofs.Common.{inr, subst}
use Rattle.std.specs.Prelude.{IfOk, IfErr}
use Rattle.pl_options.specs.declared.read_options.CsvReadOptions.{CsvReadOptions}
use Rattle.pl_read.specs.Batches.{IsOpened}
use Rattle.pl_read.specs.BatchSteps.{IsOpeningFaultOf}
use Rattle.pl_read.proofs.csv_reader.open_under.Goals as goal

pub returns-in-Err-clause-refused : goal.returns-in-Err-clause-refused
returns-in-Err-clause-refused c = inr c.in-Err.ensures.refused

pub returns-clause-opened : goal.returns-clause-opened
returns-clause-opened c = subst (λ (o : CsvReadOptions). IfOk c.open.result (IsOpened o c.args.bytes.items)) c.in-Ok.ensures.options c.open.ensures.opened

pub returns-clause-refused : goal.returns-clause-refused
returns-clause-refused c = subst (λ (o : CsvReadOptions). IfErr c.open.result (IsOpeningFaultOf o c.args.bytes.items)) c.in-Ok.ensures.options c.open.ensures.refused
