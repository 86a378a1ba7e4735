-- No rows are found as they stand where more than nulls is written otherwise, or some columns are not read.
use Rattle.pl_verbatim.proofs.PrintingLaws.{IsFrontPrinted-none}
use Rattle.pl_verbatim.proofs.verbatim.Verbatim.front.Goals as goal

pub returns-else-self : goal.returns-else-self
returns-else-self c = λ plan schema o can is. IsFrontPrinted-none plan schema o c.args.text.now
