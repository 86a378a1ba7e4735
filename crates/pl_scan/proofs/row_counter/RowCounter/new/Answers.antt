use Rattle.std.proofs.Common.{◌∙◌, zero-add}
use Rattle.pl_frame.specs.Dialect.{marks}
use Rattle.pl_scan.proofs.RowStateLaws.{rows-front}
use Rattle.pl_scan.proofs.row_counter.RowCounter.new.Goals as goal

pub returns-clause-rows : goal.returns-clause-rows
returns-clause-rows c = λ text. zero-add _ ∙ rows-front (marks c.args.separator c.args.quote_char c.args.eol_char) text
