use Rattle.pl_cells.proofs.QuotingLaws.{undouble-none}
use Rattle.pl_cells.proofs.text_buffer.holds_no_quote.Goals as goal

pub returns-in-None : goal.returns-in-None
returns-in-None c = λ _. undouble-none c.args.quote c.args.text.now c.in-None.ensures
