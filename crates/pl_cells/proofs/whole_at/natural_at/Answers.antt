use Rattle.std.proofs.Common.{drop}
use Rattle.pl_cells.proofs.PlacedLaws.{strip_digits}
use Rattle.pl_cells.proofs.whole_at.natural_at.Goals as goal

pub returns-then-number-high-clause-back : goal.returns-then-number-high-clause-back
returns-then-number-high-clause-back c = strip_digits (drop c.args.start c.args.upto.now) c.in_ok-number.ensures.digits
