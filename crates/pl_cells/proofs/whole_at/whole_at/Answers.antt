use Rattle.std.proofs.Common.{◌≡◌, drop}
use Rattle.pl_cells.specs.Quoting.{strip}
use Rattle.pl_cells.proofs.DateAtLaws.{any_some}
use Rattle.pl_cells.proofs.PlacedLaws.{strip_digits}
use Rattle.pl_cells.proofs.whole_at.whole_at.Goals as goal

pub returns-in-Some-clause-back : goal.returns-in-Some-clause-back
returns-in-Some-clause-back c =
    let text = drop c.args.start c.args.upto.now in
    any_some c.only_between.result (strip text ≡ text) (strip_digits text c.in-Some.ensures.digits)
