use Rattle.std.proofs.Common.{◌≡◌, ◌∙◌, drop, ap, sym}
use Rattle.pl_cells.specs.Integers.{is_digits}
use Rattle.pl_cells.specs.Quoting.{strip}
use Rattle.pl_cells.proofs.DateAtLaws.{any_some}
use Rattle.pl_cells.proofs.PlacedLaws.{strip_whole}
use Rattle.pl_cells.proofs.whole_at.signed_at.Goals as goal

pub returns-clause-back : goal.returns-clause-back
returns-clause-back c =
    let text = drop c.args.start c.args.upto.now in
    any_some c.only_between.result (strip text ≡ text) (strip_whole text (ap is_digits (sym c.digits_from-negative.ensures.digits) ∙ c.in_ok-number_at.ensures.digits))
