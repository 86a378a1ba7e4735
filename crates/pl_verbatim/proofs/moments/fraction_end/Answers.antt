use Rattle.std.proofs.Common.{ℕ, ◌+◌, ◌<◌, arith}
use Rattle.std.specs.List.{slice_range}
use Rattle.pl_verbatim.specs.CellTexts.{IsSecondsText}
use Rattle.pl_verbatim.proofs.NumberLaws.{DigitsAt, digits-at}
use Rattle.pl_verbatim.proofs.MomentTextLaws.{moment-at}
use Rattle.pl_verbatim.proofs.moments.fraction_end.Goals as goal
use Rattle.pl_verbatim.proofs.moments.fraction_end.Goals.{Then-end-point}

digits : (c : Then-end-point) → DigitsAt c.args.text.now (c.args.point + 1) c.digits_end-end.result
digits c = digits-at c.args.text.now (c.args.point + 1) c.digits_end-end.result (omega (arith, c.if-point-text.false)) c.digits_end-end.ensures

pub returns-then-end-point-clause-within : goal.returns-then-end-point-clause-within
returns-then-end-point-clause-within c = (digits c).inside

pub returns-then-end-point-clause-moment : goal.returns-then-end-point-clause-moment
returns-then-end-point-clause-moment c =
    λ (at : ℕ) (after : at < c.args.point) (seconds : IsSecondsText (slice_range c.args.text.now at c.args.point)).
    moment-at c.args.places c.args.text.now at c.args.point c.digits_end-end.result c.requires.places.0 c.requires.places.1 after c.if-point-text.false
    c.if-text-point-ne46.false (digits c) (omega (arith, c.if-end-point.true)) seconds
