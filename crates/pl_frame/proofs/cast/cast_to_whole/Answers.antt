use Rattle.std.proofs.Common.{◌∙◌, sym}
use Rattle.pl_frame.specs.Types.{from_to}
use Rattle.pl_frame.proofs.CastLaws.{numbers_cast, held_as}
use Rattle.pl_frame.proofs.cast.cast_to_whole.Goals as goal

pub from_narrow-requires-clause-held : goal.from_narrow-requires-clause-held
from_narrow-requires-clause-held c =
    held_as c.args.to.now c.in_ok-dtype.dtype c.args.column.now.values _ c.in_ok-dtype.ensures.equal
    (numbers_cast c.args.to.now (from_to c.number_range-range.result.low c.number_range-range.result.high) c.args.column.now.values c.in-Ok.numbers (sym c.number_range-range.ensures) c.in-Ok.ensures)

pub returns-then-is_narrow-clause-column : goal.returns-then-is_narrow-clause-column
returns-then-is_narrow-clause-column c =
    let cells = numbers_cast c.args.to.now (from_to c.number_range-range.result.low c.number_range-range.result.high) c.args.column.now.values c.in-Ok.numbers (sym c.number_range-range.ensures) c.in-Ok.ensures in
    c.from_narrow.ensures ∙ (λ j. record { name = (c.in_ok-name.ensures.copied ∙ c.name.ensures) j; dtype = c.in_ok-dtype.ensures.equal j; values = cells j })

pub from_wide-requires-clause-held : goal.from_wide-requires-clause-held
from_wide-requires-clause-held c =
    held_as c.args.to.now c.in_ok-dtype.dtype c.args.column.now.values _ c.in_ok-dtype.ensures.equal
    (numbers_cast c.args.to.now (from_to c.number_range-range.result.low c.number_range-range.result.high) c.args.column.now.values c.in-Ok-numbers_within.numbers (sym c.number_range-range.ensures) c.in-Ok-numbers_within.ensures)

pub returns-in-Ok-numbers_within-clause-column : goal.returns-in-Ok-numbers_within-clause-column
returns-in-Ok-numbers_within-clause-column c =
    let cells = numbers_cast c.args.to.now (from_to c.number_range-range.result.low c.number_range-range.result.high) c.args.column.now.values c.in-Ok-numbers_within.numbers (sym c.number_range-range.ensures) c.in-Ok-numbers_within.ensures in
    c.from_wide.ensures ∙ (λ j. record { name = (c.in_ok-name.ensures.copied ∙ c.name.ensures) j; dtype = c.in_ok-dtype.ensures.equal j; values = cells j })
