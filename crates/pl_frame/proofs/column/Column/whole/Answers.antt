use Rattle.std.proofs.Common.{sym, ◌∙◌, ap, position}
use Rattle.pl_frame.specs.Types.{from_to, is_outside}
use Rattle.pl_frame.proofs.CellLaws.{first_misfit-outside, narrow_inside}
use Rattle.pl_frame.proofs.column.Column.whole.Goals as goal

pub returns-in-Some-clause-refused : goal.returns-in-Some-clause-refused
returns-in-Some-clause-refused c =
    first_misfit-outside c.args.dtype (from_to c.number_range-range.result.low c.number_range-range.result.high) c.args.values.items (sym c.number_range-range.ensures)
    ∙ ap (position (is_outside (from_to c.number_range-range.result.low c.number_range-range.result.high))) (sym c.deref.ensures.value) ∙ sym c.first_outside.ensures ∙ c.in-Some.is

pub collect_narrow-requires : goal.collect_narrow-requires
collect_narrow-requires c =
    narrow_inside (from_to c.number_range-range.result.low c.number_range-range.result.high) _ (sym c.is_narrow.ensures ∙ c.if-is_narrow.true)
    (ap (position (is_outside (from_to c.number_range-range.result.low c.number_range-range.result.high))) (c.deref-then-is_narrow.ensures.value ∙ sym c.deref.ensures.value) ∙ sym c.first_outside.ensures ∙ c.in_default.is)

pub from_narrow-requires-clause-held : goal.from_narrow-requires-clause-held
from_narrow-requires-clause-held c =
    first_misfit-outside c.args.dtype (from_to c.number_range-range.result.low c.number_range-range.result.high) _ (sym c.number_range-range.ensures)
    ∙ ap (position (is_outside (from_to c.number_range-range.result.low c.number_range-range.result.high)))
    (c.in_ok-numbers.ensures ∙ c.deref-then-is_narrow.ensures.value ∙ sym c.deref.ensures.value) ∙ sym c.first_outside.ensures ∙ c.in_default.is

pub from_wide-requires-clause-held : goal.from_wide-requires-clause-held
from_wide-requires-clause-held c =
    first_misfit-outside c.args.dtype (from_to c.number_range-range.result.low c.number_range-range.result.high) _ (sym c.number_range-range.ensures)
    ∙ ap (position (is_outside (from_to c.number_range-range.result.low c.number_range-range.result.high)))
    (c.in_ok-numbers-2.ensures ∙ c.deref-2.ensures.value ∙ sym c.deref.ensures.value) ∙ sym c.first_outside.ensures ∙ c.in_default.is
