-- The text of a value is a cell of each type of its kind, and is not empty.
use Rattle.std.proofs.Common.{◌≤◌}
use Rattle.std.specs.Prelude.{slice_range}
use Rattle.std.proofs.lemmas.Option.{IfSome_then}
use Rattle.pl_verbatim.proofs.CellLaws.{text-kind, whole-kind, boolean-kind, date-kind, decimal-kind}
use Rattle.pl_verbatim.proofs.MomentCellLaws.{moment-kind}
use Rattle.pl_verbatim.proofs.CellSizeLaws.{text-longer, whole-longer, date-longer, decimal-longer}
use Rattle.pl_verbatim.proofs.KindLaws.{whole-few, decimal-few}
use Rattle.pl_verbatim.proofs.cells.value_end.Goals as goal

pub returns-in-Text-clause-after : goal.returns-in-Text-clause-after
returns-in-Text-clause-after g c = IfSome_then c.text_end.result c.text_end.ensures.written (text-longer c.args.separator c.args.quote c.args.text.now c.args.at)

pub returns-in-Text-clause-cell : goal.returns-in-Text-clause-cell
returns-in-Text-clause-cell g c =
    IfSome_then c.text_end.result c.text_end.ensures.written (λ end w. text-kind c.args.separator c.args.quote c.args.kind (slice_range c.args.text.now c.args.at end) c.in-Text.is w)

pub returns-in-Whole-clause-after : goal.returns-in-Whole-clause-after
returns-in-Whole-clause-after g c =
    let few : c.in-Whole.digits ≤ 64 = whole-few c.args.kind c.in-Whole.digits c.in-Whole.is_signed c.in-Whole.is c.requires.sound in
    IfSome_then c.whole_end.result c.whole_end.ensures.whole (λ end w. whole-longer c.in-Whole.digits c.in-Whole.is_signed c.args.text.now c.args.at end (w few))

pub returns-in-Whole-clause-cell : goal.returns-in-Whole-clause-cell
returns-in-Whole-clause-cell g c =
    let few : c.in-Whole.digits ≤ 64 = whole-few c.args.kind c.in-Whole.digits c.in-Whole.is_signed c.in-Whole.is c.requires.sound in
    IfSome_then c.whole_end.result c.whole_end.ensures.whole
    (λ end w. whole-kind c.args.separator c.args.quote c.args.kind c.in-Whole.digits c.in-Whole.is_signed (slice_range c.args.text.now c.args.at end) c.in-Whole.is (w few))

pub returns-in-Boolean-clause-cell : goal.returns-in-Boolean-clause-cell
returns-in-Boolean-clause-cell g c =
    IfSome_then c.boolean_end.result c.boolean_end.ensures.boolean (λ end w. boolean-kind c.args.separator c.args.quote c.args.kind (slice_range c.args.text.now c.args.at end) c.in-Boolean.is w)

pub returns-in-Date-clause-after : goal.returns-in-Date-clause-after
returns-in-Date-clause-after g c = IfSome_then c.date_end.result c.date_end.ensures.date (date-longer c.args.text.now c.args.at)

pub returns-in-Date-clause-cell : goal.returns-in-Date-clause-cell
returns-in-Date-clause-cell g c =
    IfSome_then c.date_end.result c.date_end.ensures.date (λ end w. date-kind c.args.separator c.args.quote c.args.kind (slice_range c.args.text.now c.args.at end) c.in-Date.is w)

pub returns-in-Decimal-clause-after : goal.returns-in-Decimal-clause-after
returns-in-Decimal-clause-after g c =
    let few : c.in-Decimal.digits ≤ 64 = decimal-few c.args.kind c.in-Decimal.digits c.in-Decimal.scale c.in-Decimal.is c.requires.sound in
    IfSome_then c.decimal_end.result c.decimal_end.ensures.decimal (λ end w. decimal-longer c.in-Decimal.digits c.in-Decimal.scale c.args.text.now c.args.at end (w few))

pub returns-in-Decimal-clause-cell : goal.returns-in-Decimal-clause-cell
returns-in-Decimal-clause-cell g c =
    let few : c.in-Decimal.digits ≤ 64 = decimal-few c.args.kind c.in-Decimal.digits c.in-Decimal.scale c.in-Decimal.is c.requires.sound in
    IfSome_then c.decimal_end.result c.decimal_end.ensures.decimal
    (λ end w. decimal-kind c.args.separator c.args.quote c.args.kind c.in-Decimal.digits c.in-Decimal.scale (slice_range c.args.text.now c.args.at end) c.in-Decimal.is (w few))

pub returns-in-Datetime-clause-cell : goal.returns-in-Datetime-clause-cell
returns-in-Datetime-clause-cell g c =
    IfSome_then c.moment_end.result c.moment_end.ensures.moment
    (λ end w. moment-kind c.args.separator c.args.quote c.args.kind c.in-Datetime.places (slice_range c.args.text.now c.args.at end) c.in-Datetime.is w)
