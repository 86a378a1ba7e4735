-- The text of a value between quotes is the field of a cell of each type of its kind, and is not empty.
use Rattle.std.proofs.Common.{◌≤◌}
use Rattle.std.specs.Prelude.{slice_range}
use Rattle.std.proofs.lemmas.Option.{IfSome_then}
use Rattle.pl_verbatim.proofs.CellSizeLaws.{whole-longer, date-longer, decimal-longer}
use Rattle.pl_verbatim.proofs.CopyLaws.{text-inner, whole-inner, boolean-inner, date-inner, decimal-inner, moment-inner}
use Rattle.pl_verbatim.proofs.KindLaws.{whole-few, decimal-few}
use Rattle.pl_verbatim.proofs.copies.inner_end.Goals as goal

pub returns-in-Text-clause-copy : goal.returns-in-Text-clause-copy
returns-in-Text-clause-copy g c =
    IfSome_then c.bare_text_end.result c.bare_text_end.ensures.bare (λ end b. text-inner c.args.separator c.args.quote c.args.kind (slice_range c.args.text.now c.args.at end) c.in-Text.is b)

pub returns-in-Whole-clause-after : goal.returns-in-Whole-clause-after
returns-in-Whole-clause-after g c =
    let few : c.in-Whole.digits ≤ 64 = whole-few c.args.kind c.in-Whole.digits c.in-Whole.is_signed c.in-Whole.is c.requires.sound in
    IfSome_then c.whole_end.result c.whole_end.ensures.whole (λ end w. whole-longer c.in-Whole.digits c.in-Whole.is_signed c.args.text.now c.args.at end (w few))

pub returns-in-Whole-clause-copy : goal.returns-in-Whole-clause-copy
returns-in-Whole-clause-copy g c =
    let few : c.in-Whole.digits ≤ 64 = whole-few c.args.kind c.in-Whole.digits c.in-Whole.is_signed c.in-Whole.is c.requires.sound in
    IfSome_then c.whole_end.result c.whole_end.ensures.whole
    (λ end w. whole-inner c.args.separator c.args.quote c.args.kind c.in-Whole.digits c.in-Whole.is_signed (slice_range c.args.text.now c.args.at end) c.in-Whole.is (w few))

pub returns-in-Boolean-clause-copy : goal.returns-in-Boolean-clause-copy
returns-in-Boolean-clause-copy g c =
    IfSome_then c.boolean_end.result c.boolean_end.ensures.boolean (λ end w. boolean-inner c.args.separator c.args.quote c.args.kind (slice_range c.args.text.now c.args.at end) c.in-Boolean.is w)

pub returns-in-Date-clause-after : goal.returns-in-Date-clause-after
returns-in-Date-clause-after g c = IfSome_then c.date_end.result c.date_end.ensures.date (date-longer c.args.text.now c.args.at)

pub returns-in-Date-clause-copy : goal.returns-in-Date-clause-copy
returns-in-Date-clause-copy g c =
    IfSome_then c.date_end.result c.date_end.ensures.date (λ end w. date-inner c.args.separator c.args.quote c.args.kind (slice_range c.args.text.now c.args.at end) c.in-Date.is w)

pub returns-in-Decimal-clause-after : goal.returns-in-Decimal-clause-after
returns-in-Decimal-clause-after g c =
    let few : c.in-Decimal.digits ≤ 64 = decimal-few c.args.kind c.in-Decimal.digits c.in-Decimal.scale c.in-Decimal.is c.requires.sound in
    IfSome_then c.decimal_end.result c.decimal_end.ensures.decimal (λ end w. decimal-longer c.in-Decimal.digits c.in-Decimal.scale c.args.text.now c.args.at end (w few))

pub returns-in-Decimal-clause-copy : goal.returns-in-Decimal-clause-copy
returns-in-Decimal-clause-copy g c =
    let few : c.in-Decimal.digits ≤ 64 = decimal-few c.args.kind c.in-Decimal.digits c.in-Decimal.scale c.in-Decimal.is c.requires.sound in
    IfSome_then c.decimal_end.result c.decimal_end.ensures.decimal
    (λ end w. decimal-inner c.args.separator c.args.quote c.args.kind c.in-Decimal.digits c.in-Decimal.scale (slice_range c.args.text.now c.args.at end) c.in-Decimal.is (w few))

pub returns-in-Datetime-clause-copy : goal.returns-in-Datetime-clause-copy
returns-in-Datetime-clause-copy g c =
    IfSome_then c.moment_end.result c.moment_end.ensures.moment
    (λ end w. moment-inner c.args.separator c.args.quote c.args.kind c.in-Datetime.places (slice_range c.args.text.now c.args.at end) c.in-Datetime.is w)
