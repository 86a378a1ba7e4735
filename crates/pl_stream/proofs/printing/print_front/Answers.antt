use Rattle.std.proofs.Common.{◌≡◌, ◌+◌, ◌-◌, ℕ, List, Bool, true, false, None, length, drop, arith, refl, length-drop, rules}
use Rattle.std.specs.Bool.{OnTrue}
use Rattle.pl_write.specs.Options.{cell_options}
use Rattle.pl_seek.proofs.PartLaws.{ok-map}
use Rattle.pl_stream.proofs.PrintLaws.{printed-none, can-print, plan-printed, printed-start}
use Rattle.pl_stream.proofs.WholeItemLaws.{front-nil}
use Rattle.pl_stream.proofs.printing.print_front.Goals as goal

on-true : (t : Bool) (P : Type 0) → t ≡ true → OnTrue t P → P
on-true true P is holds = holds
on-true false P is holds = absurd (cc)

pub of-requires : goal.of-requires
of-requires c = can-print c.plan_in-plan.result c.args.read.now c.args.settled.now c.requires.can c.plan_in-plan.ensures.plan c.plan_in-plan.ensures.texts

pub print_on-requires-clause-can : goal.print_on-requires-clause-can
print_on-requires-clause-can c = can-print c.plan_in-plan.result c.args.read.now c.args.settled.now c.requires.can c.plan_in-plan.ensures.plan c.plan_in-plan.ensures.texts

pub print_on-requires-2-clause-can : goal.print_on-requires-2-clause-can
print_on-requires-2-clause-can c = can-print c.plan_in-plan.result c.args.read.now c.args.settled.now c.requires.can c.plan_in-plan.ensures.plan c.plan_in-plan.ensures.texts

pub last_end-requires : goal.last_end-requires
last_end-requires c = (can-print c.plan_in-plan.result c.args.read.now c.args.settled.now c.requires.can c.plan_in-plan.ensures.plan c.plan_in-plan.ensures.texts).dialect

pub returns-then-not-is_row_by_row-clause-printed : goal.returns-then-not-is_row_by_row-clause-printed
returns-then-not-is_row_by_row-clause-printed c = λ before fits.
    printed-none c.args.read.now c.args.write.now before c.args.records.now c.args.text.now.items (record { end = 0; rows = 0 }) (front-nil c.args.read.now.parse_options c.args.records.now) refl fits

pub returns-then-front-guess-clause-printed : goal.returns-then-front-guess-clause-printed
returns-then-front-guess-clause-printed c = λ before fits.
    let plan = c.plan_in-plan.result in
    let schema = c.args.settled.now.schema in
    let w = cell_options c.args.write.now.serialize_options in
    let old = c.args.text.now.items in
    let plain = on-true c.is_row_by_row.result _ c.if-not-is_row_by_row.false c.is_row_by_row.ensures in
    plan-printed plan c.args.read.now c.args.write.now schema before c.args.records.now old c.print_on.new.text.items c.in_ok-front.front c.plan_in-plan.ensures.plan c.requires.can.is.schema_is plain.0
    (c.in_ok-front.ensures.printed old (printed-start plan schema w c.args.records.now old))

pub returns-clause-printed : goal.returns-clause-printed
returns-clause-printed c = λ before fits.
    let plan = c.plan_in-plan.result in
    let schema = c.args.settled.now.schema in
    let w = cell_options c.args.write.now.serialize_options in
    let old = c.args.text.now.items in
    let plain = on-true c.is_row_by_row.result _ c.if-not-is_row_by_row.false c.is_row_by_row.ensures in
    ok-map c.print_on-2.result
    (λ whole is. plan-printed plan c.args.read.now c.args.write.now schema before c.args.records.now old c.print_on-2.new.text.items whole c.plan_in-plan.ensures.plan c.requires.can.is.schema_is plain.0 is)
    (c.print_on-2.ensures.printed old (c.in_ok-front.ensures.printed old (printed-start plan schema w c.args.records.now old)))
