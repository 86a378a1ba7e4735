use Rattle.std.proofs.Common.{sym, ◌∙◌, ap}
use Rattle.pl_frame.specs.Dialect.{marks}
use Rattle.pl_scan.proofs.CloseLaws.{last_open, last_open-fields, marked-fields, marked-cons, last_open-cons}
use Rattle.pl_scan.proofs.closes.is_open_record.Goals as goal

pub loop-field-init : goal.loop-field-init
loop-field-init c =
    let m = marks c.args.separator c.args.quote_char c.args.eol_char in
    let is = c.into_iter-field-iterator.ensures.into_iter_gives ∙ c.new-field-items.ensures.value in
    record { can = tt; finite = tt; own = rw is (marked-fields m c.args.slice.now); value = rw is (last_open-fields m c.args.slice.now) }

pub is_open-open-requires : goal.is_open-open-requires
is_open-open-requires c =
    (marked-cons c.args.quote_char c.loop-field.field-iterator c.in-Some.field.now c.in-Some.quoted c.next.new.self c.loop-field.invariant.own c.in-Some.ensures.steps).0

pub loop-field-preserved : goal.loop-field-preserved
loop-field-preserved c =
    let m = marks c.args.separator c.args.quote_char c.args.eol_char in
    let all = c.loop-field.field-iterator in
    record {
      can = tt;
      finite = tt;
      own = (marked-cons c.args.quote_char all c.in-Some.field.now c.in-Some.quoted c.next.new.self c.loop-field.invariant.own c.in-Some.ensures.steps).1;
      value = rw c.is_open-open.ensures (last_open-cons m c.loop-field.open all c.in-Some.field.now c.in-Some.quoted c.next.new.self c.in-Some.ensures.steps) ∙ c.loop-field.invariant.value;
    }

pub returns : goal.returns
returns c =
    let m = marks c.args.separator c.args.quote_char c.args.eol_char in
    sym (ap (last_open m c.loop-field.open) c.in-None.ensures.steps.0) ∙ c.loop-field.invariant.value
