use Rattle.std.proofs.Common.{◌≡◌, ◌≤◌, ◌-◌, [], length, take, sym, ◌∙◌, ap, subst, arith}
use Rattle.std.specs.Io.KnownBytes.{Appends}
use Rattle.std.proofs.lemmas.List.{with_items_is}
use Rattle.std.proofs.lemmas.Result.{on_ok_weaker}
use Rattle.pl_text.specs.FrameText.{row_lines}
use Rattle.pl_write.specs.Options.{cell_options}
use Rattle.pl_write.specs.Printing.{texts_of}
use Rattle.pl_write.proofs.PrintLaws.{row_lines-between}
use Rattle.pl_write.specs.Writing.{IsWriting}
use Rattle.pl_write.proofs.WriteLaws.{Appends-nil, IsWriting-more, IsWriting-flushed, IsWriting-part, IsWriting-all, row_lines-none}
use Rattle.pl_write.proofs.printing.write_by_workers.Goals as goal

pub loop-row-init : goal.loop-row-init
loop-row-init g c =
    let old = g.Si.Sink.received c.args.sink.now in
    let o = cell_options c.args.options.now.serialize_options in
    let text = row_lines o c.args.columns.now 0 c.args.height in
    let left = row_lines o c.args.columns.now 0 (c.args.height - 0) in
    let same : left ≡ text = ap (row_lines o c.args.columns.now 0) (omega arith) in
    let start : IsWriting old old [] left text = record { flushed = []; appended = Appends-nil old; whole = same } in
    record {
      ready = c.in-Ok.ensures.some;
      next = c.in-Ok-new_shares.ensures.some;
      inside = omega arith;
      writing = subst (λ block. IsWriting old old block left text) (sym c.in-Ok.ensures.empty) start;
      later = omega arith;
      later_wants = omega arith;
    }

pub returns-in-Err-clause-prefix : goal.returns-in-Err-clause-prefix
returns-in-Err-clause-prefix g c =
    let o = cell_options c.args.options.now.serialize_options in
    let columns = c.args.columns.now in
    let row = c.loop-row.row in
    let height = c.args.height in
    let old = g.Si.Sink.received c.args.sink.now in
    let now = g.Si.Sink.received c.loop-row.sink in
    let next = g.Si.Sink.received c.print_beside.new.sink in
    IsWriting-part old now next (texts_of c.loop-row.ready.items) (row_lines o columns row (height - row)) (row_lines o columns 0 height)
    c.print_beside.ensures.prefix.0 c.loop-row.invariant.writing
    (subst (λ shares. Appends now next (take c.print_beside.ensures.prefix.0 (texts_of shares))) c.deref.ensures.value c.print_beside.ensures.prefix.1)

pub loop-row-preserved : goal.loop-row-preserved
loop-row-preserved g c =
    let o = cell_options c.args.options.now.serialize_options in
    let columns = c.args.columns.now in
    let row = c.loop-row.row in
    let end = c.in-Ok-print_beside.end in
    let height = c.args.height in
    let old = g.Si.Sink.received c.args.sink.now in
    let now = g.Si.Sink.received c.loop-row.sink in
    let next = g.Si.Sink.received c.print_beside.new.sink in
    let text = row_lines o columns 0 height in
    let part = row_lines o columns row (end - row) in
    let left = row_lines o columns end (height - end) in
    let up : row ≤ end = omega (arith, c.in-Ok-print_beside.ensures.further) in
    let flushed = IsWriting-flushed old now next (texts_of c.loop-row.ready.items) (row_lines o columns row (height - row)) text c.loop-row.invariant.writing
    (subst (λ shares. Appends now next (texts_of shares)) c.deref.ensures.value c.in-Ok-print_beside.ensures.text) in
    let more = IsWriting-more old next [] part (row_lines o columns row (height - row)) left text flushed (row_lines-between o columns row end height up c.in-Ok-print_beside.ensures.inside) in
    let same : length c.print_beside.new.shares ≡ c.loop-row.next.len = omega (arith, c.print_beside.auto.shares, c.deref_mut.ensures.len) in
    let printed : c.swap.new.x.items ≡ c.print_beside.new.shares =
    ap (λ shares. shares.items) c.swap.ensures.x_after ∙ with_items_is c.loop-row.next c.print_beside.new.shares same in
    let written : c.swap.new.y.items ≡ c.loop-row.ready.items = ap (λ shares. shares.items) c.swap.ensures.y_after in
    record {
      ready = omega (arith, ap length printed, c.print_beside.auto.shares, c.deref_mut.ensures.len, c.loop-row.invariant.next);
      next = omega (arith, ap length written, c.loop-row.invariant.ready);
      inside = c.in-Ok-print_beside.ensures.inside;
      writing = subst (λ block. IsWriting old next block left text) (sym (ap texts_of printed ∙ c.in-Ok-print_beside.ensures.next)) more;
      later = omega (arith, c.print_beside.ensures.later, c.loop-row.invariant.later);
      later_wants = omega (arith, c.print_beside.ensures.later_wants, c.loop-row.invariant.later_wants);
    }

pub returns-clause-text : goal.returns-clause-text
returns-clause-text g c =
    let o = cell_options c.args.options.now.serialize_options in
    let columns = c.args.columns.now in
    let row = c.loop-row.row in
    let height = c.args.height in
    let old = g.Si.Sink.received c.args.sink.now in
    let now = g.Si.Sink.received c.loop-row.sink in
    let next = g.Si.Sink.received c.write_each.new.sink in
    let ready = texts_of c.loop-row.ready.items in
    let text = row_lines o columns 0 height in
    let past : height ≤ row = omega (arith, c.loop-row-test.false) in
    let writing = subst (λ left. IsWriting old now ready left text) (row_lines-none o columns row height past) c.loop-row.invariant.writing in
    on_ok_weaker c.write_each.result
    (λ appended. IsWriting-all old now next ready text writing (subst (λ shares. Appends now next (texts_of shares)) c.deref-2.ensures.value appended))
    c.write_each.ensures.text

pub returns-clause-prefix : goal.returns-clause-prefix
returns-clause-prefix g c =
    let o = cell_options c.args.options.now.serialize_options in
    let columns = c.args.columns.now in
    let row = c.loop-row.row in
    let height = c.args.height in
    let old = g.Si.Sink.received c.args.sink.now in
    let now = g.Si.Sink.received c.loop-row.sink in
    let next = g.Si.Sink.received c.write_each.new.sink in
    IsWriting-part old now next (texts_of c.loop-row.ready.items) (row_lines o columns row (height - row)) (row_lines o columns 0 height)
    c.write_each.ensures.prefix.0 c.loop-row.invariant.writing
    (subst (λ shares. Appends now next (take c.write_each.ensures.prefix.0 (texts_of shares))) c.deref-2.ensures.value c.write_each.ensures.prefix.1)
