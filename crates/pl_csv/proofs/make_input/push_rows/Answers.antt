use Rattle.std.proofs.Common.{◌++◌, ap, ◌∙◌, sym, append_assoc, append-nil}
use Rattle.pl_csv.specs.MadeInput.{made_line, made_fields, made_lines}
use Rattle.pl_csv.proofs.MadeInputLaws.{lines-more, lines-all}
use Rattle.pl_csv.proofs.make_input.push_rows.Goals as goal

pub loop-row-init : goal.loop-row-init
loop-row-init c = sym (append-nil c.extend_from_slice.new.self.items)

pub loop-row-preserved : goal.loop-row-preserved
loop-row-preserved c =
    let row = c.loop-row.row in
    let front = c.extend_from_slice.new.self.items in
    c.in_ok-push_row.ensures
    ∙ ap (λ l. l ++ made_line (made_fields row)) c.loop-row.invariant
    ∙ append_assoc front (made_lines row) (made_line (made_fields row))
    ∙ ap (λ l. front ++ l) (sym (lines-more row))

pub returns : goal.returns
returns c = lines-all c.args.input.now.items c.extend_from_slice.new.self.items c.loop-row.input.items c.loop-row.row c.args.rows c.in_ok-extend_from_slice.ensures.items c.loop-row.invariant c.loop-row-test.false c.loop-row.auto.row-end
