use Rattle.std.proofs.Common.{◌++◌, ◌∙◌, ap}
use Rattle.std.proofs.lemmas.Result.{on_ok_weaker}
use Rattle.pl_write.specs.Options.{cell_options}
use Rattle.pl_write.proofs.StripLaws.{copied-lines}
use Rattle.pl_write.proofs.row_printer.append_copied.Goals as goal

pub returns : goal.returns
returns c =
    let copies = c.in_ok-copies.copies in
    let text = copied-lines (cell_options c.args.options.now) c.args.columns.now c.in_ok-strips.strips.items c.deref.result.now copies.first copies.end c.args.first c.args.end
    c.deref.ensures.value c.in_ok-copies.ensures.first c.in_ok-copies.ensures.end c.in_ok-strips.ensures.lines in
    on_ok_weaker c.append_strips.result (λ e. e ∙ ap (λ l. c.args.block.now ++ l) text) c.append_strips.ensures
