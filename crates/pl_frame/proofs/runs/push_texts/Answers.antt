use Rattle.std.proofs.Common.{◌-◌, ◌++◌, sym, ◌∙◌, ap, take, drop}
use Rattle.std.proofs.lemmas.Result.{on_ok_weaker}
use Rattle.pl_frame.specs.Columns.{text_cells}
use Rattle.pl_frame.specs.Frame.{Letters}
use Rattle.pl_frame.specs.Parts.{part_cells}
use Rattle.pl_frame.proofs.HeldLaws.{cells_run}
use Rattle.pl_frame.proofs.runs.push_texts.Goals as goal

pub returns-in-Texts : goal.returns-in-Texts
returns-in-Texts c =
    let n = c.args.to - c.args.from in
    on_ok_weaker c.append_range.result
    (λ e. ap text_cells e ∙ cells_run Letters c.args.texts.now c.in-Texts.more n c.args.from
    ∙ ap (λ part. text_cells c.args.texts.now ++ take n (drop c.args.from (part_cells part))) (sym c.in-Texts.is))
    c.append_range.ensures

pub returns-in-Packed : goal.returns-in-Packed
returns-in-Packed c =
    let n = c.args.to - c.args.from in
    on_ok_weaker c.append_packed.result
    (λ e. ap text_cells e ∙ cells_run Letters c.args.texts.now c.in-Packed.more n c.args.from
    ∙ ap (λ part. text_cells c.args.texts.now ++ take n (drop c.args.from (part_cells part))) (sym c.in-Packed.is))
    c.append_packed.ensures
