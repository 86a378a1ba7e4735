use Rattle.std.proofs.Common.{◌<◌, ◌++◌, length, arith, sym, ◌∙◌, ap, subst}
use Rattle.std.proofs.lemmas.List.{length-map}
use Rattle.pl_frame.specs.Frame.{ColumnValue, HaveHeight, height_of, names_of}
use Rattle.pl_text.specs.FrameText.{row_lines}
use Rattle.pl_write.specs.Options.{cell_options}
use Rattle.pl_csv_c.proofs.NameLaws.{level-line, names-line}
use Rattle.pl_csv_c.proofs.frame_text.push_names.Goals as goal

pub print-requires : goal.print-requires
print-requires c = record { columns = subst (λ l. HaveHeight (height_of l) l) (sym (c.deref.ensures.value ∙ c.in_ok-names.ensures)) (level-line (names_of c.args.columns.now)) }

pub returns : goal.returns
returns c =
    let o = cell_options c.args.options.now in
    let names = names_of c.args.columns.now in
    let some : 0 < length names = omega (arith, c.requires, length-map c.args.columns.now (λ (column : ColumnValue). column.name)) in
    c.in_ok-extend_from_slice.ensures.items
    ∙ ap (λ l. c.args.text.now.items ++ l) (c.as_slice.ensures ∙ c.in_ok-print.ensures ∙ ap (λ l. row_lines o l 0 (height_of l)) (c.deref.ensures.value ∙ c.in_ok-names.ensures) ∙ names-line o names some)
