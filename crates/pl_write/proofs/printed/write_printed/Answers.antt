use Rattle.std.proofs.Common.{◌++◌, map, refl, subst}
use Rattle.std.specs.Cow.{cow_slice_items}
use Rattle.std.specs.List.{concat}
use Rattle.pl_write.specs.Batches.{all_lines}
use Rattle.pl_write.specs.Options.{cell_options}
use Rattle.pl_write.specs.Writing.{AppendsPrefix}
use Rattle.pl_write.proofs.PrintLaws.{AppendsPrefix-behind, AppendsPrefix-longer}
use Rattle.pl_write.proofs.printed.write_printed.Goals as goal

pub returns-in-Ok-clause-prefix : goal.returns-in-Ok-clause-prefix
returns-in-Ok-clause-prefix g c =
    let now = g.Si.Sink.received c.write_texts.new.sink in
    let next = g.Si.Sink.received c.write_rows_behind.new.sink in
    let rows = all_lines (cell_options c.args.options.now.serialize_options) c.args.columns.now in
    AppendsPrefix-behind (g.Si.Sink.received c.args.sink.now) now next (concat (map cow_slice_items c.args.printed.now)) rows c.in-Ok.ensures.text
    (subst (λ front. AppendsPrefix now next (front ++ rows)) c.new.ensures c.write_rows_behind.ensures.prefix)

pub returns-in-Err-clause-prefix : goal.returns-in-Err-clause-prefix
returns-in-Err-clause-prefix g c =
    let printed = concat (map cow_slice_items c.args.printed.now) in
    let rows = all_lines (cell_options c.args.options.now.serialize_options) c.args.columns.now in
    AppendsPrefix-longer (g.Si.Sink.received c.args.sink.now) (g.Si.Sink.received c.write_texts.new.sink) printed rows (printed ++ rows) refl c.write_texts.ensures.prefix
