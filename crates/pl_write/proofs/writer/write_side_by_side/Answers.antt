use Rattle.std.proofs.Common.{◌++◌, refl}
use Rattle.pl_text.specs.FrameText.{row_lines}
use Rattle.pl_write.specs.Options.{cell_options}
use Rattle.pl_write.proofs.PrintLaws.{AppendsPrefix-behind, AppendsPrefix-longer}
use Rattle.pl_write.proofs.writer.write_side_by_side.Goals as goal

pub returns-in-Ok-clause-prefix : goal.returns-in-Ok-clause-prefix
returns-in-Ok-clause-prefix g c =
    AppendsPrefix-behind (g.Si.Sink.received c.args.sink.now) (g.Si.Sink.received c.write_all.new.sink) (g.Si.Sink.received c.write_by_workers.new.sink)
    c.args.head.now (row_lines (cell_options c.args.options.now.serialize_options) c.args.columns.now 0 c.args.height) c.in-Ok.ensures.ok c.write_by_workers.ensures.prefix

pub returns-in-Err-clause-prefix : goal.returns-in-Err-clause-prefix
returns-in-Err-clause-prefix g c =
    let rows = row_lines (cell_options c.args.options.now.serialize_options) c.args.columns.now 0 c.args.height in
    AppendsPrefix-longer (g.Si.Sink.received c.args.sink.now) (g.Si.Sink.received c.write_all.new.sink) c.args.head.now rows (c.args.head.now ++ rows) refl c.write_all.ensures.prefix
