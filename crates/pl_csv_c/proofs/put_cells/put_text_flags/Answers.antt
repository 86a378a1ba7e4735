use Rattle.std.proofs.Common.{◌<◌, length, is_some, ◌∙◌, arith}
use Rattle.std.proofs.lemmas.List.{length-map}
use Rattle.std.specs.Option.{option_map}
use Rattle.pl_csv_c.proofs.ArrayLaws.{mapped_more, text_flag_at}
use Rattle.pl_frame.specs.Columns.{text_cells}
use Rattle.pl_frame.specs.Frame.{Letters}
use Rattle.pl_csv_c.proofs.put_cells.put_text_flags.Goals as goal

pub loop-row-preserved : goal.loop-row-preserved
loop-row-preserved c =
    let texts = c.args.texts.now in
    let within : c.loop-row.row < length (text_cells texts) = omega (arith, length-map texts (option_map Letters)) in
    record {
      items = mapped_more is_some (text_cells texts) c.loop-row.row _ _ _ _ within c.loop-row.invariant.items
          (c.is_some.ensures ∙ text_flag_at texts c.loop-row.row c.part.result c.part.ensures.null c.part.ensures.text) c.push_reserved.ensures.items;
      room = omega (arith, c.push_reserved.ensures.len, c.push_reserved.ensures.capacity, c.loop-row.invariant.room);
    }
