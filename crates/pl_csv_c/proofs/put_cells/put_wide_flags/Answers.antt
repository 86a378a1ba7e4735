use Rattle.std.proofs.Common.{◌<◌, length, is_some, ◌∙◌, arith}
use Rattle.std.proofs.lemmas.List.{length-map}
use Rattle.std.specs.Option.{option_map}
use Rattle.pl_csv_c.proofs.ArrayLaws.{mapped_more, flag_at}
use Rattle.pl_frame.specs.Columns.{number_cells}
use Rattle.pl_frame.specs.Frame.{Number}
use Rattle.pl_csv_c.proofs.put_cells.put_wide_flags.Goals as goal

pub loop-row-preserved : goal.loop-row-preserved
loop-row-preserved c =
    let kept = c.args.kept.now in
    let within : c.loop-row.row < length (number_cells kept) = omega (arith, length-map kept (option_map Number)) in
    record {
      items = mapped_more is_some (number_cells kept) c.loop-row.row _ _ _ _ within c.loop-row.invariant.items (c.is_some.ensures ∙ flag_at kept c.loop-row.row c.get.result c.get.ensures) c.push_reserved.ensures.items;
      room = omega (arith, c.push_reserved.ensures.len, c.push_reserved.ensures.capacity, c.loop-row.invariant.room);
    }
