use Rattle.std.proofs.Common.{◌<◌, w64, length, ◌∙◌, arith}
use Rattle.std.proofs.lemmas.List.{length-map}
use Rattle.std.proofs.lemmas.Int.{to_z-of_z}
use Rattle.std.specs.Option.{option_map}
use Rattle.pl_csv_c.proofs.ArrayLaws.{mapped_more, number_at}
use Rattle.pl_csv_c.specs.Arrays.{number_in}
use Rattle.pl_frame.specs.Columns.{number_cells}
use Rattle.pl_frame.specs.Frame.{Number}
use Rattle.pl_csv_c.proofs.put_cells.put_kept.Goals as goal

pub loop-row-preserved : goal.loop-row-preserved
loop-row-preserved c =
    let kept = c.args.kept.now in
    let within : c.loop-row.row < length (number_cells kept) = omega (arith, length-map kept (option_map Number)) in
    record {
      items = mapped_more number_in (number_cells kept) c.loop-row.row _ _ _ _ within c.loop-row.invariant.items
          (to_z-of_z w64 c.or_zero.result (record { sfits = c.or_zero.type_inv }) ∙ c.or_zero.ensures ∙ number_at kept c.loop-row.row c.get.result c.get.ensures) c.push_reserved.ensures.items;
      room = omega (arith, c.push_reserved.ensures.len, c.push_reserved.ensures.capacity, c.loop-row.invariant.room);
    }
