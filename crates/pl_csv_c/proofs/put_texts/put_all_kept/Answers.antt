use Rattle.std.proofs.Common.{rules, ◌<◌, length, refl, arith}
use Rattle.std.proofs.lemmas.List.{length-map}
use Rattle.std.specs.Option.{option_map}
use Rattle.pl_csv_c.proofs.ArrayLaws.{flat_more, ends_more}
use Rattle.pl_csv_c.specs.Arrays.{letters_in}
use Rattle.pl_frame.specs.Columns.{text_cells}
use Rattle.pl_frame.specs.Frame.{Letters}
use Rattle.pl_csv_c.proofs.put_texts.put_all_kept.Goals as goal

pub loop-row-preserved : goal.loop-row-preserved
loop-row-preserved c =
    let texts = c.args.texts.now in
    let values = text_cells texts in
    let within : c.loop-row.row < length values = omega (arith, length-map texts (option_map Letters)) in
    let bytes = flat_more letters_in values c.loop-row.row _ _ _ within c.loop-row.invariant.bytes c.in_ok-put_kept.ensures in
    record {
      bytes = bytes;
      ends = ends_more values c.loop-row.row _ _ _ _ _ _ within refl bytes c.loop-row.invariant.ends (search rules);
      room = omega (arith, c.push_reserved.ensures.len, c.push_reserved.ensures.capacity, c.loop-row.invariant.room);
    }
