use Rattle.std.proofs.Common.{◌<◌, ◌∷◌, ◌++◌, [], length, ◌∙◌, ap, arith}
use Rattle.std.specs.Int.{w128}
use Rattle.std.specs.Option.{option_map}
use Rattle.std.proofs.lemmas.Int.{to_z-of_z}
use Rattle.std.proofs.lemmas.List.{length-map}
use Rattle.pl_csv_c.proofs.ArrayLaws.{flat_more, wide_at}
use Rattle.pl_csv_c.specs.Arrays.{words_in, low_word, high_word}
use Rattle.pl_frame.specs.Columns.{number_cells}
use Rattle.pl_frame.specs.Frame.{Number}
use Rattle.pl_csv_c.proofs.put_cells.put_wide.Goals as goal

pub loop-row-preserved : goal.loop-row-preserved
loop-row-preserved c =
    let kept = c.args.kept.now in
    let within : c.loop-row.row < length (number_cells kept) = omega (arith, length-map kept (option_map Number)) in
    record {
      items = flat_more words_in (number_cells kept) c.loop-row.row _ _ _ within c.loop-row.invariant.items
          (c.put_pair_reserved.ensures.items
          ∙ ap (λ n. c.loop-row.words.items ++ low_word n ∷ high_word n ∷ [])
          (to_z-of_z w128 c.wide_or_zero.result (record { sfits = c.wide_or_zero.type_inv }) ∙ c.wide_or_zero.ensures ∙ wide_at kept c.loop-row.row c.get.result c.get.ensures));
      room = omega (arith, c.put_pair_reserved.ensures.len, c.put_pair_reserved.ensures.capacity, c.loop-row.invariant.room);
    }
