use Rattle.std.proofs.Common.{◌<◌, ◌∷◌, ◌++◌, [], length, ◌∙◌, ap, arith}
use Rattle.std.specs.Int.{w128}
use Rattle.std.proofs.lemmas.Int.{to_z-of_z}
use Rattle.pl_csv_c.proofs.ArrayLaws.{flat_more}
use Rattle.pl_csv_c.specs.Arrays.{words_in, wide_in, low_word, high_word}
use Rattle.pl_csv_c.proofs.put_cells.put_each_pair.Goals as goal

pub loop-row-preserved : goal.loop-row-preserved
loop-row-preserved c =
    let values = c.args.column.now.values in
    let within : c.loop-row.row < length values = omega arith in
    flat_more words_in values c.loop-row.row _ _ _ within c.loop-row.invariant
    (c.in_ok-put_pair.ensures ∙ ap (λ n. c.loop-row.words.items ++ low_word n ∷ high_word n ∷ []) (to_z-of_z w128 c.wide_in.result (record { sfits = c.wide_in.type_inv }) ∙ c.wide_in.ensures ∙ ap wide_in c.get.ensures))
