use Rattle.std.proofs.Common.{rules, ◌<◌, w64, length, ◌∙◌, ap, arith}
use Rattle.std.proofs.lemmas.Int.{to_z-of_z}
use Rattle.pl_csv_c.proofs.ArrayLaws.{mapped_more}
use Rattle.pl_csv_c.specs.Arrays.{number_in}
use Rattle.pl_csv_c.proofs.put_cells.put_each_number.Goals as goal

pub loop-row-preserved : goal.loop-row-preserved
loop-row-preserved c =
    let values = c.args.column.now.values in
    let within : c.loop-row.row < length values = omega arith in
    mapped_more number_in values c.loop-row.row _ _ _ _ within c.loop-row.invariant
    (to_z-of_z w64 c.in_ok-number.number (search rules) ∙ c.in_ok-number.ensures ∙ ap number_in c.get.ensures) c.in_ok-push.ensures.items
