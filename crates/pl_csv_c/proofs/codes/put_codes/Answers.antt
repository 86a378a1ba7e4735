use Rattle.std.proofs.Common.{rules, ◌<◌, w64, is_some, length, ◌∙◌, ap, arith}
use Rattle.std.proofs.lemmas.Int.{to_z-of_z}
use Rattle.pl_csv_c.proofs.ArrayLaws.{mapped_more, rows_more, both_there}
use Rattle.pl_csv_c.specs.Arrays.{code_number}
use Rattle.pl_frame.specs.Columns.{code_at}
use Rattle.pl_frame.specs.Frame.{cell_at}
use Rattle.pl_csv_c.proofs.codes.put_codes.Goals as goal

pub loop-row-preserved : goal.loop-row-preserved
loop-row-preserved c =
    let column = c.args.column.now in
    let row = c.loop-row.row in
    let within : row < length column.values = omega arith in
    record {
      flags = mapped_more is_some column.values row _ _ _ _ within c.loop-row.invariant.flags (c.is_some.ensures ∙ both_there c.code-code.result (cell_at column row) c.code-code.ensures.null) c.in_ok-push.ensures.items;
      numbers = rows_more (λ r. code_number (code_at column r)) row _ _ _ _ c.loop-row.invariant.numbers
          (to_z-of_z w64 c.in_ok-number.number (search rules) ∙ c.in_ok-number.ensures ∙ ap code_number c.code-code.ensures.code) c.in_ok-push-2.ensures.items;
    }
