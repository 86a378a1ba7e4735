use Rattle.std.proofs.Common.{arith}
use Rattle.std.specs.Option.{option_map}
use Rattle.pl_frame.specs.Casts.{number_in}
use Rattle.pl_frame.specs.Columns.{number_cells}
use Rattle.pl_frame.specs.Frame.{Number}
use Rattle.pl_frame.specs.Types.{from_to}
use Rattle.pl_frame.proofs.CastLaws.{row_more, number_cell}
use Rattle.std.proofs.lemmas.List.{length-map}
use Rattle.pl_frame.proofs.cast.narrow_of_narrow.Goals as goal

pub loop-row-preserved : goal.loop-row-preserved
loop-row-preserved c =
    row_more (number_in (from_to c.args.range.now.low c.args.range.now.high)) (number_cells c.args.numbers.now) c.loop-row.cast _ c.loop-row.row
    (option_map Number c.get.result) c.narrow_in.result
    (let t = c.loop-row-test.true in let e = c.len-row-end.ensures in let n = length-map c.args.numbers.now (option_map Number) in omega (arith, t, e, n)) c.loop-row.invariant
    (number_cell c.args.numbers.now c.loop-row.row c.get.result c.get.ensures) c.narrow_in.ensures c.in_ok-push_option.ensures
