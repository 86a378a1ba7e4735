use Rattle.std.proofs.Common.{◌<◌, length, is_some, ◌∙◌, ap, arith}
use Rattle.pl_csv_c.proofs.ArrayLaws.{mapped_more}
use Rattle.pl_csv_c.proofs.put_cells.put_each_flag.Goals as goal

pub loop-row-preserved : goal.loop-row-preserved
loop-row-preserved c =
    let values = c.args.column.now.values in
    let within : c.loop-row.row < length values = omega arith in
    record {
      items = mapped_more is_some values c.loop-row.row _ _ _ c.is_there.result within c.loop-row.invariant.items (c.is_there.ensures ∙ ap is_some c.get.ensures) c.push_reserved.ensures.items;
      room = omega (arith, c.push_reserved.ensures.len, c.push_reserved.ensures.capacity, c.loop-row.invariant.room);
    }
