use Rattle.pl_csv_c.proofs.NameLaws.{names-more}
use Rattle.pl_csv_c.proofs.frame_text.name_columns.Goals as goal

pub loop-column-preserved : goal.loop-column-preserved
loop-column-preserved c =
    names-more c.args.columns.now c.loop-column.column-index c.column-item.result c.loop-column.names.items c.push.new.items.items c.in_ok-name.name c.name.result.now c.loop-column-test.true c.column-item.is c.name.ensures c.loop-column.invariant
    c.in_ok-name.ensures c.in_ok-push.ensures.pushed
