use Rattle.std.proofs.Common.{◌+◌, map, take, sym, subst, arith}
use Rattle.pl_cells.specs.InitBuffers.{entry_at}
use Rattle.pl_csv_c.specs.Growing.{AreGrown}
use Rattle.pl_csv_c.proofs.GrowingLaws.{AreGrown-next}
use Rattle.pl_frame.specs.FrameParts.{empty_columns}
use Rattle.pl_csv_c.proofs.growing.all_empty.Goals as goal

pub loop-place-preserved : goal.loop-place-preserved
loop-place-preserved c =
    let schema = c.args.schema.now in
    let places = c.args.places.now in
    let i = c.loop-place.place-index in
    subst (AreGrown (empty_columns (map (entry_at schema) (take (i + 1) places)))) (sym c.in_ok-push.ensures.pushed)
    (AreGrown-next schema places i _ c.loop-place.all.items c.in_ok-empty_one.field-0 (omega arith) c.loop-place.invariant c.in_ok-empty_one.ensures)
