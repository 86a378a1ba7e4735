use Rattle.std.proofs.Common.{length, sym, subst}
use Rattle.pl_frame.specs.Frame.{IsFrame}
use Rattle.pl_rows.specs.Plan.{AreRising, rules_of}
use Rattle.pl_rows.specs.Columns.{columns_in}
use Rattle.pl_rows.specs.Ranges.{rows_read}
use Rattle.pl_read.proofs.ChunkLaws.{IsFrame-range}
use Rattle.pl_read.proofs.chunk.read_chunk.Goals as goal

pub of_distinct-requires : goal.of_distinct-requires
of_distinct-requires c =
    let plan = c.chunk_plan-plan.result in
    let schema = c.args.schema.now in
    let places = plan.projection.places.now in
    let rising = subst (AreRising 0 (length schema)) (sym c.chunk_plan-plan.ensures.plan.places_are) c.requires.rising in
    subst IsFrame (sym c.in-Ok.ensures.columns) (IsFrame-range (rules_of plan) (rows_read plan (columns_in schema places) _) schema places c.chunk_plan-plan.ensures.distinct rising)
