use Rattle.std.proofs.Common.{◌<◌, length, arith, ap, ◌∙◌}
use Rattle.pl_frame.specs.declared.data_type.DataType.{DataType}
use Rattle.pl_frame.specs.Schema.{with_type}
use Rattle.pl_csv.proofs.MatchingLaws.{schema-more}
use Rattle.pl_csv.proofs.matching.schema_of.Goals as goal

pub loop-column-preserved : goal.loop-column-preserved
loop-column-preserved c =
    let below : c.loop-column.column-index < length c.args.columns.now = omega arith in
    c.in_ok-with_column.ensures.set
    ∙ ap (λ n. with_type c.loop-column.schema n c.in_ok-dtype.dtype) (c.in_ok-name.ensures.copied ∙ c.name.ensures)
    ∙ ap (λ (t : DataType). with_type c.loop-column.schema c.column-item.result.name t) (c.in_ok-dtype.ensures.equal ∙ c.dtype.ensures.dtype)
    ∙ schema-more c.args.columns.now c.loop-column.column-index c.column-item.result c.loop-column.schema c.requires below c.column-item.is c.loop-column.invariant
