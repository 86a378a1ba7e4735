use Rattle.std.proofs.Common.{◌∙◌}
use Rattle.std.specs.Cmp.Lexicographic.{pointwise}
use Rattle.pl_frame.specs.Equal.{entries_equal}
use Rattle.pl_frame.specs.FrameParts.{schema_of}
use Rattle.pl_write.proofs.BatchLaws.{schema_told}
use Rattle.pl_write.proofs.batched_writer.BatchedWriter.fits.Goals as goal

pub returns : goal.returns
returns g c =
    schema_told c.args.df.now c.args.self.now.schema c.have_schema.result
    (c.have_schema.ensures ∙ (λ j. pointwise entries_equal (schema_of (c.columns.ensures.columns j)) ((c.self.view_is j).schema)))
