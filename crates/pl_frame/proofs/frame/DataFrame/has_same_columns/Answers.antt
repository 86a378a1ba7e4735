use Rattle.std.proofs.Common.{◌∙◌}
use Rattle.std.specs.Cmp.Lexicographic.{pointwise}
use Rattle.pl_frame.specs.Equal.{entries_equal}
use Rattle.pl_frame.specs.FrameParts.{schema_of}
use Rattle.pl_frame.proofs.FramePartLaws.{same_columns_told}
use Rattle.pl_frame.proofs.frame.DataFrame.has_same_columns.Goals as goal

pub returns : goal.returns
returns c =
    same_columns_told c.args.self.now c.args.other.now c.have_same_schema.result
    (c.have_same_schema.ensures ∙ (λ j. pointwise entries_equal (schema_of (c.columns.ensures.columns j)) (schema_of (c.columns-2.ensures.columns j))))
