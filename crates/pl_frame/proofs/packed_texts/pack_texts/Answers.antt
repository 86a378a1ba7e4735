use Rattle.std.proofs.Common.{◌∙◌, ap}
use Rattle.pl_frame.specs.Columns.{text_cells}
use Rattle.pl_frame.specs.Flags.{marked}
use Rattle.pl_frame.specs.Optional.{parts_between}
use Rattle.pl_frame.proofs.PackedLaws.{packed_same}
use Rattle.pl_frame.proofs.packed_texts.pack_texts.Goals as goal

pub returns : goal.returns
returns c =
    ap text_cells
    ((λ j. marked (parts_between 0 (c.in_ok-ends.ensures j) (c.in_ok-bytes.ensures j)) (c.in_ok-present.ensures j))
    ∙ packed_same c.kept-kept.result.bytes.now c.kept-kept.result.ends.now c.kept-kept.result.present.now c.kept-kept.ensures.texts ∙ c.kept-kept.ensures.whole)
