-- Laws of buffers (docs/types.md, "Buffers").
use Rattle.std.specs.Prelude.{◌≡◌, ◌++◌, List, Option, length}
use Rattle.pl_frame.specs.Frame.{Scalar}
use Rattle.pl_cells.specs.BufferValue.{BufferValue, cut_to, with_more}

-- cells that were put at the end are taken away by a cut back to the number that stood there before
abbrev pub CutsBack : Type 0
CutsBack = (buffer : BufferValue) (more : List (Option Scalar)) → cut_to (length buffer.values) (with_more buffer more) ≡ buffer

-- cells that are put at the end one list after another are put there at once
abbrev pub AddsInTurn : Type 0
AddsInTurn = (buffer : BufferValue) (first second : List (Option Scalar)) → with_more (with_more buffer first) second ≡ with_more buffer (first ++ second)
