-- A law of rows (docs/grammar.md, "Items").
use Rattle.std.specs.Prelude.{◌≡◌, ℕ, false, List, ◌++◌, Option}
use Rattle.pl_frame.specs.Dialect.{Marks, AreDistinct, IsCommentPrefix}
use Rattle.pl_scan.specs.Closing.{ends_open}
use Rattle.pl_scan.specs.Laws.{IsEnded}
use Rattle.pl_table.specs.Rows.{rows}

-- Where a piece is empty or ends with a line end, and does not end within a quoted field, it is whole rows: whatever stands behind it,
-- the rows of both together are its own and then those of what stands behind it.
abbrev pub ClosingPieceEndsAtRowEnd : Type 0
ClosingPieceEndsAtRowEnd = (m : Marks) (comment : Option (List ℕ)) (piece rest : List ℕ) → AreDistinct m → IsCommentPrefix m.line_end comment → IsEnded m.line_end piece → ends_open m comment piece ≡ false
    → rows m comment (piece ++ rest) ≡ rows m comment piece ++ rows m comment rest
