-- Laws of items (docs/grammar.md, "Items").
use Rattle.std.specs.Prelude.{◌≡◌, ℕ, false, List, ◌++◌, Option, Some}
use Rattle.std.specs.List.{last_or}
use Rattle.pl_frame.specs.Dialect.{Marks, AreDistinct, IsCommentPrefix}
use Rattle.pl_scan.specs.Closing.{ends_open}
use Rattle.pl_scan.specs.Items.{items, records}

-- the text is empty, or this is its last byte
abbrev pub IsEnded : ℕ → List ℕ → Type 0
IsEnded e b = last_or (Some e) b ≡ Some e

-- Where a piece is empty or ends with a line end, and does not end within a quoted field, it is whole items: whatever stands
-- behind it, the items of both together are its own and then those of what stands behind it.
abbrev pub ClosingPieceEndsAtItemEnd : Type 0
ClosingPieceEndsAtItemEnd = (m : Marks) (comment : Option (List ℕ)) (piece rest : List ℕ) → AreDistinct m → IsCommentPrefix m.line_end comment → IsEnded m.line_end piece → ends_open m comment piece ≡ false
    → items m comment (piece ++ rest) ≡ items m comment piece ++ items m comment rest

-- and so are the records
abbrev pub ClosingPieceEndsAtRecordEnd : Type 0
ClosingPieceEndsAtRecordEnd = (m : Marks) (comment : Option (List ℕ)) (piece rest : List ℕ) → AreDistinct m → IsCommentPrefix m.line_end comment → IsEnded m.line_end piece → ends_open m comment piece ≡ false
    → records m comment (piece ++ rest) ≡ records m comment piece ++ records m comment rest
