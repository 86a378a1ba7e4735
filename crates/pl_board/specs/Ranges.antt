-- The ranges of a text: what stands between pieces that a scan comes to at the start of an item (docs/pieces.md, "States").
use Rattle.std.specs.Prelude.{ℕ, Bool, true, false, if◌then◌else◌, List, [], ◌∷◌, Option}
use Rattle.std.specs.List.{AllByRecursion}
use Rattle.pl_frame.specs.Dialect.{Marks}
use Rattle.pl_scan.specs.declared.summary.LineState.{LineState}
use Rattle.pl_scan.specs.declared.summary.LineState.TheVariants.{Start, Open}
use Rattle.pl_scan.specs.LineCuts.{piece_ends}
use Rattle.pl_scan.specs.PieceLaws.{IsRange}
use Rattle.pl_board.specs.LineStates.{states_before}
use Rattle.pl_board.specs.Pieces.{piece_texts}

-- no piece comes next, or one that a scan comes to at the start of an item; by the states in front of the pieces to come
abbrev pub begins_item : List LineState → Bool
begins_item [] = true
begins_item (Start ∷ states) = true
begins_item (Open ∷ states) = false

-- of the ends of pieces, those of the ranges: the last one, and each in front of a piece that begins at the start of an item
abbrev pub range_ends : List ℕ → List LineState → List ℕ
range_ends [] states = []
range_ends (end ∷ ends) [] = []
range_ends (end ∷ ends) (state ∷ states) = if begins_item states then end ∷ range_ends ends states else range_ends ends states

-- where the ranges of a text end that is cut into pieces of about a size
abbrev pub cut_ranges : Marks → Option (List ℕ) → ℕ → List ℕ → List ℕ
cut_ranges m comment size b =
    let ends = piece_ends m.line_end size b in
    range_ends ends (states_before m comment ends b)

-- a list without its last item
abbrev pub but_last : {A : Type 0} → List A → List A
but_last [] = []
but_last (x ∷ []) = []
but_last (x ∷ y ∷ xs) = x ∷ but_last (y ∷ xs)

-- each part of the text between these places is whole items but for the last one, whatever stands behind it: it is a range
abbrev pub AreRanges : Marks → Option (List ℕ) → List ℕ → List ℕ → Type 0
AreRanges m comment ends b = AllByRecursion (IsRange m comment) (piece_texts 0 (but_last ends) b)
