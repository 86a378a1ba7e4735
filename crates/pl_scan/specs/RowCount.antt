-- How many rows a text has (docs/grammar.md, "Counting rows").
use Rattle.std.specs.Prelude.{ℕ, ◌-◌, Bool, true, false, ◌==◌, if◌then◌else◌, List, [], ◌∷◌, drop, Option, None, Some, count_by}
use Rattle.std.specs.List.{prefix_len}
use Rattle.pl_frame.specs.Dialect.{Marks}
use Rattle.pl_scan.specs.Items.{ItemText, CommentText, RecordText, items}

-- without the line ends at the front
abbrev pub cut_line_ends : ℕ → List ℕ → List ℕ
cut_line_ends e b = drop (prefix_len (λ x. x == e) b) b

-- the item is a record and, where there is a comment prefix, has bytes
abbrev pub is_row : Option (List ℕ) → ItemText → Bool
is_row comment (CommentText b) = false
is_row None (RecordText b) = true
is_row (Some prefix) (RecordText []) = false
is_row (Some prefix) (RecordText (x ∷ xs)) = true

-- the number of rows behind leading line ends, less one for a header, never below zero
abbrev pub row_count : Bool → Marks → Option (List ℕ) → List ℕ → ℕ
row_count has_header m comment b = count_by (is_row comment) (items m comment (cut_line_ends m.line_end b)) - (if has_header then 1 else 0)
