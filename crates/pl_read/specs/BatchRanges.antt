-- The text of the next batches, by the ends of all ranges of what is left (docs/batches.md, "Where batches end").
use Rattle.std.specs.Prelude.{◌≡◌, ◌<◌, ℕ, suc, List, length, take, get_or}
use Rattle.pl_frame.specs.Dialect.{IsDialect}
use Rattle.pl_board.specs.LineStates.{states_before}
use Rattle.pl_board.specs.Ranges.{range_ends}
use Rattle.pl_options.specs.declared.read_options.CsvReadOptions.{CsvReadOptions}
use Rattle.pl_options.specs.Text.{marks_of, comment_of}
use Rattle.pl_scan.specs.LineCuts.{piece_ends}
use Rattle.pl_read.specs.Batches.{batch_text}

-- where the ranges of a text end
abbrev pub range_ends_of : CsvReadOptions → List ℕ → List ℕ
range_ends_of o text =
    let ends = piece_ends o.parse_options.eol_char o.chunk_size text in
    range_ends ends (states_before (marks_of o.parse_options) (comment_of o.parse_options) ends text)

-- The batches of a call are read of the text up to the end of the last of so many ranges, or of all of it where there are fewer.
abbrev pub BatchesAreReadOfRanges : Type 0
BatchesAreReadOfRanges = (o : CsvReadOptions) (n : ℕ) (rest : List ℕ) → IsDialect (marks_of o.parse_options) (comment_of o.parse_options) → 0 < o.chunk_size
    → batch_text o (suc n) rest ≡ take (get_or (range_ends_of o rest) n (length rest)) rest
