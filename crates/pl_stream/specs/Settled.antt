-- The records of the bytes so far that are settled, and their text (docs/stream.md, "Settled records").
use Rattle.std.specs.Prelude.{ℕ, zero, suc, ◌+◌, Bool, true, not, ◌&&◌, ◌==◌, nat_le, nat_lt, if◌then◌else◌, List, [], ◌∷◌, length, filter, unwrap_or}
use Rattle.std.specs.List.{prefix_len}
use Rattle.pl_frame.specs.Frame.{ColumnValue}
use Rattle.pl_options.specs.declared.read_options.CsvReadOptions.{CsvReadOptions}
use Rattle.pl_options.specs.Text.{marks_of, comment_of}
use Rattle.pl_read.specs.Options.{data_of, rules_of}
use Rattle.pl_read.specs.Projection.{projected}
use Rattle.pl_read.specs.Rows.{with_index}
use Rattle.pl_read.specs.SettleGiven.{given_schema}
use Rattle.pl_rows.specs.Columns.{entries_in, frame_of_rows}
use Rattle.pl_rows.specs.Ranges.{limited}
use Rattle.pl_scan.specs.Start.{skip_line}
use Rattle.pl_table.specs.Rows.{Row, rows}
use Rattle.pl_text.specs.FrameText.{text_of_frame}
use Rattle.pl_write.specs.Options.{frame_options}
use Rattle.pl_write.specs.declared.options.CsvWriterOptions.{CsvWriterOptions}

-- ---- the records

-- so many lines can be skipped, each of them with a byte behind its line end
abbrev pub has_lines : ℕ → ℕ → List ℕ → Bool
has_lines e zero b = true
has_lines e (suc n) b = nat_lt (prefix_len (λ x. not (x == e)) b + 1) (length b) && has_lines e n (skip_line e b)

-- the head can be told from the bytes so far: a byte order mark and the mark of a compressed stream, and all lines that are to be skipped
abbrev pub tells_head : CsvReadOptions → List ℕ → Bool
tells_head o b = nat_le 4 (length b) && has_lines o.parse_options.eol_char o.skip_lines b

-- the records of the bytes so far; none where they are too few items to be skipped
abbrev pub rows_so_far : CsvReadOptions → List ℕ → List Row
rows_so_far o b = rows (marks_of o.parse_options) (comment_of o.parse_options) (unwrap_or (data_of o b) [])

-- a line end stands behind the record
abbrev pub is_whole : Row → Bool
is_whole row = not row.is_end

-- the settled records: those behind which a line end came, or the first so many of them
abbrev pub settled_rows : CsvReadOptions → List ℕ → List Row
settled_rows o b = if tells_head o b then limited o.n_rows (filter is_whole (rows_so_far o b)) else []

-- ---- their text

-- the frame of the first rows of a read, with their cells and numbers
abbrev pub frame_of_first : CsvReadOptions → List Row → List ColumnValue
frame_of_first o given =
    let schema = given_schema o in
    with_index o.row_index (length given) (frame_of_rows (rules_of o schema) (entries_in schema (projected o schema)) given)

-- the text of the frame of some rows; nothing where there are none
abbrev pub text_of_first : CsvReadOptions → CsvWriterOptions → List Row → List ℕ
text_of_first o write [] = []
text_of_first o write (row ∷ others) = text_of_frame (frame_options write) (frame_of_first o (row ∷ others))

-- the settled text
abbrev pub settled_text : CsvReadOptions → CsvWriterOptions → List ℕ → List ℕ
settled_text o write b = text_of_first o write (settled_rows o b)
