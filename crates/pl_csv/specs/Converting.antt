-- An input that is read and printed piece by piece (docs/regions.md, "From an input to regions").
use Rattle.std.specs.Prelude.{◌≡◌, ℕ, ◌+◌, ◌<◌, false, List, ◌∷◌, map, ◌⊎◌, ◌≤◌, ◌^◌, length, IfSome, MatchOption}
use Rattle.std.specs.Cow.{cow_slice_items}
use Rattle.std.specs.List.{list_any}
use Rattle.pl_frame.specs.Frame.{ColumnValue, height_of, names_of}
use Rattle.pl_frame.specs.RowIndex.{row_index_column}
use Rattle.pl_frame.specs.Schema.{Entry}
use Rattle.pl_text.specs.FrameText.{text_of_frame}
use Rattle.pl_cells.specs.InitBuffers.{entry_at}
use Rattle.pl_options.specs.declared.read_options.CsvReadOptions.{CsvReadOptions}
use Rattle.pl_infer.specs.Schemas.{is_categorical}
use Rattle.pl_read.specs.Options.{settled_schema}
use Rattle.pl_read.specs.Projection.{projected}
use Rattle.pl_row_numbers.specs.Numbers.{AreLinesOf, CanNumber}
use Rattle.pl_write.specs.Options.{cell_options, frame_options}
use Rattle.pl_write.specs.Printed.{printed_text}
use Rattle.pl_write.specs.declared.options.CsvWriterOptions.{CsvWriterOptions}
use Rattle.pl_csv.specs.Transcoding.{IsValidRead}
use Rattle.pl_csv.specs.declared.convert.Printed.{Printed}

-- so many columns are read of rows whose lines can be numbered from one number on, and the numbers of so many rows fit 64 bits
pub record AreNumberable (write : CsvWriterOptions) (width offset amount : ℕ) : Type 0 where
  pub can : CanNumber (cell_options write.serialize_options)
  pub some : 0 < width
  pub fits : offset + amount ≤ 2 ^ 64

-- the rows of data may be printed as they are read: where there is a row index, their lines can be numbered afterwards
pub record IsRowByRow (read : CsvReadOptions) (write : CsvWriterOptions) (schema : List Entry) (records : List ℕ) : Type 0 where
  pub numbered : IfSome read.row_index (λ index. AreNumberable write (length (projected read schema)) index.offset (length records))

-- there are codes for all categories of so many rows: no column is read that has any, or there are no more rows than codes of 32 bits
abbrev pub HaveCodes : List Entry → List ℕ → ℕ → Type 0
HaveCodes schema places rows = (list_any (λ place. is_categorical (entry_at schema place).1) places ≡ false) ⊎ (rows ≤ 2 ^ 32)

-- the lines of all rows of a frame were printed without the row index that it begins with, and the columns that are left have its names and no rows
pub record AreUnnumbered (write : CsvWriterOptions) (offset : ℕ) (printed : Printed) (frame : List ColumnValue) : Type 0 where
  pub name : List ℕ
  pub columns : List ColumnValue
  pub frame_is : frame ≡ row_index_column name offset (height_of columns) ∷ columns
  pub lines : AreLinesOf (cell_options write.serialize_options) offset columns (map cow_slice_items printed.lines.items)
  pub names : names_of printed.rest ≡ names_of frame
  pub none : height_of printed.rest ≡ 0

-- lines that were printed and the columns that are left have the text of a frame, its numbers put in front of the lines where they are wanting
abbrev pub HasTextOf : CsvWriterOptions → Printed → List ColumnValue → Type 0
HasTextOf write printed frame =
    MatchOption printed.numbers
    (printed_text (frame_options write) (names_of printed.rest) (map cow_slice_items printed.lines.items) printed.rest ≡ text_of_frame (frame_options write) frame)
    (λ offset. AreUnnumbered write offset printed frame)

-- what was read of an input, given its settled schema, to be written: it means a frame that can be written, and these lines and columns
-- have its text
pub record IsPrintedRead (read : CsvReadOptions) (write : CsvWriterOptions) (input : List ℕ) (printed : Printed) : Type 0 where
  pub frame : List ColumnValue
  pub is : IsValidRead read (settled_schema read input) input write frame
  pub text_is : HasTextOf write printed frame
