-- Options under which the text of a frame is read as that frame (docs/quoting.md, "What comes back").
use Rattle.std.specs.Prelude.{◌≡◌, ◌≢◌, ℕ, ◌<◌, true, List, [], ◌∷◌, Option, None, Some, Result, Ok}
use Rattle.pl_frame.specs.declared.error.PolarsError.{PolarsError}
use Rattle.pl_frame.specs.Frame.{ColumnValue, IsFrame}
use Rattle.pl_frame.specs.FrameParts.{schema_of}
use Rattle.pl_text.specs.FrameText.{WriteOptions, written_null, text_of_frame}
use Rattle.pl_cells.specs.declared.null_values.NullValues.{NullValues}
use Rattle.pl_cells.specs.declared.null_values.NullValues.TheVariants as values
use Rattle.pl_options.specs.declared.parse_options.CsvParseOptions.{CsvParseOptions}
use Rattle.pl_options.specs.declared.read_options.CsvReadOptions.{CsvReadOptions}
use Rattle.pl_round_trip.specs.Fits.{Fits}
use Rattle.pl_read.specs.CsvReader.{AnswersUnlessFailed}
use Rattle.pl_read.specs.Options.{settled_schema}
use Rattle.pl_read.specs.Reading.{IsRead}

-- what is written of a null alone means null, in all columns; no text does where that is empty
abbrev pub null_values_of : List ℕ → Option NullValues
null_values_of [] = None
null_values_of (x ∷ null) = Some (values.AllColumnsSingle (x ∷ null))

-- fields are cut by the separator and the quote that are written, and records by the line feed; there are no comments; what is written
-- of a null and missing texts mean null
abbrev pub matching_parse : CsvParseOptions → WriteOptions → CsvParseOptions
matching_parse parse write = record parse {
  separator = write.separator;
  quote_char = Some write.quote;
  eol_char = 10;
  null_values = null_values_of (written_null write);
  missing_is_null = true;
  comment_prefix = None;
}

-- under the schema of the frame, all rows and columns are read, none is added and nothing is skipped but the header, if one is written
abbrev pub matching : CsvReadOptions → WriteOptions → List ColumnValue → CsvReadOptions
matching read write columns = record read {
  n_rows = None;
  row_index = None;
  columns = None;
  projection = None;
  schema = Some (schema_of columns);
  dtype_overwrite = None;
  parse_options = matching_parse read.parse_options write;
  has_header = write.include_header;
  skip_rows = 0;
  skip_lines = 0;
  skip_rows_after_header = 0;
  fields_to_cast = [];
}

-- Options that match a way of writing: they are set so, there is a worker, and a piece has a byte; all else is free, as the number of
-- workers, the size of a piece, the encoding, and what is done with cells without a value.
pub record Matches (read : CsvReadOptions) (write : WriteOptions) (columns : List ColumnValue) : Type 0 where
  pub settings : read ≡ matching read write columns
  pub workers : read.n_threads ≢ Some 0
  pub piece : 0 < read.chunk_size

-- a frame that fits the way in which it is written, and options that match
pub record ComesBack (read : CsvReadOptions) (write : WriteOptions) (columns : List ColumnValue) : Type 0 where
  pub frame : IsFrame columns
  pub fits : Fits write columns
  pub matches : Matches read write columns

-- What is written is read again: the text of such a frame means that frame.
abbrev pub FramesReturn : Type 0
FramesReturn =
    (read : CsvReadOptions) (write : WriteOptions) (columns : List ColumnValue) → ComesBack read write columns
    → IsRead read (settled_schema read (text_of_frame write columns)) (text_of_frame write columns) columns

-- where the input is the text of such a frame, the answer is that frame, up to want of memory and a count that rose
abbrev pub ReturnsFrames : (read : CsvReadOptions) → (told : Option (List ℕ)) → (result : Result (List ColumnValue) PolarsError) → (before now : ℕ) → Type 0
ReturnsFrames read told result before now =
    (write : WriteOptions) (columns : List ColumnValue) → ComesBack read write columns → told ≡ Some (text_of_frame write columns)
    → AnswersUnlessFailed result (Ok columns) before now
