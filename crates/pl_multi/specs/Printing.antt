-- Parts whose rows are printed as they are read, in place of a frame; only the proofs of the code need them.
use Rattle.std.specs.Prelude.{◌≡◌, ℕ, Bool, false, List, [], Option, None}
use Rattle.std.specs.List.{concat, list_any}
use Rattle.pl_frame.specs.Frame.{ColumnValue, IsFrame, names_of}
use Rattle.pl_frame.specs.FrameParts.{HaveSameColumns}
use Rattle.pl_text.specs.FrameText.{text_of_frame}
use Rattle.pl_options.specs.declared.read_options.CsvReadOptions.{CsvReadOptions}
use Rattle.pl_infer.specs.Schemas.{is_categorical}
use Rattle.pl_read.specs.Reading.{frame_of}
use Rattle.pl_read.specs.SettleGiven.{given_schema}
use Rattle.pl_read.specs.Steps.{late_cause}
use Rattle.pl_write.specs.Batches.{all_lines}
use Rattle.pl_write.specs.Options.{cell_options, frame_options}
use Rattle.pl_write.specs.Printed.{printed_text}
use Rattle.pl_write.specs.declared.options.CsvWriterOptions.{CsvWriterOptions}
use Rattle.pl_csv.specs.Transcoding.{HasAsciiQuote}
use Rattle.pl_multi.specs.Parts.{partition_names}
use Rattle.pl_multi.specs.Scan.{IsHeld, IsJoined, no_rows}
use Rattle.pl_multi.specs.Joining.{AreJoined}
use Rattle.pl_multi.specs.Words.{Asked}
use Rattle.pl_multi.specs.declared.part.Part.{Part}
use Rattle.pl_multi.specs.declared.printing.Joined.{Joined}
use Rattle.pl_multi.specs.declared.printing.Joined.TheVariants as joined

-- ---- what can be printed

-- all rows are wanted, and they are neither numbered nor followed by values
pub record IsPlain (o : CsvReadOptions) (slice : Option (ℕ × ℕ)) (parts : List Part) : Type 0 where
  pub unsliced : slice ≡ None
  pub unnumbered : o.row_index ≡ None
  pub bare : partition_names parts ≡ []

-- one of the columns has categories, whose codes would have to be counted over all parts
abbrev pub have_codes : List ColumnValue → Bool
have_codes columns = list_any (λ column. is_categorical column.dtype) columns

-- ---- one part

-- how a part is printed: its quote is ASCII, and nothing stands before its rows
pub record HasNoHead (write : CsvWriterOptions) : Type 0 where
  pub ascii : HasAsciiQuote write
  pub unmarked : write.include_bom ≡ false
  pub unnamed : write.include_header ≡ false

-- no cause stands against bytes, and these are the lines of their rows
pub record AreLinesOf (read : CsvReadOptions) (write : CsvWriterOptions) (bytes lines : List ℕ) : Type 0 where
  pub sound : late_cause read (given_schema read) bytes ≡ None
  pub are : lines ≡ all_lines (cell_options write.serialize_options) (frame_of read (given_schema read) bytes)

-- lines of the bytes that are held at the path of a part
abbrev pub ArePartLines : (List ℕ → Option (List ℕ)) → CsvReadOptions → CsvWriterOptions → Part → List ℕ → Type 0
ArePartLines holds read write part lines = (bytes : List ℕ) × IsHeld holds (part, bytes) × AreLinesOf read write bytes lines

-- ---- all parts

-- the parts before this place were read, and these are the lines of their rows, part by part
pub record ArePrinted (holds : List ℕ → Option (List ℕ)) (read : CsvReadOptions) (write : CsvWriterOptions) (parts : List Part) (place : ℕ) (lines : List (List ℕ)) : Type 0 where
  pub columns : List ColumnValue
  pub joined : AreJoined holds read None parts place columns
  pub frame : IsFrame columns
  pub same : HaveSameColumns (no_rows read parts) columns
  pub are : concat lines ≡ all_lines (cell_options write.serialize_options) columns

-- the text of what was read of all parts
abbrev pub joined_text : CsvWriterOptions → Joined → List ℕ
joined_text write (joined.Frame frame) = text_of_frame (frame_options write) frame
joined_text write (joined.Lines lines empty) = printed_text (frame_options write) (names_of empty) lines.items empty

-- it is the text of their joined read
pub record IsJoinedBy (holds : List ℕ → Option (List ℕ)) (job : Asked) (given : Joined) : Type 0 where
  pub frame : List ColumnValue
  pub is : IsJoined holds job.read job.slice job.parts frame
  pub text_is : joined_text job.write given ≡ text_of_frame (frame_options job.write) frame
