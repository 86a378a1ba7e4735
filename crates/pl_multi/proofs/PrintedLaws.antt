-- What came of a part that was converted.
use Rattle.std.proofs.Common.{◌≡◌, ℕ, List, [], ◌∷◌, ◌++◌, refl, sym, ◌∙◌, ap, subst, arith, inl, inr}
use Rattle.std.specs.Prelude.{if◌then◌else◌, None, Some, IsSome}
use Rattle.pl_frame.specs.ByteOrderMark.{byte_order_mark}
use Rattle.pl_frame.specs.Causes.{Rose}
use Rattle.pl_frame.specs.Frame.{ColumnValue, names_of}
use Rattle.pl_frame.specs.Schema.{Entry}
use Rattle.pl_frame.specs.declared.error.PolarsError.{PolarsError}
use Rattle.pl_frame.specs.declared.error.PolarsError.TheVariants as error
use Rattle.pl_text.specs.FrameText.{header_line, text_of_frame}
use Rattle.pl_options.specs.FirstCause.{IsFirstCause, IsFault}
use Rattle.pl_options.specs.declared.read_options.CsvReadOptions.{CsvReadOptions}
use Rattle.pl_read.specs.Options.{settled_schema}
use Rattle.pl_read.specs.Reading.{frame_of}
use Rattle.pl_read.specs.Refusals.{early_causes, late_causes, read_causes}
use Rattle.pl_read.specs.SettleGiven.{given_schema}
use Rattle.pl_read.specs.Steps.{MayRead, late_cause}
use Rattle.pl_read.proofs.CauseLaws.{first_some-late, first_some-behind}
use Rattle.pl_read.proofs.ReaderLaws.{first-same}
use Rattle.pl_write.specs.Batches.{all_lines}
use Rattle.pl_write.specs.Options.{cell_options, frame_options}
use Rattle.pl_write.specs.declared.options.CsvWriterOptions.{CsvWriterOptions}
use Rattle.pl_csv.specs.Transcoding.{quote_cause, all_causes, IsCause, IsConverted, IsTranscodeFault}
use Rattle.pl_csv.specs.Views.{SinkView}
use Rattle.pl_csv.proofs.TranscodeLaws.{quote_none}
use Rattle.pl_multi.specs.Printing.{HasNoHead, AreLinesOf}
use Rattle.pl_multi.proofs.RowsLaws.{settled-given}

-- without a head the text is the lines
text-lines : (write : CsvWriterOptions) (columns : List ColumnValue) → HasNoHead write → text_of_frame (frame_options write) columns ≡ all_lines (cell_options write.serialize_options) columns
text-lines write columns head =
    let o = frame_options write in
    (λ i. ((if head.unmarked i then byte_order_mark else []) ++ (if head.unnamed i then header_line o (names_of columns) else [])) ++ all_lines o columns)

-- no count of no faults rose
pub not-risen : Rose 0 0 → ⊥
not-risen rose = omega (arith, rose)

module _ (read : CsvReadOptions) (write : CsvWriterOptions) (input : List ℕ) (given : IsSome read.schema) (may : MayRead read) (head : HasNoHead write) where
  abbrev schema : List Entry
  schema = settled_schema read input

  same-schema : settled_schema read input ≡ given_schema read
  same-schema = settled-given read input given

  -- the first cause against the bytes, in two lists of causes
  first-read : IsFirstCause (read_causes read (settled_schema read input) input) read.parse_options (late_cause read (settled_schema read input) input)
  first-read = record {
    is_dialect = may.is_dialect;
    tells = may.tells;
    is = sym (first_some-late (early_causes read may.is_dialect) (late_causes read schema input) (sym may.is));
  }

  first-all : IsFirstCause (all_causes read (settled_schema read input) input write) read.parse_options (late_cause read (settled_schema read input) input)
  first-all = record {
    is_dialect = may.is_dialect;
    tells = may.tells;
    is = sym
        (first_some-late (early_causes read may.is_dialect) (quote_cause write ∷ late_causes read schema input) (sym may.is)
        ∙ first_some-behind (quote_cause write) (late_causes read schema input) (quote_none write head.ascii));
  }

  pub lines-read : (text : List ℕ) → IsConverted read write input (Some []) (Some text) → AreLinesOf read write input text
  lines-read text (frame, is) = record {
    sound = subst (λ (s : List Entry). late_cause read s input ≡ None) same-schema
        (first-same (read_causes read schema input) read.parse_options (late_cause read schema input) None first-read is.is.1.0);
    are = is.written ∙ text-lines write frame head ∙ ap (all_lines (cell_options write.serialize_options)) (is.is.1.1 ∙ ap (λ (s : List Entry). frame_of read s input) same-schema);
  }

  -- behind another text
  pub lines-behind : (text all : List ℕ) → IsConverted read write input (Some text) (Some all) → (lines : List ℕ) × (all ≡ text ++ lines) × AreLinesOf read write input lines
  lines-behind text all (frame, is) =
      let lines = text_of_frame (frame_options write) frame in
      (lines, is.written, lines-read lines (frame, record { is = is.is; written = refl }))

  told : (fault : PolarsError) → IsCause read (settled_schema read input) input write fault → IsFault (late_cause read (given_schema read) input) fault
  told fault cause =
      inl (subst (λ (s : List Entry). late_cause read s input ≡ Some fault) same-schema
      (first-same (all_causes read schema input write) read.parse_options (late_cause read schema input) (Some fault) first-all cause))

  pub lines-refused : (before now : SinkView) (fault : PolarsError) → (Rose before.faults now.faults → ⊥) → IsTranscodeFault read write input before now fault → IsFault (late_cause read (given_schema read) input) fault
  lines-refused before now error.IO stays given = absurd (stays given.0)
  lines-refused before now error.OutOfMemory stays given = inr refl
  lines-refused before now (error.InvalidOperation op) stays given = told (error.InvalidOperation op) given.0
  lines-refused before now (error.ComputeError compute) stays given = told (error.ComputeError compute) given.0
  lines-refused before now (error.NoData none) stays given = told (error.NoData none) given.0
  lines-refused before now (error.ColumnNotFound name) stays given = told (error.ColumnNotFound name) given.0
  lines-refused before now (error.OutOfBounds index length) stays given = told (error.OutOfBounds index length) given.0
  lines-refused before now (error.Duplicate name at) stays given = told (error.Duplicate name at) given.0
  lines-refused before now error.EmptyProjection stays given = told error.EmptyProjection given.0
