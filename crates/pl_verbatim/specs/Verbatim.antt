-- Rows that are written as they were read.
use Rattle.std.specs.Prelude.{◌≡◌, ℕ, ◌+◌, ◌<◌, ◌≤◌, true, List, [], ◌∷◌, ◌++◌, length, map, Option, None, Some, IfSome, slice_index, slice_range}
use Rattle.std.specs.List.{join_with_byte, range_with_len}
use Rattle.std.specs.Option.{option_map}
use Rattle.pl_cells.specs.NullTest.{NullTest, nothing_is_null}
use Rattle.pl_cells.specs.NullValues.{means_null}
use Rattle.pl_frame.specs.declared.data_type.DataType.{DataType}
use Rattle.pl_frame.specs.Schema.{Entry}
use Rattle.pl_text.specs.FrameText.{WriteOptions}
use Rattle.pl_frame.specs.Types.{is_readable}
use Rattle.pl_scan.specs.Dialect.{marks_of}
use Rattle.pl_rows.specs.declared.plan.RangePlan.{RangePlan}
use Rattle.pl_round_trip.specs.Fits.{FitsOptions}
use Rattle.pl_round_trip.specs.RoundTrip.{line_marks}
use Rattle.pl_verbatim.specs.declared.verbatim.Verbatim.{Verbatim}
use Rattle.pl_verbatim.specs.CellTexts.{IsCellOptions, IsCellOf, IsCopyOf, as_read}
use Rattle.pl_verbatim.specs.declared.form.Form.{Form}
use Rattle.pl_verbatim.specs.declared.kinds.Kind.{Kind}
use Rattle.pl_verbatim.specs.Kinds.{AreReadable, AreKindsOf, IsKindOf, read_columns}
use Rattle.pl_verbatim.specs.Changes.{AreChangesOf, IsFormOf, null_test_of}
use Rattle.pl_verbatim.specs.PrintedTexts.{CanPrint, IsTextPrinted}

-- ---- lines

-- texts are what is written of cells of the columns of a schema, each once and in order
abbrev pub AreCellsOf : WriteOptions → List Entry → List (List ℕ) → Type 0
AreCellsOf o [] [] = Unit {0}
AreCellsOf o (entry ∷ schema) (field ∷ fields) = IsCellOf o entry.1 field × AreCellsOf o schema fields
AreCellsOf o schema fields = ⊥

-- a line has such texts, with a separator between two of them and a line feed behind the last
pub record IsLineOf (o : WriteOptions) (schema : List Entry) (line : List ℕ) : Type 0 where
  pub fields : List (List ℕ)
  pub cells : AreCellsOf o schema fields
  pub line_is : line ≡ join_with_byte o.separator fields ++ 10 ∷ []

-- fields of the columns of a schema, each once and in order, with what is written of their cells
abbrev pub AreCopiesOf : WriteOptions → List Entry → List (List ℕ) → List (List ℕ) → Type 0
AreCopiesOf o schema fields written = AreChangesOf o o nothing_is_null (map Some schema) fields written

-- a line has such fields, with a separator between two of them and a line feed behind the last; and so does what is written of it
pub record IsLineCopyOf (o : WriteOptions) (schema : List Entry) (line copy : List ℕ) : Type 0 where
  pub fields : List (List ℕ)
  pub written : List (List ℕ)
  pub copies : AreCopiesOf o schema fields written
  pub line_is : line ≡ join_with_byte o.separator fields ++ 10 ∷ []
  pub copy_is : copy ≡ join_with_byte o.separator written ++ 10 ∷ []

-- ---- rows

-- Rows are read by the marks of these options, and what is missing is null. Some columns are read.
pub record IsReadSo (plan : RangePlan) (schema : List Entry) (o : WriteOptions) : Type 0 where
  pub marks : marks_of plan.dialect ≡ line_marks o
  pub comments : plan.dialect.comment_prefix ≡ None
  pub fits : FitsOptions o
  pub missing : plan.options.missing_is_null ≡ true
  pub some : 0 < length plan.projection.places.now

-- these texts mean null in each column
abbrev pub AreNulls : RangePlan → NullTest → Type 0
AreNulls plan is_null = (column : ℕ) → means_null (option_map (λ nulls. nulls.now) plan.options.null_values) column ≡ is_null

-- Rows are read so, all columns are, and no text means null but a missing one; and they are written by the same marks, quoted where necessary, with
-- nothing for a null
pub record IsWrittenAsRead (plan : RangePlan) (schema : List Entry) (o : WriteOptions) : Type 0 where
  pub read : IsReadSo plan schema o
  pub places : plan.projection.places.now ≡ range_with_len 0 (length schema)
  pub nulls : AreNulls plan nothing_is_null
  pub terminator : o.terminator ≡ 10 ∷ []
  pub null : o.null ≡ []
  pub style : o.style ≡ 0

-- these are the kinds and the marks of such rows
pub record AreRowsOf (plan : RangePlan) (schema : List Entry) (o : WriteOptions) (verbatim : Verbatim) : Type 0 where
  pub rows : IsWrittenAsRead plan schema o
  pub cells : IsCellOptions o verbatim.separator verbatim.quote_char
  pub kinds : AreKindsOf (map Some schema) verbatim.kinds.items

-- these are the kinds and the marks of rows that are written by a form
pub record AreChangedRowsOf (plan : RangePlan) (schema : List Entry) (o : WriteOptions) (verbatim : Verbatim) (form : Form) : Type 0 where
  pub rows : IsReadSo plan schema (as_read verbatim.separator o)
  pub nulls : AreNulls plan (null_test_of form)
  pub written : IsFormOf o verbatim.quote_char form
  pub kinds : AreKindsOf (read_columns 0 schema plan.projection.places.now) verbatim.kinds.items

-- and so they are, where there are kinds
pub record IsVerbatimOf (plan : RangePlan) (schema : List Entry) (o : WriteOptions) (verbatim : Verbatim) : Type 0 where
  pub same : verbatim.form ≡ None → 0 < length verbatim.kinds.items → AreRowsOf plan schema o verbatim
  pub changed : (form : Form) → verbatim.form ≡ Some form → 0 < length verbatim.kinds.items → AreChangedRowsOf plan schema o verbatim form

-- ---- rows that are copied

-- lines grew by something, or by nothing
pub record HasGrown (before now : List ℕ) : Type 0 where
  pub copy : List ℕ
  pub now_is : now ≡ before ++ copy

-- The field of a cell of a kind stands at a place, with a mark behind it, which ends at another place, and a text is what is written of
-- that cell, and the mark.
pub record IsMarkedCopy (text : List ℕ) (at next : ℕ) (kind : Kind) (mark separator quote : ℕ) (copy : List ℕ) : Type 0 where
  pub end : ℕ
  pub next_is : next ≡ end + 1
  pub after : at ≤ end
  pub within : end < length text
  pub mark_is : slice_index text end ≡ mark
  pub written : List ℕ
  pub cell : (o : WriteOptions) (type : DataType) → FitsOptions o → IsCellOptions o separator quote → is_readable type ≡ true → IsKindOf type kind → IsCopyOf o type (slice_range text at end) written
  pub copy_is : copy ≡ written ++ mark ∷ []

-- The field of a cell, and the mark behind it, end at a place, and what is written of the cell, and the mark, were copied: lines, and what is still
-- to be appended to them from a place on, are what they were, and this.
pub record IsCellCopied (text : List ℕ) (from from_now at : ℕ) (kind : Kind) (mark separator quote : ℕ) (before now : List ℕ) (next : ℕ) : Type 0 where
  pub copy : List ℕ
  pub behind : from_now ≤ next
  pub now_is : now ++ slice_range text from_now next ≡ (before ++ slice_range text from at) ++ copy
  pub cell : IsMarkedCopy text at next kind mark separator quote copy

-- lines grew, and where the line of a row ends at a place, they grew by what is written of it
pub record IsRowCopied (text : List ℕ) (start : ℕ) (kinds : List Kind) (separator quote : ℕ) (before now : List ℕ) (result : Option ℕ) : Type 0 where
  pub copy : List ℕ
  pub now_is : now ≡ before ++ copy
  pub line : IfSome result (λ end. (o : WriteOptions) (schema : List Entry) → FitsOptions o → IsCellOptions o separator quote → AreReadable (map Some schema) → AreKindsOf (map Some schema) kinds
      → IsLineCopyOf o schema (slice_range text start end) copy)

-- lines grew by what is written of so many rows, which stand in a text from one place to another
pub record AreRowsCopied (verbatim : Verbatim) (text : List ℕ) (from end rows : ℕ) (before now : List ℕ) : Type 0 where
  pub copy : List ℕ
  pub now_is : now ≡ before ++ copy
  pub after : from ≤ end
  pub within : end ≤ length text
  pub printed : (plan : RangePlan) (schema : List Entry) (o : WriteOptions) → CanPrint plan schema → IsVerbatimOf plan schema o verbatim → IsTextPrinted plan schema o (slice_range text from end) rows copy
