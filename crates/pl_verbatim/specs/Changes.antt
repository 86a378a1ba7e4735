-- Rows that are written otherwise than they were read.
use Rattle.std.specs.Prelude.{◌≡◌, ℕ, ◌+◌, ◌<◌, ◌≤◌, Bool, true, false, not, if◌then◌else◌, List, [], ◌∷◌, ◌++◌, length, Option, Ok, None, Some, slice_index, slice_range}
use Rattle.std.specs.List.{join_with_byte}
use Rattle.pl_frame.specs.declared.data_type.DataType.{DataType}
use Rattle.pl_frame.specs.Dialect.{Marks}
use Rattle.pl_frame.specs.Schema.{Entry}
use Rattle.pl_frame.specs.Types.{is_readable}
use Rattle.pl_text.specs.FrameText.{WriteOptions, is_bare, written_null}
use Rattle.pl_cells.specs.Cells.{Reading, cell}
use Rattle.pl_cells.specs.NullTest.{NullTest, nothing_is_null}
use Rattle.pl_cells.specs.NullValues.{means_null}
use Rattle.pl_round_trip.specs.Fits.{FitsOptions}
use Rattle.pl_round_trip.specs.RoundTrip.{IsFieldText, line_marks}
use Rattle.pl_verbatim.specs.declared.form.Form.{Form}
use Rattle.pl_verbatim.specs.declared.found.Found.{Found}
use Rattle.pl_verbatim.specs.declared.kinds.Kind.{Kind}
use Rattle.pl_verbatim.specs.CellTexts.{as_read, zeros_text, IsChangeOf}
use Rattle.pl_verbatim.specs.Kinds.{AreReadable, AreKindsOf, IsKindOf, is_passed}

-- ---- options

-- cells are written with this quote and by this form, not without any quotes
pub record IsFormOf (o : WriteOptions) (quote : ℕ) (form : Form) : Type 0 where
  pub quote_is : o.quote ≡ quote
  pub separator_is : o.separator ≡ form.separator
  pub few : o.style < 3
  pub numbers_are : form.quotes_numbers ≡ not (is_bare o.style true)
  pub values_are : form.quotes_values ≡ not (is_bare o.style false)
  pub null_is : form.null.items ≡ written_null o
  pub terminator_is : form.terminator.items ≡ o.terminator

-- only nulls are written otherwise than they are read, where this separator stands between fields
pub record IsAlike (form : Form) (separator : ℕ) : Type 0 where
  pub separator_is : form.separator ≡ separator
  pub values_are : form.quotes_values ≡ false
  pub terminator_is : form.terminator.items ≡ 10 ∷ []

-- ---- texts that mean null

-- a field is null, whatever the type of its column
abbrev pub IsNullField : NullTest → ℕ → List ℕ → Type 0
IsNullField is_null quote field = (reading : Reading) (type : DataType) → cell reading is_null (Some quote) type field ≡ Ok None

-- a field is what it is where no text means null but a missing one
abbrev pub IsOtherField : NullTest → ℕ → List ℕ → Type 0
IsOtherField is_null quote field = (reading : Reading) (type : DataType) → cell reading is_null (Some quote) type field ≡ cell reading nothing_is_null (Some quote) type field

-- ---- cells

-- a text between quotes, or without
abbrev pub framed : Bool → ℕ → List ℕ → List ℕ
framed is_quoted quote text = if is_quoted then quote ∷ (text ++ quote ∷ []) else text

-- the texts that mean null in each column
abbrev pub null_test_of : Form → NullTest
null_test_of form = means_null form.nulls 0

-- a text is what is written of a field's cell, for each type of the kind
abbrev pub IsChangeOfKind : ℕ → ℕ → Form → NullTest → Kind → List ℕ → List ℕ → Type 0
IsChangeOfKind separator quote form is_null kind field written =
    (o : WriteOptions) (type : DataType) → FitsOptions (as_read separator o) → IsFormOf o quote form → is_readable type ≡ true → IsKindOf type kind → IsChangeOf (as_read separator o) o is_null type field written

-- what was found in a text
abbrev pub found_text : List ℕ → ℕ → Found → List ℕ
found_text text quote found = framed found.is_quoted quote (slice_range text found.start found.stop ++ zeros_text found.zeros)

-- the field of a cell of a kind stands at a place, with a mark behind it, and what is written of the cell was found, where no text means null
pub record IsFound (text : List ℕ) (at : ℕ) (kind : Kind) (mark separator quote : ℕ) (form : Form) (found : Found) : Type 0 where
  pub after : at ≤ found.end
  pub within : found.end < length text
  pub mark_is : slice_index text found.end ≡ mark
  pub ordered : found.start ≤ found.stop
  pub inside : found.stop ≤ length text
  pub few : found.zeros ≤ 9
  pub cell : IsChangeOfKind separator quote form nothing_is_null kind (slice_range text at found.end) (found_text text quote found)

-- The field of a cell of a kind stands at a place, with a mark behind it, which ends at another place, and lines grew by what is written of the cell.
pub record IsCellPut (text : List ℕ) (at next : ℕ) (kind : Kind) (mark separator quote : ℕ) (form : Form) (before now : List ℕ) : Type 0 where
  pub end : ℕ
  pub next_is : next ≡ end + 1
  pub after : at ≤ end
  pub within : end < length text
  pub mark_is : slice_index text end ≡ mark
  pub written : List ℕ
  pub now_is : now ≡ before ++ written
  pub cell : IsChangeOfKind separator quote form (null_test_of form) kind (slice_range text at end) written

-- the marks by which fields are cut
abbrev pub field_marks : ℕ → ℕ → Marks
field_marks separator quote = record { separator = separator; quote = Some quote; line_end = 10 }

-- a text is a field, whatever it holds
abbrev pub IsAnyField : ℕ → ℕ → List ℕ → Type 0
IsAnyField separator quote field = IsFieldText (field_marks separator quote) field

-- a field stands at a place, with a mark behind it, which ends at another place
pub record IsFieldPassed (text : List ℕ) (at mark separator quote next : ℕ) : Type 0 where
  pub end : ℕ
  pub next_is : next ≡ end + 1
  pub after : at ≤ end
  pub within : end < length text
  pub mark_is : slice_index text end ≡ mark
  pub field : IsAnyField separator quote (slice_range text at end)

-- What is put of a field: nothing where its column is not read, so that it is enough that it is a field; else what is written of its cell, behind a
-- separator unless it is the first.
abbrev pub IsPutOf : Bool → Bool → ℕ → ℕ → Form → Kind → List ℕ → List ℕ → Type 0
IsPutOf true is_first separator quote form kind field part = (part ≡ []) × IsAnyField separator quote field
IsPutOf false is_first separator quote form kind field part =
    (written : List ℕ) × (part ≡ (if is_first then written else form.separator ∷ written)) × IsChangeOfKind separator quote form (null_test_of form) kind field written

-- the field of a column of a kind stands at a place, with a mark behind it, which ends at another place, and lines grew by what is put of it
pub record IsColumnPut (text : List ℕ) (at next : ℕ) (kind : Kind) (mark separator quote : ℕ) (form : Form) (is_first : Bool) (before now : List ℕ) : Type 0 where
  pub end : ℕ
  pub next_is : next ≡ end + 1
  pub after : at ≤ end
  pub within : end < length text
  pub mark_is : slice_index text end ≡ mark
  pub part : List ℕ
  pub now_is : now ≡ before ++ part
  pub put : IsPutOf (is_passed kind) is_first separator quote form kind (slice_range text at end) part

-- ---- lines

-- fields of columns, each once and in order, with what is written of the cells of those that are read; of any other it is enough that it is a field
abbrev pub AreChangesOf : WriteOptions → WriteOptions → NullTest → List (Option Entry) → List (List ℕ) → List (List ℕ) → Type 0
AreChangesOf r o is_null [] [] [] = Unit {0}
AreChangesOf r o is_null (None ∷ columns) (field ∷ fields) others = IsFieldText (line_marks r) field × AreChangesOf r o is_null columns fields others
AreChangesOf r o is_null (Some entry ∷ columns) (field ∷ fields) (written ∷ others) = IsChangeOf r o is_null entry.1 field written × AreChangesOf r o is_null columns fields others
AreChangesOf r o is_null columns fields written = ⊥

-- a line has such fields, with a separator between two of them and a line feed behind the last; and what is written of it has what is written of them
pub record IsLineChangeOf (r o : WriteOptions) (is_null : NullTest) (columns : List (Option Entry)) (line copy : List ℕ) : Type 0 where
  pub fields : List (List ℕ)
  pub written : List (List ℕ)
  pub changes : AreChangesOf r o is_null columns fields written
  pub line_is : line ≡ join_with_byte r.separator fields ++ 10 ∷ []
  pub copy_is : copy ≡ join_with_byte o.separator written ++ o.terminator

-- what is written of a line, for all columns of the kinds
abbrev pub IsLineChangeOfKinds : ℕ → ℕ → Form → List Kind → List ℕ → List ℕ → Type 0
IsLineChangeOfKinds separator quote form kinds line copy =
    (o : WriteOptions) (columns : List (Option Entry)) → FitsOptions (as_read separator o) → IsFormOf o quote form → AreReadable columns → AreKindsOf columns kinds → IsLineChangeOf (as_read separator o) o (null_test_of form) columns line copy

-- the line of a row ends at a place, and lines grew by what is written of it
pub record IsRowPut (text : List ℕ) (start : ℕ) (kinds : List Kind) (separator quote : ℕ) (form : Form) (before now : List ℕ) (end : ℕ) : Type 0 where
  pub copy : List ℕ
  pub now_is : now ≡ before ++ copy
  pub line : IsLineChangeOfKinds separator quote form kinds (slice_range text start end) copy
