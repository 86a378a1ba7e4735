-- A line of fields whose cells are known is a row, and what is written of it is known; so a line of texts that are written of cells is
-- written as it was read.
use Rattle.std.proofs.Common.{◌≡◌, ℕ, suc, ◌+◌, ◌<◌, ◌≤◌, Bool, true, false, cond, if◌then◌else◌, not, ◌&&◌, ◌||◌, ◌==◌, List, [], ◌∷◌, ◌++◌, length, map, Option, None, Some, refl, sym, ◌∙◌, ap, subst, arith, append-nil, length-append}
use Rattle.std.specs.Prelude.{Ok, drop, nat_lt}
use Rattle.std.specs.List.{AllByRecursion, filter_map, flat_map, join_with_byte, last_or, list_any, range_with_len}
use Rattle.std.proofs.lemmas.Bool.Decides.{nat_tests}
use Rattle.std.proofs.lemmas.List.{length-map}
use Rattle.pl_frame.specs.declared.data_type.DataType.{DataType}
use Rattle.pl_frame.specs.declared.error.FaultKind.{FaultKind}
use Rattle.pl_frame.specs.declared.error.FaultKind.TheVariants as fault
use Rattle.pl_frame.specs.Dialect.{AreDistinct}
use Rattle.pl_frame.specs.Frame.{ColumnValue, cell_at, height_of}
use Rattle.pl_frame.specs.Schema.{Entry}
use Rattle.pl_text.specs.FrameText.{WriteOptions, written_null, written_cell, row_line}
use Rattle.pl_frame.specs.Types.{is_readable}
use Rattle.pl_scan.specs.Closing.{ends_open, have_open_end}
use Rattle.pl_scan.specs.Comment.{prefix_of}
use Rattle.pl_scan.specs.Dialect.{marks_of, comment_of}
use Rattle.pl_scan.specs.Fields.{extent}
use Rattle.pl_scan.specs.Laws.{IsEnded}
use Rattle.pl_scan.proofs.RecordLaws.{have_open_end-closed}
use Rattle.pl_table.specs.Rows.{Row, rows, row_at, ended_row}
use Rattle.pl_cells.specs.Cells.{fault_of, value_of}
use Rattle.pl_cells.specs.Cells as cells
use Rattle.pl_cells.specs.InitBuffers.{entry_at, first_unreadable}
use Rattle.pl_cells.specs.NullTest.{NullTest, nothing_is_null}
use Rattle.pl_rows.specs.declared.plan.RangePlan.{RangePlan}
use Rattle.pl_rows.specs.Cells.{cell}
use Rattle.pl_rows.specs.Columns.{read_column, frame_of_rows, entries_in, columns_in}
use Rattle.pl_rows.specs.Pieces.{EndsItem}
use Rattle.pl_rows.specs.Plan.{AreRising, rules_of}
use Rattle.pl_cells.specs.Columns.{field_in}
use Rattle.pl_rows.specs.Rows.{column_fault, is_forgiven, passes_excess, first_fault}
use Rattle.pl_rows.specs.WholePieces.{IsSoundText, text_frame}
use Rattle.pl_rows.proofs.OpenLaws.{is_open_row, open_rows}
use Rattle.pl_rows.proofs.RangeLaws.{rows-step}
use Rattle.pl_write.specs.Batches.{all_lines}
use Rattle.pl_round_trip.specs.Fits.{FitsOptions}
use Rattle.pl_round_trip.specs.RoundTrip.{IsFieldText, RowsReturn, line_marks, line_of}
use Rattle.pl_verbatim.specs.CellTexts.{IsChangeOf}
use Rattle.pl_verbatim.specs.Changes.{AreChangesOf, IsLineChangeOf}
use Rattle.pl_verbatim.specs.Kinds.{AreReadable, read_columns}
use Rattle.pl_verbatim.specs.PrintedTexts.{CanPrint, IsTextPrinted}
use Rattle.pl_verbatim.proofs.CopyLaws.{cell-copy}
use Rattle.pl_verbatim.proofs.RowChangeLaws.{count-fields}
use Rattle.pl_verbatim.proofs.SchemaLaws.{count-columns, read-all}
use Rattle.pl_verbatim.specs.Verbatim.{AreCellsOf, AreCopiesOf, IsLineOf, IsLineCopyOf, AreNulls, IsReadSo, IsWrittenAsRead}

-- no fault for fields past the columns
none-past : (p q : Bool) (found : ℕ × FaultKind) → cond (not p && (false && q)) (Some found) None ≡ None
none-past true q found = refl
none-past false q found = refl

-- the first of two lists that are the same
first-of : {X : Type 0} {x y : X} {xs ys : List X} → x ∷ xs ≡ y ∷ ys → x ≡ y
first-of same = cc

-- ---- columns of a schema

-- a list made of the columns that are read, numbered from a number on
abbrev pub spread : {X : Type 0} → (ℕ → Entry → X) → ℕ → List (Option Entry) → List X
spread g a [] = []
spread g a (None ∷ columns) = spread g (a + 1) columns
spread g a (Some entry ∷ columns) = g a entry ∷ spread g (a + 1) columns

module _ {X : Type 0} (g : ℕ → Entry → X) (schema : List Entry) where
  -- what is made of places that rise is made of the columns that are read
  spread-from : (a : ℕ) (rest : List Entry) (places : List ℕ) → AreRising a (a + length rest) places → ((k : ℕ) → k < length rest → entry_at schema (a + k) ≡ entry_at rest k)
      → map (λ place. g place (entry_at schema place)) places ≡ spread g a (read_columns a rest places)
  spread-from a [] [] rising same = refl
  spread-from a [] (place ∷ places) rising same = absurd (omega (arith, rising.0, rising.1))
  spread-from a (entry ∷ rest) [] rising same =
      spread-from (a + 1) rest [] tt (λ k below. ap (entry_at schema) (let next : a + 1 + k ≡ a + suc k = omega arith in next) ∙ same (suc k) (omega (arith, below)))
  spread-from a (entry ∷ rest) (place ∷ places) rising same =
      by (place == a) refl (λ later. spread-from (a + 1) rest places later others) (λ later. spread-from (a + 1) rest (place ∷ places) later others)
    where
      others : (k : ℕ) → k < length rest → entry_at schema (a + 1 + k) ≡ entry_at rest k
      others k below = ap (entry_at schema) (let next : a + 1 + k ≡ a + suc k = omega arith in next) ∙ same (suc k) (omega (arith, below))

      width : a + suc (length rest) ≡ a + 1 + length rest
      width = omega arith

      f : ℕ → X
      f place = g place (entry_at schema place)

      by : (t : Bool) → (place == a) ≡ t → (AreRising (a + 1) (a + 1 + length rest) places → map f places ≡ spread g (a + 1) (read_columns (a + 1) rest places))
          → (AreRising (a + 1) (a + 1 + length rest) (place ∷ places) → map f (place ∷ places) ≡ spread g (a + 1) (read_columns (a + 1) rest (place ∷ places)))
          → map f (place ∷ places) ≡ spread g a (if t then Some entry ∷ read_columns (a + 1) rest places else None ∷ read_columns (a + 1) rest (place ∷ places))
      by true is read passed =
          let here : place ≡ a = grind (arith, nat_tests, is) in
          let first : entry_at schema place ≡ entry = ap (entry_at schema) (here ∙ (let k : a ≡ a + 0 = omega arith in k)) ∙ same 0 (omega arith) in
          let later : AreRising (a + 1) (a + 1 + length rest) places = subst (λ n. AreRising (n + 1) (a + 1 + length rest) places) here (subst (λ n. AreRising (place + 1) n places) width rising.2) in
          (λ j. g (here j) (first j) ∷ read later j)
      by false is read passed =
          let apart : a + 1 ≤ place = grind (arith, nat_tests, is, rising.0) in
          passed (apart, omega (arith, rising.1, width), subst (λ n. AreRising (place + 1) n places) width rising.2)

  pub spread-is : (places : List ℕ) → AreRising 0 (length schema) places → map (λ place. g place (entry_at schema place)) places ≡ spread g 0 (read_columns 0 schema places)
  spread-is places rising =
      spread-from 0 schema places (subst (λ n. AreRising 0 n places) (let whole : length schema ≡ 0 + length schema = omega arith in whole) rising)
      (λ k below. ap (entry_at schema) (let same : 0 + k ≡ k = omega arith in same))

-- each of them can be read
readable-from : (schema : List Entry) (a : ℕ) (rest : List Entry) (places : List ℕ) → first_unreadable schema places ≡ None → ((k : ℕ) → k < length rest → entry_at schema (a + k) ≡ entry_at rest k)
    → AreReadable (read_columns a rest places)
readable-from schema a [] places none same = tt
readable-from schema a (entry ∷ rest) [] none same =
    (tt, readable-from schema (a + 1) rest [] none (λ k below. ap (entry_at schema) (let next : a + 1 + k ≡ a + suc k = omega arith in next) ∙ same (suc k) (omega (arith, below))))
readable-from schema a (entry ∷ rest) (place ∷ places) none same =
    by (place == a) refl (is_readable (entry_at schema place).1) refl none (λ left. readable-from schema (a + 1) rest places left others) (readable-from schema (a + 1) rest (place ∷ places) none others)
  where
    others : (k : ℕ) → k < length rest → entry_at schema (a + 1 + k) ≡ entry_at rest k
    others k below = ap (entry_at schema) (let next : a + 1 + k ≡ a + suc k = omega arith in next) ∙ same (suc k) (omega (arith, below))

    by : (t : Bool) → (place == a) ≡ t → (can : Bool) → is_readable (entry_at schema place).1 ≡ can → (if not can then Some place else first_unreadable schema places) ≡ None
        → (first_unreadable schema places ≡ None → AreReadable (read_columns (a + 1) rest places)) → AreReadable (read_columns (a + 1) rest (place ∷ places))
        → AreReadable (if t then Some entry ∷ read_columns (a + 1) rest places else None ∷ read_columns (a + 1) rest (place ∷ places))
    by t is false can_is left read passed = absurd (cc)
    by true is true can_is left read passed =
        let here : place ≡ a + 0 = grind (arith, nat_tests, is) in
        let first : entry_at schema place ≡ entry = ap (entry_at schema) here ∙ same 0 (omega arith) in
        (ap (λ (e : Entry). is_readable e.1) (sym first) ∙ can_is, read left)
    by false is true can_is left read passed = (tt, passed)

pub are-readable : (schema : List Entry) (places : List ℕ) → first_unreadable schema places ≡ None → AreReadable (read_columns 0 schema places)
are-readable schema places none = readable-from schema 0 schema places none (λ k below. ap (entry_at schema) (let same : 0 + k ≡ k = omega arith in same))

-- and so can all, where all are read
pub all-readable : (schema : List Entry) (places : List ℕ) → places ≡ range_with_len 0 (length schema) → first_unreadable schema places ≡ None → AreReadable (map Some schema)
all-readable schema places all none = subst AreReadable (ap (read_columns 0 schema) all ∙ read-all 0 schema) (are-readable schema places none)

-- ---- fields

-- each stands in a line
pub field-texts : (r o : WriteOptions) (is_null : NullTest) (columns : List (Option Entry)) (texts written : List (List ℕ)) → AreChangesOf r o is_null columns texts written → AllByRecursion (IsFieldText (line_marks r)) texts
field-texts r o is_null [] [] [] are = tt
field-texts r o is_null [] [] (one ∷ others) are = absurd are
field-texts r o is_null [] (text ∷ texts) written are = absurd are
field-texts r o is_null (None ∷ columns) [] written are = absurd are
field-texts r o is_null (None ∷ columns) (text ∷ texts) written are = (are.0, field-texts r o is_null columns texts written are.1)
field-texts r o is_null (Some entry ∷ columns) [] written are = absurd are
field-texts r o is_null (Some entry ∷ columns) (text ∷ texts) [] are = absurd are
field-texts r o is_null (Some entry ∷ columns) (text ∷ texts) (one ∷ others) are = (are.0.field_text, field-texts r o is_null columns texts others are.1)

-- the columns of one row with their cells
abbrev pub cell_columns : (r o : WriteOptions) (is_null : NullTest) (columns : List (Option Entry)) (texts written : List (List ℕ)) → AreChangesOf r o is_null columns texts written → List ColumnValue
cell_columns r o is_null (None ∷ columns) (text ∷ texts) written are = cell_columns r o is_null columns texts written are.1
cell_columns r o is_null (Some entry ∷ columns) (text ∷ texts) (one ∷ others) are =
    record { name = entry.0; dtype = entry.1; values = are.0.value ∷ [] } ∷ cell_columns r o is_null columns texts others are.1
cell_columns r o is_null columns texts written are = []

-- what is written of them
pub written-columns : (r o : WriteOptions) (is_null : NullTest) (columns : List (Option Entry)) (texts written : List (List ℕ)) (are : AreChangesOf r o is_null columns texts written)
    → map (λ column. written_cell o column.dtype (cell_at column 0)) (cell_columns r o is_null columns texts written are) ≡ written
written-columns r o is_null [] [] [] are = refl
written-columns r o is_null [] [] (one ∷ others) are = absurd are
written-columns r o is_null [] (text ∷ texts) written are = absurd are
written-columns r o is_null (None ∷ columns) [] written are = absurd are
written-columns r o is_null (None ∷ columns) (text ∷ texts) written are = written-columns r o is_null columns texts written are.1
written-columns r o is_null (Some entry ∷ columns) [] written are = absurd are
written-columns r o is_null (Some entry ∷ columns) (text ∷ texts) [] are = absurd are
written-columns r o is_null (Some entry ∷ columns) (text ∷ texts) (one ∷ others) are = (λ j. sym are.0.written_is j ∷ written-columns r o is_null columns texts others are.1 j)

one-high : (r o : WriteOptions) (is_null : NullTest) (columns : List (Option Entry)) (texts written : List (List ℕ)) (are : AreChangesOf r o is_null columns texts written)
    → 0 < length (cell_columns r o is_null columns texts written are) → height_of (cell_columns r o is_null columns texts written are) ≡ 1
one-high r o is_null [] texts written are some = absurd (omega (arith, some))
one-high r o is_null (None ∷ columns) [] written are some = absurd are
one-high r o is_null (None ∷ columns) (text ∷ texts) written are some = one-high r o is_null columns texts written are.1 some
one-high r o is_null (Some entry ∷ columns) [] written are some = absurd are
one-high r o is_null (Some entry ∷ columns) (text ∷ texts) [] are some = absurd are
one-high r o is_null (Some entry ∷ columns) (text ∷ texts) (one ∷ others) are some = refl

-- places are those of a schema
places-within : (a n : ℕ) (places : List ℕ) → AreRising a n places → 0 < length places → a < n
places-within a n [] rising some = absurd (omega (arith, some))
places-within a n (place ∷ places) rising some = omega (arith, rising.0, rising.1)

module _ (plan : RangePlan) (schema : List Entry) (r o : WriteOptions) (is_null : NullTest) (can : CanPrint plan schema) (given : IsReadSo plan schema r) (nulls : AreNulls plan is_null) (returns : RowsReturn) where
  quote-is : plan.dialect.quote_char ≡ Some r.quote
  quote-is = ap (λ m. m.quote) given.marks

  no-comment : comment_of plan.dialect ≡ None
  no-comment = ap prefix_of given.comments

  apart : AreDistinct (line_marks r)
  apart = given.fits.dialect.distinct

  -- the cell of a field
  cell-is : (column : ℕ) (type : DataType) (text written : List ℕ) (here : IsChangeOf r o is_null type text written) → cell (rules_of plan) column type text ≡ Ok here.value
  cell-is column type text written here =
      let reading = (rules_of plan).reading in
      ap (λ n. cells.cell reading n plan.dialect.quote_char type text) (nulls column)
      ∙ ap (λ q. cells.cell reading is_null q type text) quote-is
      ∙ here.cell_is reading given.missing

  -- cells without a fault, from a column on
  no-faults : (all : List (List ℕ)) (a : ℕ) (rest : List (Option Entry)) (texts written : List (List ℕ)) → AreChangesOf r o is_null rest texts written → ((k : ℕ) → field_in all (a + k) ≡ field_in texts k)
      → filter_map (column_fault (rules_of plan) all) (spread (λ k entry. (k, entry.1)) a rest) ≡ []
  no-faults all a [] texts written are same = refl
  no-faults all a (None ∷ rest) [] written are same = absurd are
  no-faults all a (None ∷ rest) (text ∷ texts) written are same =
      no-faults all (a + 1) rest texts written are.1 (λ k. ap (field_in all) (let next : a + 1 + k ≡ a + suc k = omega arith in next) ∙ same (suc k))
  no-faults all a (Some entry ∷ rest) [] written are same = absurd are
  no-faults all a (Some entry ∷ rest) (text ∷ texts) [] are same = absurd are
  no-faults all a (Some entry ∷ rest) (text ∷ texts) (one ∷ others) are same =
      let field : field_in all a ≡ text = ap (field_in all) (let k : a ≡ a + 0 = omega arith in k) ∙ same 0 in
      let sound : column_fault (rules_of plan) all (a, entry.1) ≡ None =
      ap (λ c. elim (fault_of c) [ None ↦ None | Some kind ↦ Some (a, kind) ]) (ap (cell (rules_of plan) a entry.1) field ∙ cell-is a entry.1 text one are.0) in
      let later = no-faults all (a + 1) rest texts others are.1 (λ k. ap (field_in all) (let next : a + 1 + k ≡ a + suc k = omega arith in next) ∙ same (suc k)) in
      rw sound later

  -- their columns
  columns-are : (all : List (List ℕ)) (a : ℕ) (rest : List (Option Entry)) (texts written : List (List ℕ)) (are : AreChangesOf r o is_null rest texts written) → ((k : ℕ) → field_in all (a + k) ≡ field_in texts k)
      → map (read_column (rules_of plan) (ended_row all ∷ [])) (spread (λ k entry. (k, entry)) a rest) ≡ cell_columns r o is_null rest texts written are
  columns-are all a [] texts written are same = refl
  columns-are all a (None ∷ rest) [] written are same = absurd are
  columns-are all a (None ∷ rest) (text ∷ texts) written are same =
      columns-are all (a + 1) rest texts written are.1 (λ k. ap (field_in all) (let next : a + 1 + k ≡ a + suc k = omega arith in next) ∙ same (suc k))
  columns-are all a (Some entry ∷ rest) [] written are same = absurd are
  columns-are all a (Some entry ∷ rest) (text ∷ texts) [] are same = absurd are
  columns-are all a (Some entry ∷ rest) (text ∷ texts) (one ∷ others) are same =
      let field : field_in all a ≡ text = ap (field_in all) (let k : a ≡ a + 0 = omega arith in k) ∙ same 0 in
      let value : value_of (cell (rules_of plan) a entry.1 (field_in all a)) ≡ are.0.value =
      ap value_of (ap (cell (rules_of plan) a entry.1) field ∙ cell-is a entry.1 text one are.0) in
      let later = columns-are all (a + 1) rest texts others are.1 (λ k. ap (field_in all) (let next : a + 1 + k ≡ a + suc k = omega arith in next) ∙ same (suc k)) in
      (λ j. record { name = entry.0; dtype = entry.1; values = value j ∷ [] } ∷ later j)

  abbrev columns : List (Option Entry)
  columns = read_columns 0 schema plan.projection.places.now

  module _ (line copy : List ℕ) (is : IsLineChangeOf r o is_null columns line copy) where
    abbrev texts : List (List ℕ)
    texts = is.fields

    count : length texts ≡ length schema
    count = count-fields r o is_null columns texts is.written is.changes ∙ count-columns 0 schema plan.projection.places.now

    some : 0 < length texts
    some = omega (arith, count, places-within 0 (length schema) plan.projection.places.now can.rising given.some)

    are-fields : AllByRecursion (IsFieldText (line_marks r)) texts
    are-fields = field-texts r o is_null columns texts is.written is.changes

    one-row : rows (line_marks r) None line ≡ ended_row texts ∷ []
    one-row =
        ap (rows (line_marks r) None) (is.line_is ∙ sym (append-nil (line_of (line_marks r) texts)))
        ∙ returns (line_marks r) (texts ∷ []) apart ((some, are-fields), tt)

    its-row : rows (marks_of plan.dialect) (comment_of plan.dialect) line ≡ ended_row texts ∷ []
    its-row = ap (λ m. rows m (comment_of plan.dialect) line) given.marks ∙ ap (λ c. rows (line_marks r) c line) no-comment ∙ one-row

    -- the row that is read at the front is this one
    first-row : row_at (line_marks r) line ≡ ended_row texts
    first-row =
        let long : 0 < length line = omega (arith, ap length is.line_is, length-append (join_with_byte r.separator texts) (10 ∷ [])) in
        let step = rows-step (line_marks r) None line apart long refl in
        first-of (sym step ∙ one-row)

    not-open : have_open_end (line_marks r) texts ≡ false
    not-open =
        let m = line_marks r in
        let left : (length (drop (extent m line) line) == 0) ≡ false = ap (λ (row : Row). row.is_end) first-row in
        behind (drop (extent m line) line) refl left
      where
        behind : (rest : List ℕ) → drop (extent (line_marks r) line) line ≡ rest → (length rest == 0) ≡ false → have_open_end (line_marks r) texts ≡ false
        behind [] left some = absurd (cc)
        behind (x ∷ rest) left some = ap (λ (row : Row). have_open_end (line_marks r) row.fields) (sym first-row) ∙ have_open_end-closed (line_marks r) line x rest apart left

    closed : ends_open (marks_of plan.dialect) (comment_of plan.dialect) line ≡ false
    closed =
        ap (λ m. ends_open m (comment_of plan.dialect) line) given.marks ∙ ap (λ c. ends_open (line_marks r) c line) no-comment
        ∙ open_rows (line_marks r) None line apart ∙ ap (list_any (is_open_row (line_marks r))) one-row ∙ ap (λ t. t || false) not-open

    last-is : (first : Option ℕ) (b : List ℕ) → last_or first (b ++ 10 ∷ []) ≡ Some 10
    last-is first [] = refl
    last-is first (x ∷ b) = last-is (Some x) b

    ended : IsEnded plan.dialect.eol_char line
    ended =
        let eol : plan.dialect.eol_char ≡ 10 = ap (λ m. m.line_end) given.marks in
        ap (last_or (Some plan.dialect.eol_char)) is.line_is ∙ last-is (Some plan.dialect.eol_char) (join_with_byte r.separator texts) ∙ ap (λ e. Some e) (sym eol)

    ends : EndsItem plan.dialect line
    ends = record { ended = ended; closed = closed }

    typed : (columns_in schema plan.projection.places.now).read ≡ spread (λ k entry. (k, entry.1)) 0 columns
    typed = spread-is (λ k entry. (k, entry.1)) schema plan.projection.places.now can.rising

    no-excess : nat_lt (length schema) (length texts) ≡ false
    no-excess = grind (arith, nat_tests, count)

    no-fault : first_fault (rules_of plan) (columns_in schema plan.projection.places.now) (ended_row texts) ≡ None
    no-fault =
        let none = ap (filter_map (column_fault (rules_of plan) texts)) typed ∙ no-faults texts 0 columns texts is.written is.changes (λ k. ap (field_in texts) (let same : 0 + k ≡ k = omega arith in same)) in
        rw (none, no-excess) (none-past (passes_excess (rules_of plan) (columns_in schema plan.projection.places.now)) (is_forgiven (length schema) (ended_row texts)) (length schema, fault.Fields))

    sound : IsSoundText plan schema line
    sound = record {
      ends = ends;
      sound = subst (AllByRecursion (λ row. first_fault (rules_of plan) (columns_in schema plan.projection.places.now) row ≡ None)) (sym its-row) (no-fault, tt);
    }

    frame : text_frame plan schema line ≡ cell_columns r o is_null columns texts is.written is.changes
    frame =
        ap (frame_of_rows (rules_of plan) (entries_in schema plan.projection.places.now)) its-row
        ∙ ap (map (read_column (rules_of plan) (ended_row texts ∷ []))) (spread-is (λ k entry. (k, entry)) schema plan.projection.places.now can.rising)
        ∙ columns-are texts 0 columns texts is.written is.changes (λ k. ap (field_in texts) (let same : 0 + k ≡ k = omega arith in same))

    lines : all_lines o (text_frame plan schema line) ≡ copy
    lines =
        let own = cell_columns r o is_null columns texts is.written is.changes in
        let wide : length own ≡ length plan.projection.places.now =
        sym (ap length frame)
        ∙ length-map (entries_in schema plan.projection.places.now) (read_column (rules_of plan) (rows (marks_of plan.dialect) (comment_of plan.dialect) line))
        ∙ length-map plan.projection.places.now (λ place. (place, entry_at schema place)) in
        ap (all_lines o) frame
        ∙ ap (λ n. flat_map (row_line o own) (range_with_len 0 n)) (one-high r o is_null columns texts is.written is.changes (omega (arith, wide, given.some)))
        ∙ append-nil (row_line o own 0)
        ∙ ap (λ l. join_with_byte o.separator l ++ o.terminator) (written-columns r o is_null columns texts is.written is.changes)
        ∙ sym is.copy_is

    pub change-printed : IsTextPrinted plan schema o line 1 copy
    change-printed = record { sound = sound; count_is = sym (ap length its-row); lines_are = sym lines }

-- ---- a line that is copied

pub copy-printed : (plan : RangePlan) (schema : List Entry) (o : WriteOptions) → CanPrint plan schema → IsWrittenAsRead plan schema o → RowsReturn → (line copy : List ℕ) → IsLineCopyOf o schema line copy
    → IsTextPrinted plan schema o line 1 copy
copy-printed plan schema o can given returns line copy is =
    change-printed plan schema o o nothing_is_null can given.read given.nulls returns line copy (record {
      fields = is.fields;
      written = is.written;
      changes = subst (λ columns. AreChangesOf o o nothing_is_null columns is.fields is.written) (sym (ap (read_columns 0 schema) given.places ∙ read-all 0 schema)) is.copies;
      line_is = is.line_is;
      copy_is = is.copy_is ∙ ap (λ l. join_with_byte o.separator is.written ++ l) (sym given.terminator);
    })

-- ---- a line that is written as it was read

nothing-written : (o : WriteOptions) → o.style ≡ 0 → o.null ≡ [] → written_null o ≡ []
nothing-written o style null = rw style null

written-copies : (o : WriteOptions) (schema : List Entry) (fields : List (List ℕ)) → FitsOptions o → written_null o ≡ [] → AreReadable (map Some schema) → AreCellsOf o schema fields → AreCopiesOf o schema fields fields
written-copies o [] [] fits null can are = tt
written-copies o [] (field ∷ fields) fits null can are = absurd are
written-copies o (entry ∷ schema) [] fits null can are = absurd are
written-copies o (entry ∷ schema) (field ∷ fields) fits null can are = (cell-copy o entry.1 field fits null can.0 are.0, written-copies o schema fields fits null can.1 are.1)

pub line-printed : (plan : RangePlan) (schema : List Entry) (o : WriteOptions) → CanPrint plan schema → IsWrittenAsRead plan schema o → RowsReturn → (line : List ℕ) → IsLineOf o schema line → IsTextPrinted plan schema o line 1 line
line-printed plan schema o can given returns line is =
    copy-printed plan schema o can given returns line line (record {
      fields = is.fields;
      written = is.fields;
      copies = written-copies o schema is.fields given.read.fits (nothing-written o given.style given.null) (all-readable schema plan.projection.places.now given.places can.readable) is.cells;
      line_is = is.line_is;
      copy_is = is.line_is;
    })
