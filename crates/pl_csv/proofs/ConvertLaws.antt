-- What is printed of data piece by piece is the text of its frame.
use Rattle.std.proofs.Common.{◌≡◌, ◌⊎◌, ◌+◌, ◌<◌, ◌≤◌, ◌^◌, arith, ℕ, zero, suc, Bool, true, false, not, ◌||◌, nat_lt, pos, Global, List, [], ◌∷◌, map, length, filter, refl, sym, ◌∙◌, ap, subst, inl, inr, append-nil}
use Rattle.std.specs.Prelude.{◌⊎◌, Option, None, Some, Result, Ok, Err, IfOk, IfSome, OnOk, IfErr, MatchOption, MatchResult}
use Rattle.std.specs.Cow.{cow_slice_items}
use Rattle.std.specs.declared.borrow.CowSlice.{CowSlice}
use Rattle.std.proofs.lemmas.Bool.Decides.{nat_tests}
use Rattle.std.proofs.lemmas.List.{length-map}
use Rattle.std.proofs.lemmas.List.FromFn.{length-map-range_with_len}
use Rattle.std.specs.List.{concat, list_any}
use Rattle.std.specs.Option.{option_map}
use Rattle.pl_frame.specs.Dialect.{IsDialect}
use Rattle.pl_frame.specs.Frame.{Number, ColumnValue, IsFrame, height_of, names_of}
use Rattle.pl_frame.specs.RowIndex.{row_numbers, row_index_column}
use Rattle.pl_frame.specs.FrameParts.{HaveSameColumns, stacked}
use Rattle.pl_frame.specs.Schema.{Entry}
use Rattle.pl_text.specs.FrameText.{text_of_frame}
use Rattle.pl_frame.specs.declared.error.ComputeFault.TheVariants as compute_fault
use Rattle.pl_frame.specs.declared.error.FaultKind.{FaultKind}
use Rattle.pl_frame.specs.declared.error.PolarsError.{PolarsError}
use Rattle.pl_frame.specs.declared.error.PolarsError.TheVariants as error
use Rattle.pl_scan.specs.Dialect.{marks_of, comment_of}
use Rattle.pl_cells.specs.InitBuffers.{entry_at}
use Rattle.pl_options.specs.FirstCause.{when, first_some, IsFault}
use Rattle.pl_options.specs.Text as infer
use Rattle.pl_options.specs.declared.read_options.CsvReadOptions.{CsvReadOptions}
use Rattle.pl_options.specs.declared.row_index.RowIndex.{RowIndex}
use Rattle.pl_infer.specs.Schemas.{is_categorical}
use Rattle.pl_table.specs.Rows.{Row}
use Rattle.pl_regions.specs.declared.printing.PrintedRows.{PrintedRows}
use Rattle.pl_regions.proofs.PrintingLaws.{level-frame}
use Rattle.pl_regions.specs.Limits.{without_limit}
use Rattle.pl_rows.specs.Cells.{RowRules}
use Rattle.pl_rows.specs.Columns.{read_column, entries_in, columns_in, frame_of_rows}
use Rattle.pl_rows.specs.Pieces.{is_fault}
use Rattle.pl_rows.specs.Plan.{AreRising, Columns}
use Rattle.pl_rows.specs.Plan.{rules_of as plan_rules}
use Rattle.pl_rows.specs.Ranges.{limited, rows_of, is_judged, judged_rows, has_unjudged, end_of, range_end, range_frame, rows_read, sound_rows}
use Rattle.pl_rows.specs.Rows.{first_faulty}
use Rattle.pl_rows.specs.declared.plan.RangePlan.{RangePlan}
use Rattle.pl_rows.specs.declared.range.RangeEnd.{RangeEnd}
use Rattle.pl_rows.specs.declared.range.RangeEnd.TheVariants as end
use Rattle.pl_rows.proofs.RangeLaws.{rows-nil}
use Rattle.pl_rows.proofs.SoundTextLaws.{columns-stacked, same-rows}
use Rattle.pl_read.specs.Options.{rules_of, settled_schema}
use Rattle.pl_read.specs.Projection.{projected}
use Rattle.pl_read.specs.Reading.{frame_of}
use Rattle.pl_read.specs.Refusals.{codes_past, index_past, faulty_record, numbers_past}
use Rattle.pl_read.specs.Rows.{rows_in, data_columns, data_frame, with_index}
use Rattle.pl_read.specs.Steps.{MayRead, late_cause, data_cause, CanReadData, IsPlanOf}
use Rattle.pl_read.proofs.CauseLaws.{first_some-one, first_some-behind}
use Rattle.pl_read.proofs.DataLaws.{fault-at, no-fault-at, columns-at, height-is, IsFrame-indexed, readable-places}
use Rattle.pl_read.proofs.ProjectionLaws.{projected-rises, projected-below}
use Rattle.pl_write.specs.Batches.{all_lines}
use Rattle.pl_write.specs.Options.{cell_options, frame_options}
use Rattle.pl_write.specs.Printed.{printed_text}
use Rattle.pl_write.specs.declared.options.CsvWriterOptions.{CsvWriterOptions}
use Rattle.pl_write.proofs.PrintedLaws.{lines-alone, printed-is-text}
use Rattle.pl_verbatim.specs.PrintedTexts.{CanPrint}
use Rattle.pl_csv.specs.Converting.{AreNumberable, AreUnnumbered, HasTextOf, HaveCodes, IsPrintedRead, IsRowByRow}
use Rattle.pl_csv.proofs.CodeLaws.{codes-few, few-rows-in}
use Rattle.pl_csv.specs.Sources.{ArePrintedOf}
use Rattle.pl_csv.specs.Transcoding.{HasAsciiQuote, IsUnread}
use Rattle.pl_csv.specs.declared.convert.Printed.{Printed}
use Rattle.pl_csv.proofs.TranscodeLaws.{unread-late, valid-read}

-- ---- the plan

-- it reads a dialect
pub plan-dialect : (plan : RangePlan) (o : CsvReadOptions) (schema : List Entry) (records : List ℕ) → CanReadData plan o schema records → IsDialect (marks_of plan.dialect) (comment_of plan.dialect)
plan-dialect plan o schema records can =
    subst (λ m. IsDialect m (comment_of plan.dialect)) (sym can.plan_is.marks_are) (subst (IsDialect (infer.marks_of o.parse_options)) (sym can.plan_is.comment_is) can.dialect)

-- and texts can be printed by it, up to its limit
pub can-print : (plan : RangePlan) (o : CsvReadOptions) (schema : List Entry) (records : List ℕ) → CanReadData plan o schema records → CanPrint (without_limit plan) schema
can-print plan o schema records can =
    let is = can.plan_is in
    record {
      dialect = plan-dialect plan o schema records can;
      width = is.width_is;
      rising = subst (AreRising 0 (length schema)) (sym is.places_are) (projected-rises o schema);
      readable = readable-places schema plan.projection.places.now can.readable (projected-below o schema plan.projection.places.now is.places_are);
      texts = can.texts;
      unlimited = refl;
    }

-- ---- no numbers

-- of columns without categories none has a code that does not fit
codes-none : (rules : RowRules) (given : List Row) (schema : List Entry) (places : List ℕ) → list_any (λ place. is_categorical (entry_at schema place).1) places ≡ false
    → first_some (map codes_past (frame_of_rows rules (entries_in schema places) given)) ≡ None
codes-none rules given schema [] none = refl
codes-none rules given schema (place ∷ places) none = by (is_categorical (entry_at schema place).1) refl none (codes-none rules given schema places)
  where
    by : (t : Bool) → is_categorical (entry_at schema place).1 ≡ t → (t || list_any (λ place. is_categorical (entry_at schema place).1) places) ≡ false
        → (list_any (λ place. is_categorical (entry_at schema place).1) places ≡ false → first_some (map codes_past (frame_of_rows rules (entries_in schema places) given)) ≡ None)
        → first_some (map codes_past (frame_of_rows rules (entries_in schema (place ∷ places)) given)) ≡ None
    by true e wrong rest = absurd (cc)
    by false e none rest =
        let column = read_column rules given (place, entry_at schema place) in
        let here : codes_past column ≡ None = rw e refl in
        first_some-behind (codes_past column) (map codes_past (frame_of_rows rules (entries_in schema places) given)) here ∙ rest none

-- the numbers of a row index fit, where there is one
numbers-none : (o : CsvReadOptions) (write : CsvWriterOptions) (schema : List Entry) (records : List ℕ) → IsRowByRow o write schema records → numbers_past o.row_index (length (rows_in o records)) ≡ None
numbers-none o write schema records plain = by o.row_index plain.numbered
  where
    few : (offset : ℕ) → offset + length records ≤ 2 ^ 64 → nat_lt (2 ^ 64) (offset + length (rows_in o records)) ≡ false
    few offset fits = let within : offset + length (rows_in o records) ≤ 2 ^ 64 = omega (arith, fits, few-rows-in o records) in grind (arith, nat_tests)

    by : (i : Option RowIndex) → IfSome i (λ index. AreNumberable write (length (projected o schema)) index.offset (length records)) → numbers_past i (length (rows_in o records)) ≡ None
    by None is = refl
    by (Some index) is = ap (λ t. when t (error.ComputeError (compute_fault.Index index.offset (length (rows_in o records))))) (few index.offset is.fits)

index-none : (o : CsvReadOptions) (write : CsvWriterOptions) (schema : List Entry) (records : List ℕ) → IsRowByRow o write schema records
    → HaveCodes schema (projected o schema) (length (rows_in o records)) → index_past o.row_index (length (rows_in o records)) (data_columns o schema records) ≡ None
index-none o write schema records plain codes =
    first_some-behind (numbers_past o.row_index (length (rows_in o records))) (map codes_past (data_columns o schema records)) (numbers-none o write schema records plain) ∙ by codes
  where
    by : HaveCodes schema (projected o schema) (length (rows_in o records)) → first_some (map codes_past (data_columns o schema records)) ≡ None
    by (inl none) = codes-none (rules_of o schema) (rows_in o records) schema (projected o schema) none
    by (inr few) = codes-few (rules_of o schema) (rows_in o records) schema (projected o schema) few

-- rows may be printed as they are read where their lines can be numbered
pub row-by-row : (read : CsvReadOptions) (write : CsvWriterOptions) (schema : List Entry) (places : List ℕ) (amount : ℕ) → places ≡ projected read schema
    → IfSome read.row_index (λ index. AreNumberable write (length places) index.offset amount)
    → (records : List ℕ) → length records ≤ amount → IsRowByRow read write schema records
row-by-row read write schema places amount is can records small = record { numbered = by read.row_index can }
  where
    by : (i : Option RowIndex) → IfSome i (λ index. AreNumberable write (length places) index.offset amount) → IfSome i (λ index. AreNumberable write (length (projected read schema)) index.offset (length records))
    by None can = tt
    by (Some index) can = record { can = can.can; some = omega (arith, ap length is, can.some); fits = omega (arith, can.fits, small) }

-- ---- a range without bytes

-- has no rows
limited-none : (limit : Option ℕ) → limited {X = Row} limit [] ≡ []
limited-none None = refl
limited-none (Some zero) = refl
limited-none (Some (suc n)) = refl

none-rows : (plan : RangePlan) → rows_of plan [] ≡ []
none-rows plan = ap (limited plan.limit) (rows-nil (marks_of plan.dialect) (comment_of plan.dialect)) ∙ limited-none plan.limit

none-judged : (plan : RangePlan) → judged_rows plan [] ≡ []
none-judged plan = ap (filter (is_judged plan)) (none-rows plan)

-- it is read to its end
none-end : (plan : RangePlan) (columns : Columns) → range_end plan columns [] ≡ end.Closed
none-end plan columns =
    ap (λ rs. end_of (first_faulty (plan_rules plan) columns 0 rs) (has_unjudged plan [])) (none-judged plan)
    ∙ ap (λ rs. end_of None (list_any (λ row. not (is_judged plan row)) rs)) (none-rows plan)

-- and gives columns without cells
none-frame : (plan : RangePlan) (schema : List Entry) → range_frame plan schema [] ≡ frame_of_rows (plan_rules plan) (entries_in schema plan.projection.places.now) []
none-frame plan schema =
    ap (λ rs. frame_of_rows (plan_rules plan) (entries_in schema plan.projection.places.now) (sound_rows (plan_rules plan) (columns_in schema plan.projection.places.now) rs)) (none-judged plan)

-- which add nothing to others
behind-none : (plan : RangePlan) (schema : List Entry) (records : List ℕ) → stacked (range_frame plan schema records) (range_frame plan schema []) ≡ range_frame plan schema records
behind-none plan schema records =
    let rules = plan_rules plan in
    let entries = entries_in schema plan.projection.places.now in
    let given = rows_read plan (columns_in schema plan.projection.places.now) records in
    ap (stacked (range_frame plan schema records)) (none-frame plan schema) ∙ columns-stacked rules entries given [] ∙ ap (frame_of_rows rules entries) (append-nil given)

-- ---- data whose rows were printed

-- the columns without rows are those of no data
none-columns : (plan : RangePlan) (o : CsvReadOptions) (schema : List Entry) → IsPlanOf plan o schema → range_frame plan schema [] ≡ data_columns o schema []
none-columns plan o schema is = columns-at plan o schema [] end.Closed is (sym (none-end plan (columns_in schema plan.projection.places.now))) (inl refl)

-- they are a frame behind their row index, where one is asked
pub none-is-frame : (plan : RangePlan) (o : CsvReadOptions) (schema : List Entry) (write : CsvWriterOptions) (records : List ℕ) (printed : PrintedRows) → ArePrintedOf plan o schema write records printed
    → IsFrame (with_index o.row_index (height_of (range_frame plan schema [])) (range_frame plan schema []))
none-is-frame plan o schema write records printed is =
    subst (λ (columns : List ColumnValue). IsFrame (with_index o.row_index (height_of columns) columns)) (sym (none-columns plan o schema is.can.plan_is)) (IsFrame-indexed o schema [] is.can.distinct is.can.free)

-- where data was read to its end, no row has a fault
no-fault-end : (e : RangeEnd) → (e ≡ end.Closed) ⊎ (e ≡ end.Open) → is_fault e ≡ false
no-fault-end e (inl closed) = ap is_fault closed
no-fault-end e (inr opened) = ap is_fault opened

-- the lines of all rows without a row index
lines-all : (plan : RangePlan) (o : CsvReadOptions) (schema : List Entry) (write : CsvWriterOptions) (records : List ℕ) (printed : PrintedRows) → ArePrintedOf plan o schema write records printed
    → (printed.end ≡ end.Closed) ⊎ (printed.end ≡ end.Open)
    → concat (map cow_slice_items printed.lines.items) ≡ all_lines (cell_options write.serialize_options) (range_frame plan schema records)
lines-all plan o schema write records printed is ended = is.is.lines_are (no-fault-end printed.end ended)

-- the text of columns without a row index
plain-text : (plan : RangePlan) (o : CsvReadOptions) (schema : List Entry) (write : CsvWriterOptions) (records : List ℕ) (printed : PrintedRows)
    → ArePrintedOf plan o schema write records printed → (printed.end ≡ end.Closed) ⊎ (printed.end ≡ end.Open)
    → printed_text (frame_options write) (names_of (range_frame plan schema [])) (map cow_slice_items printed.lines.items) (range_frame plan schema []) ≡ text_of_frame (frame_options write) (data_columns o schema records)
plain-text plan o schema write records printed is ended =
    let frame = range_frame plan schema records in
    let lines = map cow_slice_items printed.lines.items in
    let none = range_frame plan schema [] in
    let before : concat lines ≡ all_lines (frame_options write) frame = lines-all plan o schema write records printed is ended ∙ lines-alone write frame in
    let same : HaveSameColumns frame none =
    same-rows (plan_rules plan) (entries_in schema plan.projection.places.now) (rows_read plan (columns_in schema plan.projection.places.now) records) (rows_read plan (columns_in schema plan.projection.places.now) []) in
    let whole : stacked frame none ≡ data_columns o schema records = behind-none plan schema records ∙ columns-at plan o schema records printed.end is.can.plan_is is.is.end_is ended in
    printed-is-text (frame_options write) lines frame none same (level-frame plan schema records) before
    ∙ ap (text_of_frame (frame_options write)) whole

-- the names of columns do not depend on their rows
names-same : (rules : RowRules) (given others : List Row) (schema : List Entry) (places : List ℕ) → names_of (frame_of_rows rules (entries_in schema places) given) ≡ names_of (frame_of_rows rules (entries_in schema places) others)
names-same rules given others schema [] = refl
names-same rules given others schema (place ∷ places) = ap (λ l. (entry_at schema place).0 ∷ l) (names-same rules given others schema places)

-- lines that are to be numbered
numbered-text : (plan : RangePlan) (o : CsvReadOptions) (schema : List Entry) (write : CsvWriterOptions) (records : List ℕ) (printed : PrintedRows) (index : RowIndex) (made : Printed)
    → ArePrintedOf plan o schema write records printed → (printed.end ≡ end.Closed) ⊎ (printed.end ≡ end.Open)
    → AreNumberable write (length (projected o schema)) index.offset (length records)
    → made.lines.items ≡ printed.lines.items → made.rest ≡ with_index (Some index) (height_of (data_columns o schema [])) (data_columns o schema [])
    → AreUnnumbered write index.offset made (with_index (Some index) (length (rows_in o records)) (data_columns o schema records))
numbered-text plan o schema write records printed index made is ended can lines_are rest_is =
    let columns = data_columns o schema records in
    let none = data_columns o schema [] in
    let height : height_of columns ≡ length (rows_in o records) = height-is o schema records is.can.some in
    let few : index.offset + height_of columns ≤ 2 ^ 64 = omega (arith, height, few-rows-in o records, can.fits) in
    let whole : range_frame plan schema records ≡ columns = columns-at plan o schema records printed.end is.can.plan_is is.is.end_is ended in
    let lines : concat (map cow_slice_items made.lines.items) ≡ all_lines (cell_options write.serialize_options) columns =
    ap (λ (l : List (CowSlice ℕ Global)). concat (map cow_slice_items l)) lines_are
    ∙ lines-all plan o schema write records printed is ended
    ∙ ap (all_lines (cell_options write.serialize_options)) whole in
    record {
      name = index.name;
      columns = columns;
      frame_is = ap (λ n. row_index_column index.name index.offset n ∷ columns) (sym height);
      lines = record { can = can.can; some = some-columns (projected o schema) can.some; fits = few; are = lines };
      names = ap names_of rest_is ∙ ap (λ l. index.name ∷ l) (names-same (rules_of o schema) (rows_in o []) (rows_in o records) schema (projected o schema));
      none = ap height_of rest_is ∙ length-numbers index.offset (height_of none) ∙ no-height (projected o schema);
    }
  where
    some-columns : (places : List ℕ) → 0 < length places → 0 < length (frame_of_rows (rules_of o schema) (entries_in schema places) (rows_in o records))
    some-columns [] some = absurd (omega (arith, some))
    some-columns (place ∷ places) some = omega arith

    length-numbers : (offset count : ℕ) → length (row_numbers offset count) ≡ count
    length-numbers offset count = length-map-range_with_len (λ n. Some (Number (pos n))) offset count

    no-height : (places : List ℕ) → height_of (frame_of_rows (rules_of o schema) (entries_in schema places) (rows_in o [])) ≡ 0
    no-height [] = refl
    no-height (place ∷ places) =
        length-map (rows_in o []) _ ∙ ap length (ap (limited o.n_rows) (rows-nil (infer.marks_of o.parse_options) (infer.comment_of o.parse_options)) ∙ limited-none o.n_rows)

-- the number of the first line, where numbers are asked
abbrev pub numbers_of : Option RowIndex → Option ℕ
numbers_of index = option_map (λ (i : RowIndex). i.offset) index

-- the text
pub data-text : (plan : RangePlan) (o : CsvReadOptions) (schema : List Entry) (write : CsvWriterOptions) (records : List ℕ) (printed : PrintedRows) (made : Printed)
    → ArePrintedOf plan o schema write records printed → (printed.end ≡ end.Closed) ⊎ (printed.end ≡ end.Open)
    → made.lines.items ≡ printed.lines.items → made.numbers ≡ numbers_of o.row_index → made.rest ≡ with_index o.row_index (height_of (range_frame plan schema [])) (range_frame plan schema [])
    → HasTextOf write made (data_frame o schema records)
data-text plan o schema write records printed made is ended lines_are numbers_are rest_is =
    let none = none-columns plan o schema is.can.plan_is in
    by o.row_index is.plain.numbered numbers_are rest_is (rest_is ∙ ap (λ (c : List ColumnValue). with_index o.row_index (height_of c) c) none)
  where
    by : (index : Option RowIndex) → IfSome index (λ index. AreNumberable write (length (projected o schema)) index.offset (length records)) → made.numbers ≡ numbers_of index
        → made.rest ≡ with_index index (height_of (range_frame plan schema [])) (range_frame plan schema [])
        → made.rest ≡ with_index index (height_of (data_columns o schema [])) (data_columns o schema [])
        → HasTextOf write made (with_index index (length (rows_in o records)) (data_columns o schema records))
    by None can none rest here =
        let text = printed_text (frame_options write) (names_of made.rest) (map cow_slice_items made.lines.items) made.rest in
        subst (λ (n : Option ℕ). MatchOption n (text ≡ text_of_frame (frame_options write) (data_columns o schema records)) (λ offset. AreUnnumbered write offset made (data_columns o schema records))) (sym none)
        (ap (λ (l : List (CowSlice ℕ Global)). printed_text (frame_options write) (names_of made.rest) (map cow_slice_items l) made.rest) lines_are
        ∙ ap (λ (c : List ColumnValue). printed_text (frame_options write) (names_of c) (map cow_slice_items printed.lines.items) c) rest
        ∙ plain-text plan o schema write records printed is ended)
    by (Some index) can some rest here =
        let frame = with_index (Some index) (length (rows_in o records)) (data_columns o schema records) in
        let text = printed_text (frame_options write) (names_of made.rest) (map cow_slice_items made.lines.items) made.rest in
        subst (λ (n : Option ℕ). MatchOption n (text ≡ text_of_frame (frame_options write) frame) (λ offset. AreUnnumbered write offset made frame)) (sym some)
        (numbered-text plan o schema write records printed index made is ended can lines_are here)

-- there are codes for the categories of all rows that were printed, where there are for so many rows
codes-of : (plan : RangePlan) (o : CsvReadOptions) (schema : List Entry) (write : CsvWriterOptions) (records : List ℕ) (printed : PrintedRows) → ArePrintedOf plan o schema write records printed
    → (printed.end ≡ end.Closed) ⊎ (printed.end ≡ end.Open) → HaveCodes schema plan.projection.places.now printed.rows → HaveCodes schema (projected o schema) (length (rows_in o records))
codes-of plan o schema write records printed is ended (inl none) = inl (subst (λ (l : List ℕ). list_any (λ place. is_categorical (entry_at schema place).1) l ≡ false) is.can.plan_is.places_are none)
codes-of plan o schema write records printed is ended (inr few) =
    let whole = columns-at plan o schema records printed.end is.can.plan_is is.is.end_is ended in
    inr (omega (arith, few, is.is.rows_are (no-fault-end printed.end ended), ap height_of whole, height-is o schema records is.can.some))

-- no cause
pub data-sound : (plan : RangePlan) (o : CsvReadOptions) (schema : List Entry) (write : CsvWriterOptions) (records : List ℕ) (printed : PrintedRows) → ArePrintedOf plan o schema write records printed
    → (printed.end ≡ end.Closed) ⊎ (printed.end ≡ end.Open) → HaveCodes schema plan.projection.places.now printed.rows → data_cause o schema records ≡ None
data-sound plan o schema write records printed is ended codes =
    let none = no-fault-at plan o schema records printed.end is.can.plan_is is.is.end_is ended in
    let sound : faulty_record o schema records ≡ None = ap (option_map (λ found. error.ComputeError (compute_fault.Record found.0 found.1.0 found.1.1))) none in
    first_some-behind (faulty_record o schema records) _ sound ∙ first_some-one _ ∙ index-none o write schema records is.plain (codes-of plan o schema write records printed is ended codes)

-- the first cause
pub data-fault : (plan : RangePlan) (o : CsvReadOptions) (schema : List Entry) (write : CsvWriterOptions) (records : List ℕ) (printed : PrintedRows) (row column : ℕ) (kind : FaultKind)
    → ArePrintedOf plan o schema write records printed → printed.end ≡ end.Fault row column kind → data_cause o schema records ≡ Some (error.ComputeError (compute_fault.Record row column kind))
data-fault plan o schema write records printed row column kind is ended = fault-at plan o schema records row column kind is.can.plan_is (sym is.is.end_is ∙ ended)

-- ---- what is printed of an input

pub printed-or-unread : (read : CsvReadOptions) (schema : List Entry) (input : List ℕ) (write : CsvWriterOptions) (result : Result Printed PolarsError) → schema ≡ settled_schema read input → MayRead read → HasAsciiQuote write
    → IfOk result (λ printed. HasTextOf write printed (frame_of read schema input))
    → OnOk result (late_cause read schema input ≡ None) → IfErr result (IsFault (late_cause read schema input))
    → MatchResult result (IsPrintedRead read write input) (IsUnread read schema input write)
printed-or-unread read schema input write (Ok printed) schema_is may small text none fault =
    subst (λ s. HasTextOf write printed (frame_of read s input) → late_cause read s input ≡ None → IsPrintedRead read write input printed)
    (sym schema_is)
    (λ text none. record { frame = frame_of read (settled_schema read input) input; is = valid-read read (settled_schema read input) input write _ may small none refl; text_is = text }) text none
printed-or-unread read schema input write (Err refusal) schema_is may small text none fault = unread-late read schema input write refusal may small fault
