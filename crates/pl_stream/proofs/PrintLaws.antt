-- Rows of a stream, printed.
use Rattle.std.proofs.Common.{◌≡◌, ℕ, zero, suc, ◌+◌, ◌-◌, ◌<◌, ◌≤◌, Bool, true, false, cond, ◌==◌, List, [], ◌∷◌, ◌++◌, map, length, take, drop, Option, None, Some, refl, sym, ◌∙◌, ap, subst, arith, append_assoc, append-nil, length-append, length-take, length-drop, drop-drop, inl, inr}
use Rattle.std.specs.Prelude.{◌⊎◌, IfSome, slice_range}
use Rattle.std.specs.List.{AllByRecursion, last_or}
use Rattle.std.specs.Option.{option_map}
use Rattle.std.proofs.lemmas.List.{take_all, length-take-le, take-append-drop, take-take}
use Rattle.pl_frame.specs.Dialect.{IsDialect}
use Rattle.pl_frame.specs.declared.error.FaultKind.{FaultKind}
use Rattle.pl_frame.specs.declared.error.PolarsError.{PolarsError}
use Rattle.pl_frame.specs.declared.error.PolarsError.TheVariants as error
use Rattle.pl_frame.specs.declared.error.ComputeFault.TheVariants as compute_fault
use Rattle.pl_frame.specs.Frame.{ColumnValue, names_of, height_of, HaveHeight}
use Rattle.pl_frame.specs.FrameParts.{HaveSameColumns, stacked}
use Rattle.pl_frame.specs.Schema.{Entry}
use Rattle.pl_options.specs.declared.read_options.CsvReadOptions.{CsvReadOptions}
use Rattle.pl_options.specs.declared.row_index.RowIndex.{RowIndex}
use Rattle.pl_options.specs.FirstCause.{first_some}
use Rattle.pl_options.specs.Text.{marks_of, comment_of}
use Rattle.pl_read.specs.Batches.{index_behind, frame_behind}
use Rattle.pl_read.specs.Options.{rules_of}
use Rattle.pl_read.specs.Projection.{projected}
use Rattle.pl_read.specs.Refusals.{numbers_past}
use Rattle.pl_read.specs.Rows.{columns_read, with_index}
use Rattle.pl_read.specs.SettleGiven.{given_schema}
use Rattle.pl_read.proofs.CauseLaws.{first_some-one, first_some-behind, first_some-front, first_some-rest}
use Rattle.pl_rows.specs.Cells.{RowRules}
use Rattle.pl_rows.specs.Columns.{entries_in, columns_in, frame_of_rows}
use Rattle.pl_rows.specs.Pieces.{EndsItem, left_limit}
use Rattle.pl_rows.specs.Plan.{Columns, AreRising, rules_of as plan_rules}
use Rattle.pl_scan.specs.Closing.{ends_open}
use Rattle.pl_rows.specs.Rows.{first_fault, first_faulty}
use Rattle.pl_rows.specs.WholePieces.{IsSoundText, text_frame}
use Rattle.pl_rows.specs.declared.plan.RangePlan.{RangePlan}
use Rattle.pl_rows.proofs.BlockLaws.{faulty-front}
use Rattle.pl_rows.proofs.RangeLaws.{rows-nil, few_rows}
use Rattle.pl_rows.proofs.SoundTextLaws.{columns-stacked, same-rows}
use Rattle.pl_scan.specs.Dialect as scan
use Rattle.pl_table.specs.Rows.{Row, rows}
use Rattle.pl_text.specs.FrameText.{WriteOptions}
use Rattle.pl_verbatim.specs.PrintedTexts.{CanPrint, IsFrontPrinted, IsTextPrinted}
use Rattle.pl_verbatim.proofs.PrintingLaws.{front-slice, IsFrontPrinted-more, IsFrontPrinted-none, level}
use Rattle.pl_write.specs.Batches.{all_lines}
use Rattle.pl_write.specs.Options.{cell_options, frame_options}
use Rattle.pl_write.specs.declared.options.CsvWriterOptions.{CsvWriterOptions}
use Rattle.pl_write.proofs.StackLaws.{lines-stacked}
use Rattle.pl_cells.specs.NullValues.{HaveTexts}
use Rattle.pl_infer.specs.Schemas.{first_unreadable_column}
use Rattle.pl_read.specs.declared.settle_given.Settled.{Settled}
use Rattle.pl_read.proofs.ProjectionLaws.{projected-rises, projected-below}
use Rattle.pl_read.proofs.DataLaws.{readable-places}
use Rattle.pl_seek.specs.Parts.{fault_in_rows}
use Rattle.pl_seek.proofs.PartLaws.{dialect-given, readable-given}
use Rattle.pl_stream.specs.Printing.{CanStream, IsStreamPlan, IsPrintedOn, AreRowsPrinted, IsPrintFault, IsRowsFault, front_rows, first_rows, rows_cause, lines_behind}
use Rattle.pl_stream.specs.Settled.{frame_of_first}
use Rattle.pl_stream.specs.Whole.{AreWholeItems, HasNoWholeItem, IsWholeFront, IsWholeEnd}
use Rattle.pl_stream.specs.declared.fault.StreamFault.{StreamFault}
use Rattle.pl_stream.specs.declared.fault.StreamFault.TheVariants as fault
use Rattle.pl_stream.specs.declared.whole.Whole.{Whole}
use Rattle.pl_stream.proofs.WholeItemLaws.{front-nil, whole-append, rows-whole}
use Rattle.pl_stream.proofs.TextLaws.{frames-behind, same-behind, level-behind}

-- ---- no rows

pub none-lines : (w : WriteOptions) (rules : RowRules) (columns : List (ℕ × Entry)) → all_lines w (frame_of_rows rules columns []) ≡ []
none-lines w rules [] = refl
none-lines w rules (column ∷ columns) = refl

pub lines-none : (o : CsvReadOptions) (write : CsvWriterOptions) (before : ℕ) → lines_behind o write before [] ≡ []
lines-none o write before = by o.row_index
  where
    by : (index : Option RowIndex) → all_lines (frame_options write) (with_index (index_behind before index) 0 (frame_of_rows (rules_of o (given_schema o)) (entries_in (given_schema o) (projected o (given_schema o))) [])) ≡ []
    by None = none-lines (frame_options write) (rules_of o (given_schema o)) (entries_in (given_schema o) (projected o (given_schema o)))
    by (Some index) = refl

-- ---- causes

-- the fault of rows behind sound ones
pub fault-behind : (o : CsvReadOptions) (before : ℕ) (xs ys : List Row) → fault_in_rows o before xs ≡ None → fault_in_rows o before (xs ++ ys) ≡ fault_in_rows o (before + length xs) ys
fault-behind o before xs ys none = ap (option_map (λ found. error.ComputeError (compute_fault.Record found.0 found.1.0 found.1.1))) (by before xs (unmapped (first_faulty rules columns before xs) none))
  where
    rules : RowRules
    rules = rules_of o (given_schema o)

    columns : Columns
    columns = columns_read o (given_schema o)

    unmapped : (first : Option (ℕ × (ℕ × FaultKind))) → option_map (λ found. error.ComputeError (compute_fault.Record found.0 found.1.0 found.1.1)) first ≡ None → first ≡ None
    unmapped None e = refl
    unmapped (Some found) e = cc

    by : (n : ℕ) (given : List Row) → first_faulty rules columns n given ≡ None → first_faulty rules columns n (given ++ ys) ≡ first_faulty rules columns (n + length given) ys
    by n [] e = let same : n ≡ n + 0 = omega arith in ap (λ k. first_faulty rules columns k ys) same
    by n (row ∷ given) e = step (first_fault rules columns row) e (by (n + 1) given)
      where
        step : (found : Option (ℕ × FaultKind)) → elim found as (λ _. Option (ℕ × (ℕ × FaultKind))) [ None ↦ first_faulty rules columns (n + 1) given | Some fault ↦ Some (n, fault) ] ≡ None
            → (first_faulty rules columns (n + 1) given ≡ None → first_faulty rules columns (n + 1) (given ++ ys) ≡ first_faulty rules columns (n + 1 + length given) ys)
            → elim found as (λ _. Option (ℕ × (ℕ × FaultKind))) [ None ↦ first_faulty rules columns (n + 1) (given ++ ys) | Some fault ↦ Some (n, fault) ] ≡ first_faulty rules columns (n + suc (length given)) ys
        step None e deeper = let next : n + 1 + length given ≡ n + suc (length given) = omega arith in deeper e ∙ ap (λ k. first_faulty rules columns k ys) next
        step (Some fault) e deeper = absurd (cc)

pub cause-behind : (o : CsvReadOptions) (before : ℕ) (xs ys : List Row) → rows_cause o before xs ≡ None → rows_cause o before (xs ++ ys) ≡ rows_cause o (before + length xs) ys
cause-behind o before xs ys none =
    let count : before + length (xs ++ ys) ≡ before + length xs + length ys = omega (arith, length-append xs ys) in
    ap (λ first. first_some (first ∷ numbers_past o.row_index (before + length (xs ++ ys)) ∷ [])) (fault-behind o before xs ys (first_some-front (fault_in_rows o before xs) (numbers_past o.row_index (before + length xs) ∷ []) none))
    ∙ ap (λ n. first_some (fault_in_rows o (before + length xs) ys ∷ numbers_past o.row_index n ∷ [])) count

-- sound rows have no fault, from whatever number
pub sound-none : (rules : RowRules) (columns : Columns) (n : ℕ) (given : List Row) → AllByRecursion (λ row. first_fault rules columns row ≡ None) given → first_faulty rules columns n given ≡ None
sound-none rules columns n [] all = refl
sound-none rules columns n (row ∷ others) all =
    ap (λ found. elim found as (λ _. Option (ℕ × (ℕ × FaultKind))) [ None ↦ first_faulty rules columns (n + 1) others | Some fault ↦ Some (n, fault) ]) all.0 ∙ sound-none rules columns (n + 1) others all.1

-- ---- printed rows

pub printed-none : (o : CsvReadOptions) (write : CsvWriterOptions) (before : ℕ) (records old : List ℕ) (whole : Whole) → IsWholeFront o.parse_options records whole → whole.rows ≡ 0 → numbers_past o.row_index before ≡ None
    → AreRowsPrinted o write before records old old whole
printed-none o write before records old whole front none fits =
    let empty : front_rows o records whole ≡ [] = nil (front_rows o records whole) (sym front.count_is ∙ none) in
    record {
      front = front;
      sound = ap (rows_cause o before) empty ∙ first_some-one (numbers_past o.row_index (before + 0)) ∙ ap (numbers_past o.row_index) zero_more ∙ fits;
      lines = sym (ap (λ l. old ++ lines_behind o write before l) empty ∙ ap (λ l. old ++ l) (lines-none o write before) ∙ append-nil old);
    }
  where
    nil : (given : List Row) → length given ≡ 0 → given ≡ []
    nil [] e = refl
    nil (row ∷ given) e = absurd (omega arith)

    zero_more : before + 0 ≡ before
    zero_more = omega arith

-- the number behind printed rows fits
pub printed-fits : (o : CsvReadOptions) (write : CsvWriterOptions) (before : ℕ) (records old now : List ℕ) (whole : Whole) → AreRowsPrinted o write before records old now whole → numbers_past o.row_index (before + whole.rows) ≡ None
printed-fits o write before records old now whole printed =
    let given = front_rows o records whole in
    ap (λ n. numbers_past o.row_index (before + n)) printed.front.count_is
    ∙ sym (first_some-one (numbers_past o.row_index (before + length given))) ∙ first_some-rest (fault_in_rows o before given) (numbers_past o.row_index (before + length given) ∷ []) printed.sound

-- whole items behind others
pub fronts-join : (o : CsvReadOptions) (records : List ℕ) (first next whole : Whole) → IsDialect (marks_of o.parse_options) (comment_of o.parse_options) → IsWholeFront o.parse_options records first → IsWholeFront o.parse_options (drop first.end records) next
    → whole.end ≡ first.end + next.end → whole.rows ≡ first.rows + next.rows
    → IsWholeFront o.parse_options records whole × (front_rows o records whole ≡ front_rows o records first ++ front_rows o (drop first.end records) next)
fronts-join o records first next whole apart one two end_is rows_is =
    let m = marks_of o.parse_options in
    let comment = comment_of o.parse_options in
    let a : List ℕ = take first.end records in
    let b : List ℕ = take next.end (drop first.end records) in
    let room : whole.end ≤ length records = omega (arith, end_is, one.within, two.within, length-drop first.end records) in
    let size : whole.end - first.end ≡ next.end = omega (arith, end_is) in
    let both : a ++ b ≡ take whole.end records = ap (λ n. a ++ take n (drop first.end records)) (sym size) ∙ front-slice records first.end whole.end (omega (arith, end_is)) room in
    let all : front_rows o records whole ≡ rows m comment a ++ rows m comment b = ap (rows m comment) (sym both) ∙ rows-whole o.parse_options a b apart one.items in (
      record {
        within = room;
        items = subst (AreWholeItems o.parse_options) both (whole-append o.parse_options a b apart one.items two.items);
        count_is = rows_is ∙ omega (arith, one.count_is, two.count_is, length-append (rows m comment a) (rows m comment b)) ∙ ap length (sym all);
      },
      all,
    )

-- rows of more whole items behind those
pub printed-more : (o : CsvReadOptions) (write : CsvWriterOptions) (before : ℕ) (records old mid now : List ℕ) (first next whole : Whole) → IsDialect (marks_of o.parse_options) (comment_of o.parse_options)
    → AreRowsPrinted o write before records old mid first → AreRowsPrinted o write (before + first.rows) (drop first.end records) mid now next
    → whole.end ≡ first.end + next.end → whole.rows ≡ first.rows + next.rows → AreRowsPrinted o write before records old now whole
printed-more o write before records old mid now first next whole apart one two end_is rows_is =
    let m = marks_of o.parse_options in
    let comment = comment_of o.parse_options in
    let a : List ℕ = take first.end records in
    let b : List ℕ = take next.end (drop first.end records) in
    let joined = fronts-join o records first next whole apart one.front two.front end_is rows_is in
    let all : front_rows o records whole ≡ rows m comment a ++ rows m comment b = joined.1 in
    let count : before + first.rows ≡ before + length (rows m comment a) = ap (λ n. before + n) one.front.count_is in
    record {
      front = joined.0;
      sound = ap (rows_cause o before) all ∙ cause-behind o before (rows m comment a) (rows m comment b) one.sound ∙ ap (λ n. rows_cause o n (rows m comment b)) (sym count) ∙ two.sound;
      lines = two.lines ∙ ap (λ l. l ++ lines_behind o write (before + first.rows) (rows m comment b)) one.lines
          ∙ append_assoc old (lines_behind o write before (rows m comment a)) (lines_behind o write (before + first.rows) (rows m comment b))
          ∙ ap (λ n. old ++ (lines_behind o write before (rows m comment a) ++ lines_behind o write n (rows m comment b))) count
          ∙ ap (λ l. old ++ l) (sym (lines-more o write before (rows m comment a) (rows m comment b)))
          ∙ ap (λ l. old ++ lines_behind o write before l) (sym all);
    }
  where
    lines-more : (o : CsvReadOptions) (write : CsvWriterOptions) (before : ℕ) (xs ys : List Row) → lines_behind o write before (xs ++ ys) ≡ lines_behind o write before xs ++ lines_behind o write (before + length xs) ys
    lines-more o write before xs ys =
        let C = frame_behind o (given_schema o) before xs in
        let D = frame_behind o (given_schema o) (before + length xs) ys in
        ap (all_lines (frame_options write)) (sym (frames-behind o before xs ys)) ∙ lines-stacked (frame_options write) C D (same-behind o before (before + length xs) xs ys) (level-behind o before xs)

-- where the rest has no more whole items, the whole has none
pub end-more : (o : CsvReadOptions) (before : ℕ) (records : List ℕ) (first next whole : Whole) → IfSome o.n_rows (λ _. first.rows ≡ 0) → IsWholeEnd o.parse_options (drop first.end records) (left_limit o.n_rows before) next
    → whole.end ≡ first.end + next.end → whole.rows ≡ first.rows + next.rows → IsWholeEnd o.parse_options records (left_limit o.n_rows before) whole
end-more o before records first next whole none (inr broken) end_is rows_is =
    inr (subst (HasNoWholeItem o.parse_options) (drop-drop next.end first.end records ∙ ap (λ k. drop k records) (sym end_is)) broken)
end-more o before records first next whole none (inl full) end_is rows_is = inl (by o.n_rows none full)
  where
    by : (limit : Option ℕ) → IfSome limit (λ _. first.rows ≡ 0) → left_limit limit before ≡ Some next.rows → left_limit limit before ≡ Some whole.rows
    by None none full = absurd (cc)
    by (Some most) none full = let same : next.rows ≡ whole.rows = omega (arith, none, rows_is) in full ∙ ap (λ n. Some n) same

pub few-more : (o : CsvReadOptions) (before : ℕ) (first next whole : Whole) → IfSome o.n_rows (λ _. first.rows ≡ 0) → IfSome (left_limit o.n_rows before) (λ most. next.rows ≤ most) → whole.rows ≡ first.rows + next.rows
    → IfSome (left_limit o.n_rows before) (λ most. whole.rows ≤ most)
few-more o before first next whole none few rows_is = by o.n_rows none few
  where
    by : (limit : Option ℕ) → IfSome limit (λ _. first.rows ≡ 0) → IfSome (left_limit limit before) (λ most. next.rows ≤ most) → IfSome (left_limit limit before) (λ most. whole.rows ≤ most)
    by None none few = tt
    by (Some most) none few = omega (arith, none, few, rows_is)

-- ---- fronts of records that were printed by a plan

module _ (plan : RangePlan) (o : CsvReadOptions) (schema : List Entry) (p : IsStreamPlan plan o None) (schema_is : schema ≡ given_schema o) (unnumbered : o.row_index ≡ None) (t : List ℕ) where
  same_rows : rows (scan.marks_of plan.dialect) (scan.comment_of plan.dialect) t ≡ rows (marks_of o.parse_options) (comment_of o.parse_options) t
  same_rows i = rows (p.marks_are i) (p.comment_is i) t

  pub front-items : EndsItem plan.dialect t → AreWholeItems o.parse_options t
  front-items ends = record {
    ended = subst (λ e. last_or (Some e) t ≡ Some e) (ap (λ m. m.line_end) p.marks_are) ends.ended;
    closed = sym (λ i. ends_open (p.marks_are i) (p.comment_is i) t) ∙ ends.closed;
  }

  pub front-sound : (before : ℕ) → IsSoundText plan schema t → rows_cause o before (rows (marks_of o.parse_options) (comment_of o.parse_options) t) ≡ None
  front-sound before sound =
      let given = rows (marks_of o.parse_options) (comment_of o.parse_options) t in
      let none = sound-none (plan_rules plan) (columns_in schema plan.projection.places.now) before (rows (scan.marks_of plan.dialect) (scan.comment_of plan.dialect) t) sound.sound in
      let same : first_faulty (plan_rules plan) (columns_in schema plan.projection.places.now) before (rows (scan.marks_of plan.dialect) (scan.comment_of plan.dialect) t)
      ≡ first_faulty (rules_of o (given_schema o)) (columns_read o (given_schema o)) before given = λ i. first_faulty (p.rules_are i) (columns_in (schema_is i) (p.places_are i)) before (same_rows i) in
      let clean : fault_in_rows o before given ≡ None = ap (option_map (λ found. error.ComputeError (compute_fault.Record found.0 found.1.0 found.1.1))) (sym same ∙ none) in
      first_some-behind (fault_in_rows o before given) (numbers_past o.row_index (before + length given) ∷ []) clean ∙ first_some-one (numbers_past o.row_index (before + length given))
      ∙ ap (λ index. numbers_past index (before + length given)) unnumbered

  pub front-lines : (write : CsvWriterOptions) (before : ℕ) → all_lines (cell_options write.serialize_options) (text_frame plan schema t) ≡ lines_behind o write before (rows (marks_of o.parse_options) (comment_of o.parse_options) t)
  front-lines write before =
      let given = rows (marks_of o.parse_options) (comment_of o.parse_options) t in
      let frame : text_frame plan schema t ≡ frame_of_rows (rules_of o (given_schema o)) (entries_in (given_schema o) (projected o (given_schema o))) given =
      λ i. frame_of_rows (p.rules_are i) (entries_in (schema_is i) (p.places_are i)) (same_rows i) in
      ap (all_lines (cell_options write.serialize_options)) frame
      ∙ ap (λ index. all_lines (frame_options write) (with_index (index_behind before index) (length given) (frame_of_rows (rules_of o (given_schema o)) (entries_in (given_schema o) (projected o (given_schema o))) given))) (sym unnumbered)

pub plan-printed : (plan : RangePlan) (o : CsvReadOptions) (write : CsvWriterOptions) (schema : List Entry) (before : ℕ) (records old now : List ℕ) (whole : Whole) → IsStreamPlan plan o None → schema ≡ given_schema o → o.row_index ≡ None
    → IsPrintedOn plan schema (cell_options write.serialize_options) records old now whole → AreRowsPrinted o write before records old now whole
plan-printed plan o write schema before records old now whole p schema_is unnumbered printed =
    let t : List ℕ = take whole.end records in
    let text = printed.front.front in
    record {
      front = record {
        within = printed.front.within;
        items = front-items plan o schema p schema_is unnumbered t text.sound.ends;
        count_is = text.count_is ∙ ap length (same_rows plan o schema p schema_is unnumbered t);
      };
      sound = front-sound plan o schema p schema_is unnumbered t before text.sound;
      lines = printed.now_is ∙ ap (λ l. old ++ l) (text.lines_are ∙ front-lines plan o schema p schema_is unnumbered t write before);
    }

-- ---- one front behind another

pub printed-start : (plan : RangePlan) (schema : List Entry) (w : WriteOptions) (records old : List ℕ) → IsPrintedOn plan schema w records old old (record { end = 0; rows = 0 })
printed-start plan schema w records old = record { lines = []; now_is = sym (append-nil old); front = IsFrontPrinted-none plan schema w records }

pub printed-on : (plan : RangePlan) (schema : List Entry) (w : WriteOptions) (records before mid now : List ℕ) (front next : Whole) (end count : ℕ) (lines : List ℕ) → IsDialect (scan.marks_of plan.dialect) (scan.comment_of plan.dialect)
    → IsPrintedOn plan schema w records before mid front → (to : ℕ) → to ≤ length records → front.end ≤ to → IsFrontPrinted plan schema w (slice_range records front.end to) end count lines → now ≡ mid ++ lines
    → next.end ≡ front.end + end → next.rows ≡ front.rows + count → IsPrintedOn plan schema w records before now next
printed-on plan schema w records before mid now front next end count lines apart one to within after more is end_is rows_is =
    let piece : List ℕ = slice_range records front.end to in
    let size : length piece ≡ to - front.end = length-take-le (to - front.end) (drop front.end records) (omega (arith, length-drop front.end records, within, after)) in
    let room : next.end ≤ to = omega (arith, end_is, more.within, size, after) in
    let shorter : next.end - front.end ≡ end = omega (arith, end_is) in
    let same : take end piece ≡ slice_range records front.end next.end =
    take-take end (to - front.end) (drop front.end records) (omega (arith, more.within, size)) ∙ ap (λ n. take n (drop front.end records)) (sym shorter) in
    record {
      lines = one.lines ++ lines;
      now_is = is ∙ ap (λ l. l ++ lines) one.now_is ∙ append_assoc before one.lines lines;
      front = subst (λ n. IsFrontPrinted plan schema w records next.end n (one.lines ++ lines)) (sym rows_is)
          (IsFrontPrinted-more plan schema w records front.end next.end front.rows count one.lines lines apart one.front (omega (arith, end_is)) (omega (arith, room, within))
          (subst (λ l. IsTextPrinted plan schema w l count lines) same more.front));
    }

-- so many rows have as many bytes at least
pub front-count : (plan : RangePlan) (schema : List Entry) (w : WriteOptions) (text : List ℕ) (end count : ℕ) (lines : List ℕ) → IsDialect (scan.marks_of plan.dialect) (scan.comment_of plan.dialect) → IsFrontPrinted plan schema w text end count lines → count ≤ end
front-count plan schema w text end count lines apart front =
    let t : List ℕ = take end text in
    omega (arith, front.front.count_is, few_rows (scan.marks_of plan.dialect) (scan.comment_of plan.dialect) apart.distinct (length t) t (omega arith), length-take-le end text front.within)

-- ---- what a plan of a stream can

pub can-print : (plan : RangePlan) (o : CsvReadOptions) (settled : Settled) → CanStream o settled → IsStreamPlan plan o None → HaveTexts plan.options.null_values (length (given_schema o)) → CanPrint plan settled.schema
can-print plan o settled can p texts =
    let schema = settled.schema in
    let is : schema ≡ given_schema o = can.is.schema_is in
    record {
      dialect = subst (λ m. IsDialect m (scan.comment_of plan.dialect)) (sym p.marks_are) (subst (IsDialect (marks_of o.parse_options)) (sym p.comment_is) (dialect-given o can.sound));
      width = p.width_is ∙ ap length (sym is);
      rising = subst (λ s. AreRising 0 (length s) plan.projection.places.now) (sym is) (subst (AreRising 0 (length (given_schema o))) (sym p.places_are) (projected-rises o (given_schema o)));
      readable = readable-places schema plan.projection.places.now (ap first_unreadable_column is ∙ readable-given o can.sound) (projected-below o schema plan.projection.places.now (p.places_are ∙ ap (projected o) (sym is)));
      texts = subst (λ s. HaveTexts plan.options.null_values (length s)) (sym is) texts;
      unlimited = p.limit_is;
    }

-- ---- refusals behind a front

print-fault_by : (o : CsvReadOptions) (write : CsvWriterOptions) (before : ℕ) (records old mid : List ℕ) (first : Whole) → IsDialect (marks_of o.parse_options) (comment_of o.parse_options) → AreRowsPrinted o write before records old mid first
    → IfSome o.n_rows (λ _. first.rows ≡ 0) → (given : StreamFault)
    → (whole : Whole) × IsWholeFront o.parse_options (drop first.end records) whole × IsWholeEnd o.parse_options (drop first.end records) (left_limit o.n_rows before) whole
    × IfSome (left_limit o.n_rows before) (λ most. whole.rows ≤ most) × IsRowsFault (rows_cause o (before + first.rows) (front_rows o (drop first.end records) whole)) given
    → (whole : Whole) × IsWholeFront o.parse_options records whole × IsWholeEnd o.parse_options records (left_limit o.n_rows before) whole
    × IfSome (left_limit o.n_rows before) (λ most. whole.rows ≤ most) × IsRowsFault (rows_cause o before (front_rows o records whole)) given
print-fault_by o write before records old mid first apart one none given (next, front, end, few, is) =
    let m = marks_of o.parse_options in
    let comment = comment_of o.parse_options in
    let a : List ℕ = take first.end records in
    let b : List ℕ = take next.end (drop first.end records) in
    let whole : Whole = record { end = first.end + next.end; rows = first.rows + next.rows } in
    let joined = fronts-join o records first next whole apart one.front front refl refl in
    let count : before + first.rows ≡ before + length (rows m comment a) = ap (λ n. before + n) one.front.count_is in
    let cause : rows_cause o (before + first.rows) (rows m comment b) ≡ rows_cause o before (front_rows o records whole) =
    ap (λ n. rows_cause o n (rows m comment b)) count ∙ sym (cause-behind o before (rows m comment a) (rows m comment b) one.sound) ∙ ap (rows_cause o before) (sym joined.1) in
    (whole, joined.0, end-more o before records first next whole none end refl refl, few-more o before first next whole none few refl, subst (λ c. IsRowsFault c given) cause is)

pub print-fault-more : (o : CsvReadOptions) (write : CsvWriterOptions) (before : ℕ) (records old mid : List ℕ) (first : Whole) → IsDialect (marks_of o.parse_options) (comment_of o.parse_options) → AreRowsPrinted o write before records old mid first
    → IfSome o.n_rows (λ _. first.rows ≡ 0) → (given : StreamFault) → IsPrintFault o (before + first.rows) (left_limit o.n_rows before) (drop first.end records) given → IsPrintFault o before (left_limit o.n_rows before) records given
print-fault-more o write before records old mid first apart one none fault.OutOfMemory is = tt
print-fault-more o write before records old mid first apart one none fault.NoSchema is = print-fault_by o write before records old mid first apart one none fault.NoSchema is
print-fault-more o write before records old mid first apart one none (fault.Category column) is = print-fault_by o write before records old mid first apart one none (fault.Category column) is
print-fault-more o write before records old mid first apart one none fault.NoColumn is = print-fault_by o write before records old mid first apart one none fault.NoColumn is
print-fault-more o write before records old mid first apart one none (fault.Polars cause) is = print-fault_by o write before records old mid first apart one none (fault.Polars cause) is
print-fault-more o write before records old mid first apart one none fault.Source is = print-fault_by o write before records old mid first apart one none fault.Source is
print-fault-more o write before records old mid first apart one none fault.Sink is = print-fault_by o write before records old mid first apart one none fault.Sink is
print-fault-more o write before records old mid first apart one none fault.TooLong is = print-fault_by o write before records old mid first apart one none fault.TooLong is
