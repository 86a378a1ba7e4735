-- What came of a source, and what was converted of it.
use Rattle.std.proofs.Common.{◌≡◌, ℕ, true, ◌+◌, ◌≤◌, ◌^◌, List, [], ◌++◌, length, drop, refl, sym, ◌∙◌, ap, subst, inl, inr, arith, append_assoc, length-append}
use Rattle.std.specs.Prelude.{Option, unwrap_or, None, Result, Ok, Err, IfOk, OnOk, IfErr, IsErrOf, MatchResult}
use Rattle.std.specs.Result.{is_ok}
use Rattle.std.specs.Option.{option_copied}
use Rattle.std.specs.Io.KnownBytes.{Consumes, IsAtEnd}
use Rattle.std.proofs.lemmas.List.{drop-append-le}
use Rattle.pl_frame.specs.Causes.{Rose}
use Rattle.pl_frame.specs.Schema.{Entry, HaveDistinctNames}
use Rattle.pl_frame.specs.declared.error.PolarsError.{PolarsError}
use Rattle.pl_frame.specs.declared.read_all.ReadAllFault.{ReadAllFault}
use Rattle.pl_frame.specs.declared.read_all.ReadAllFault.TheVariants as read_fault
use Rattle.pl_frame.proofs.Known.{Consumes-nil, Consumes-append}
use Rattle.pl_options.specs.FirstCause.{IsFault}
use Rattle.pl_options.specs.declared.read_options.CsvReadOptions.{CsvReadOptions}
use Rattle.pl_read.specs.Options.{settled_schema}
use Rattle.pl_read.specs.Reading.{frame_of}
use Rattle.pl_read.specs.Rows.{data_frame}
use Rattle.pl_read.specs.Steps.{MayRead, late_cause, data_cause, IsPlanOf, CanReadData}
use Rattle.pl_read.specs.declared.preparing.Prepared.{Prepared}
use Rattle.pl_read.proofs.PreparingLaws.{IsPrepared-own, can-read}
use Rattle.pl_read.proofs.SettlingLaws.{late-data}
use Rattle.pl_rows.specs.declared.plan.RangePlan.{RangePlan}
use Rattle.pl_regions.specs.declared.printing.PrintedRows.{PrintedRows}
use Rattle.pl_regions.specs.Printing.{IsPrinted}
use Rattle.pl_intake.specs.Intake as intake
use Rattle.pl_intake.specs.declared.intake.Intake.{Intake}
use Rattle.pl_write.specs.Options.{cell_options}
use Rattle.pl_write.specs.declared.options.CsvWriterOptions.{CsvWriterOptions}
use Rattle.pl_csv.specs.Converting.{HasTextOf, IsPrintedRead}
use Rattle.pl_csv.specs.Sources.{HasCome, IsUnconverted, IsUnprinted, IsKept, MayReadAhead, IsReadBy, IsReadAhead, ArePrintedOf, unread_of}
use Rattle.pl_csv.specs.Transcoding.{IsUnread, IsTranscodeFault}
use Rattle.pl_csv.specs.Views.{SourceView, Views}
use Rattle.pl_csv.specs.declared.convert.Printed.{Printed}
use Rattle.pl_csv.specs.declared.convert_source.Unconverted.{Unconverted}
use Rattle.pl_csv.specs.declared.convert_source.Unconverted.TheVariants as unconverted
use Rattle.pl_csv.proofs.ConvertLaws.{printed-or-unread}
use Rattle.pl_csv.proofs.TranscodeLaws.{fault_unread}

-- ---- what came

-- nothing yet
pub kept-none : (now : SourceView) (items : List ℕ) → items ≡ [] → IsKept now now items
kept-none now items none = record { came = subst (Consumes now.left now.left) (sym none) (Consumes-nil now.left); later = omega arith }

-- what was put back is kept
pub kept-again : {U F : Type 0} (put : Result U F) (before now : SourceView) (all items : List ℕ) → is_ok put ≡ true → OnOk put (items ≡ all) → IsKept before now all → IsKept before now items
kept-again (Ok x) before now all items joined items_are is = subst (IsKept before now) (sym items_are) is
kept-again (Err x) before now all items joined items_are is = absurd (cc)

-- what came of a source of which nothing came before
pub kept-first : (before now : SourceView) (limit : ℕ) (old new : Intake) (text : List ℕ) → old.rest.items ≡ [] → before.faults ≤ now.faults → intake.HasGiven before.left now.left limit old new text
    → IsKept before now (text ++ new.rest.items)
kept-first before now limit old new text none later given =
    let all : given.bytes ≡ text ++ new.rest.items = ap (λ (l : List ℕ). l ++ given.bytes) (sym none) ∙ given.are in
    record { came = subst (Consumes before.left now.left) all given.gained.came; later = later }

-- where all came behind what was kept, it is the input
pub come-whole : (before now end : SourceView) (old new : Intake) (limit : ℕ) → IsKept before now old.rest.items → old.size ≡ length old.rest.items → limit ≡ 2 ^ 36
    → intake.HasGainedAll now.left end.left limit old new → HasCome before.left end.left new.rest.items
come-whole before now end old new limit is size_is limit_is all = record {
  came = subst (Consumes before.left end.left) (sym all.are) (Consumes-append before.left now.left end.left old.rest.items all.bytes is.came all.gained.came);
  end = all.end;
  within = omega (arith, all.gained.size_is, all.gained.within, ap length all.are, length-append old.rest.items all.bytes);
}

-- and so it is behind what was kept
pub come-ahead : (before now end : SourceView) (rest bytes : List ℕ) (size limit : ℕ) → IsKept before now rest → size ≡ length rest → limit ≡ 2 ^ 36 → Consumes now.left end.left bytes
    → IsAtEnd end.left → size + length bytes ≤ limit → HasCome before.left end.left (rest ++ bytes)
come-ahead before now end rest bytes size limit is size_is limit_is came ended within = record {
  came = Consumes-append before.left now.left end.left rest bytes is.came came;
  end = ended;
  within = omega (arith, size_is, within, limit_is, length-append rest bytes);
}

-- what tells the records of an input tells them of one behind it
pub IsReadAhead-longer : (read : CsvReadOptions) (write : CsvWriterOptions) (first more longer : List ℕ) (prepared : Prepared) → longer ≡ first ++ more → IsReadAhead read write first prepared → IsReadAhead read write longer prepared
IsReadAhead-longer read write first more longer prepared is ahead =
    subst (λ text. IsReadAhead read write text prepared) (sym is) (record {
      within = omega (arith, ahead.within, length-append first more);
      is = λ rest. subst (λ input. IsReadBy read write input prepared) (sym (append_assoc first more rest)) (ahead.is (more ++ rest));
    })

-- where bytes were skipped, the records begin within what is kept
pub records-ahead : (start : ℕ) (rest bytes kept : List ℕ) → start ≤ length rest → kept ≡ drop start rest → kept ++ bytes ≡ drop start (rest ++ bytes)
records-ahead start rest bytes kept inside is = ap (λ (l : List ℕ). l ++ bytes) is ∙ sym (drop-append-le start rest bytes inside)

-- ---- what did not come

-- where a source was not read on to its end
pub stopped : {T : Type 0} (read : CsvReadOptions) (write : CsvWriterOptions) (before now end : SourceView) (kept : List ℕ) (size limit : ℕ) (fault : ReadAllFault) → IsKept before now kept → size ≡ length kept → limit ≡ 2 ^ 36
    → (IsErrOf {T = T} (Err fault) read_fault.TooLong → intake.IsPastLimit now.left end.left limit size) → (IsErrOf {T = T} (Err fault) read_fault.Source → intake.HasStopped now.left end.left limit size)
    → (IsErrOf {T = T} (Err fault) read_fault.Source → Rose now.faults end.faults) → IsUnprinted read write before end (unread_of fault)
stopped read write before now end kept size limit read_fault.Source is size_is limit_is long failed cause =
    let rose : Rose now.faults end.faults = cause refl in
    let came = failed refl in (
      omega (arith, rose, is.later),
      (kept ++ came.0, Consumes-append before.left now.left end.left kept came.0 is.came came.1, omega (arith, length-append kept came.0, came.2)),
    )
stopped read write before now end kept size limit read_fault.TooLong is size_is limit_is long failed cause =
    let came = long refl in
    (kept ++ came.0, Consumes-append before.left now.left end.left kept came.0 is.came came.1, omega (arith, length-append kept came.0, came.2))
stopped read write before now end kept size limit read_fault.OutOfMemory is size_is limit_is long failed cause = inl refl

-- where nothing was printed, nothing was converted
pub unprinted : (read : CsvReadOptions) (write : CsvWriterOptions) (before now : Views) (fault : Unconverted) → now.out ≡ before.out → IsUnprinted read write before.source now.source fault
    → IsUnconverted read write before now fault
unprinted read write before now unconverted.Source same is = (is, same)
unprinted read write before now unconverted.TooLong same is = (is, same)
unprinted read write before now (unconverted.Polars fault) same (inl wanting) = inl (wanting, same)
unprinted read write before now (unconverted.Polars fault) same (inr is) =
    inr (is.0, is.1, subst (λ out. IsTranscodeFault read write is.0 before.out out fault) (sym same) (fault_unread read write is.0 before.out fault is.2))

-- ---- what is printed of an input whose rows were prepared ahead

-- it means a frame that can be written, and its text was printed; or it means none
pub read-or-unread : (read : CsvReadOptions) (write : CsvWriterOptions) (input records : List ℕ) (prepared : Prepared) (result : Result Printed PolarsError) → MayReadAhead read write → IsReadBy read write input prepared
    → records ≡ drop prepared.start input
    → IfOk result (λ printed. HasTextOf write printed (data_frame read prepared.schema records))
    → OnOk result (data_cause read prepared.schema records ≡ None) → IfErr result (IsFault (data_cause read prepared.schema records))
    → MatchResult result (IsPrintedRead read write input) (IsUnread read (settled_schema read input) input write)
read-or-unread read write input records prepared result may by records_are text none fault =
    let schema : List Entry = settled_schema read input in
    let is = by.is in
    let cause : data_cause read prepared.schema records ≡ late_cause read schema input =
    ap (λ (s : List Entry). data_cause read s records) is.schema_is ∙ ap (data_cause read schema) records_are ∙ sym (late-data read schema input (drop prepared.start input) by.sound is.data_is) in
    let frame : data_frame read prepared.schema records ≡ frame_of read schema input =
    ap (λ (s : List Entry). data_frame read s records) is.schema_is
    ∙ ap (data_frame read schema) records_are
    ∙ ap (λ (some : Option (List ℕ)). data_frame read schema (unwrap_or some [])) (sym is.data_is) in
    printed-or-unread read schema input write result refl may.allowed may.quote
    (subst
    (λ f. IfOk result (λ printed. HasTextOf write printed f))
    frame text)
    (subst (λ (f : Option PolarsError). OnOk result (f ≡ None)) cause none)
    (subst (λ (f : Option PolarsError). IfErr result (IsFault f)) cause fault)

-- data whose rows were prepared ahead can be read
pub can-ahead : (read : CsvReadOptions) (write : CsvWriterOptions) (input : List ℕ) (prepared : Prepared) (plan : RangePlan) → MayRead read → IsReadBy read write input prepared → IsPlanOf plan read prepared.schema
    → option_copied plan.options.null_values ≡ prepared.null_values → HaveDistinctNames prepared.schema → CanReadData plan read prepared.schema (drop prepared.start input)
can-ahead read write input prepared plan may by is nulls distinct =
    can-read read input (drop prepared.start input) prepared plan may (IsPrepared-own read (settled_schema read input) input prepared by.is) is nulls distinct (omega arith)

-- and is printed where its rows are
pub printed-ahead : (read : CsvReadOptions) (write : CsvWriterOptions) (rest kept bytes : List ℕ) (prepared : Prepared) (plan : RangePlan) (printed : PrintedRows) → MayRead read → IsReadAhead read write rest prepared
    → IsPlanOf plan read prepared.schema → option_copied plan.options.null_values ≡ prepared.null_values → HaveDistinctNames prepared.schema → kept ≡ drop prepared.start rest → length (kept ++ bytes) ≤ 2 ^ 36
    → IsPrinted plan prepared.schema (cell_options write.serialize_options) (kept ++ bytes) printed → ArePrintedOf plan read prepared.schema write (kept ++ bytes) printed
printed-ahead read write rest kept bytes prepared plan printed may ahead is nulls distinct kept_is small lines =
    let by = ahead.is bytes in
    let records = records-ahead prepared.start rest bytes kept ahead.within kept_is in
    let can = can-ahead read write (rest ++ bytes) prepared plan may by is nulls distinct in
    record { can = subst (CanReadData plan read prepared.schema) (sym records) can; plain = by.plain (kept ++ bytes) small; is = lines }
