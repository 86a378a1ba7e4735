-- What came of a source, and what was read of it.
use Rattle.std.proofs.Common.{◌≡◌, ℕ, ◌≤◌, List, [], ◌++◌, length, drop, refl, sym, ◌∙◌, ap, subst, inl, inr, arith, append-nil}
use Rattle.std.specs.Prelude.{Option, None, Some, Result, Err, IfOk, OnOk, IfErr, IfSome, IsErrOf, MatchResult, unwrap_or, is_some}
use Rattle.std.specs.Option.{option_copied}
use Rattle.std.specs.Io.KnownBytes.{Consumes, IsAtEnd}
use Rattle.std.proofs.lemmas.List.{drop-append-le}
use Rattle.pl_frame.specs.Causes.{Rose}
use Rattle.pl_frame.specs.Dialect.{IsDialect}
use Rattle.pl_frame.specs.Frame.{ColumnValue}
use Rattle.pl_frame.specs.Schema.{Entry, HaveDistinctNames}
use Rattle.pl_frame.specs.declared.error.PolarsError.{PolarsError}
use Rattle.pl_frame.specs.declared.error.PolarsError.TheVariants as error
use Rattle.pl_frame.specs.declared.read_all.ReadAllFault.{ReadAllFault}
use Rattle.pl_frame.specs.declared.read_all.ReadAllFault.TheVariants as read_fault
use Rattle.pl_frame.proofs.Known.{Consumes-append}
use Rattle.pl_scan.specs.Dialect.{comment_of as scan_comment_of}
use Rattle.pl_intake.specs.Intake.{HasGiven}
use Rattle.pl_intake.specs.declared.intake.Intake.{Intake}
use Rattle.pl_options.specs.FirstCause.{IsFault}
use Rattle.pl_options.specs.Text.{marks_of}
use Rattle.pl_options.specs.declared.read_options.CsvReadOptions.{CsvReadOptions}
use Rattle.pl_rows.specs.declared.columns.RangeColumns.{RangeColumns}
use Rattle.pl_rows.specs.declared.plan.RangePlan.{RangePlan}
use Rattle.pl_rows.specs.Plan.{AreRising}
use Rattle.pl_rows.specs.Ranges.{IsRangeRead}
use Rattle.pl_read.specs.Ahead.{IsReadBy, IsReadAhead, IsSourceRead, IsReadBehind, AreRowsRead, unread_of}
use Rattle.pl_read.specs.Arriving.{CanTake}
use Rattle.pl_read.specs.BytesReader.{input_of}
use Rattle.pl_read.specs.CsvReader.{IsInput, OfInput, IsFinishFault, IsMeaning, AnswersUnlessFailed}
use Rattle.pl_read.specs.Options.{settled_schema}
use Rattle.pl_read.specs.Reading.{frame_of, IsRead, IsReadFault}
use Rattle.pl_read.specs.Rows.{data_frame}
use Rattle.pl_read.specs.Steps.{MayRead, late_cause, data_cause, IsPlanOf, CanReadData}
use Rattle.pl_read.specs.declared.preparing.Prepared.{Prepared}
use Rattle.pl_read.proofs.CauseLaws.{read-answer}
use Rattle.pl_read.proofs.DataLaws.{readable-places}
use Rattle.pl_read.proofs.PreparingLaws.{IsPrepared-own, can-read}
use Rattle.pl_read.proofs.ProjectionLaws.{projected-rises, projected-below}
use Rattle.pl_read.proofs.ReaderLaws.{frame-is, refused-is, complete-of}
use Rattle.pl_read.proofs.SettlingLaws.{late-data}

-- ---- the plan

-- data that can be read by a plan can be read text by text
pub can-take : (plan : RangePlan) (o : CsvReadOptions) (schema : List Entry) (records : List ℕ) → CanReadData plan o schema records → CanTake plan schema
can-take plan o schema records can = record {
  dialect =
      subst (λ m. IsDialect m (scan_comment_of plan.dialect)) (sym can.plan_is.marks_are) (subst (IsDialect (marks_of o.parse_options)) (sym can.plan_is.comment_is) can.dialect);
  width = can.plan_is.width_is;
  rising = subst (AreRising 0 (length schema)) (sym can.plan_is.places_are) (projected-rises o schema);
  readable = readable-places schema plan.projection.places.now can.readable (projected-below o schema plan.projection.places.now can.plan_is.places_are);
  texts = can.texts;
}

-- data whose rows were prepared ahead can be read
pub can-ahead : (o : CsvReadOptions) (input : List ℕ) (prepared : Prepared) (plan : RangePlan) → MayRead o → IsReadBy o input prepared → IsPlanOf plan o prepared.schema
    → option_copied plan.options.null_values ≡ prepared.null_values → HaveDistinctNames prepared.schema → CanReadData plan o prepared.schema (drop prepared.start input)
can-ahead o input prepared plan may by is nulls distinct =
    can-read o input (drop prepared.start input) prepared plan may (IsPrepared-own o (settled_schema o input) input prepared by.is) is nulls distinct (omega arith)

-- ---- the rows

-- the rows of an input whose front tells what they are read by
pub rows-ahead : (o : CsvReadOptions) (rest kept bytes : List ℕ) (prepared : Prepared) (plan : RangePlan) (read : RangeColumns) → MayRead o → IsReadAhead o rest prepared
    → IsPlanOf plan o prepared.schema → option_copied plan.options.null_values ≡ prepared.null_values → HaveDistinctNames prepared.schema → kept ≡ drop prepared.start rest
    → IsRangeRead plan prepared.schema (kept ++ bytes) read → AreRowsRead o (rest ++ bytes) read
rows-ahead o rest kept bytes prepared plan read may ahead is nulls distinct kept_is read_is =
    let by = ahead.is bytes in
    let records : kept ++ bytes ≡ drop prepared.start (rest ++ bytes) = ap (λ (l : List ℕ). l ++ bytes) kept_is ∙ sym (drop-append-le prepared.start rest bytes ahead.within) in
    record {
      plan = plan;
      prepared = prepared;
      by = by;
      data_is = record { can = can-ahead o (rest ++ bytes) prepared plan may by is nulls distinct; is = subst (λ (l : List ℕ). IsRangeRead plan prepared.schema l read) records read_is };
    }

-- the answer of a read of data whose rows were read is that of the input
pub input-answer : (o : CsvReadOptions) (input : List ℕ) (read : RangeColumns) (result : Result (List ColumnValue) PolarsError) → MayRead o → (rows : AreRowsRead o input read)
    → IfOk result (λ frame. frame ≡ data_frame o rows.prepared.schema (drop rows.prepared.start input))
    → OnOk result (data_cause o rows.prepared.schema (drop rows.prepared.start input) ≡ None)
    → IfErr result (IsFault (data_cause o rows.prepared.schema (drop rows.prepared.start input)))
    → MatchResult result (IsRead o (settled_schema o input) input) (IsReadFault o (settled_schema o input) input)
input-answer o input read result may rows frame_is none fault =
    let schema : List Entry = settled_schema o input in
    let prepared = rows.prepared in
    let is = rows.by.is in
    let records = drop prepared.start input in
    let frame : data_frame o prepared.schema records ≡ frame_of o schema input =
    ap (λ (s : List Entry). data_frame o s records) is.schema_is ∙ ap (λ (some : Option (List ℕ)). data_frame o schema (unwrap_or some [])) (sym is.data_is) in
    let cause : data_cause o prepared.schema records ≡ late_cause o schema input =
    ap (λ (s : List Entry). data_cause o s records) is.schema_is ∙ sym (late-data o schema input records rows.by.sound is.data_is) in
    read-answer o schema input result may
    (subst (λ (f : List ColumnValue). IfOk result (λ frame. frame ≡ f)) frame frame_is)
    (subst (λ (f : Option PolarsError). OnOk result (f ≡ None)) cause none)
    (subst (λ (f : Option PolarsError). IfErr result (IsFault f)) cause fault)

-- ---- what came

-- a source that was not read to its end
pub unread-behind : {T : Type 0} (o : CsvReadOptions) (kept : List ℕ) (left now : Option (List ℕ)) (faults faults_now : ℕ) (fault : ReadAllFault) (answer : PolarsError)
    → (IsErrOf {T = T} (Err fault) read_fault.Source → Rose faults faults_now) → answer ≡ unread_of fault → IsReadBehind o kept left now faults faults_now (Err answer)
unread-behind {T = T} o kept left now faults faults_now fault answer cause is before count came less = by fault cause is
  where
    by : (f : ReadAllFault) → (IsErrOf {T = T} (Err f) read_fault.Source → Rose faults faults_now) → answer ≡ unread_of f → IsSourceRead o before now count faults_now (Err answer)
    by read_fault.Source cause is = let rose : Rose faults faults_now = cause refl in inr (inr (ap (λ (e : PolarsError). Err e) is, omega (arith, rose, less)))
    by read_fault.TooLong cause is = inr (inl (ap (λ (e : PolarsError). Err e) is))
    by read_fault.OutOfMemory cause is = inr (inl (ap (λ (e : PolarsError). Err e) is))

-- memory was wanting
pub wanting-behind : (o : CsvReadOptions) (kept : List ℕ) (left now : Option (List ℕ)) (faults faults_now : ℕ) → IsReadBehind o kept left now faults faults_now (Err error.OutOfMemory)
wanting-behind o kept left now faults faults_now before count came less = inr (inl refl)

-- all came behind what was kept, and was read
pub read-behind : (o : CsvReadOptions) (kept bytes : List ℕ) (left now : Option (List ℕ)) (faults faults_now : ℕ) (result : Result (List ColumnValue) PolarsError) → Consumes left now bytes → IsAtEnd now
    → MatchResult result (IsRead o (settled_schema o (kept ++ bytes)) (kept ++ bytes)) (IsReadFault o (settled_schema o (kept ++ bytes)) (kept ++ bytes)) → IsReadBehind o kept left now faults faults_now result
read-behind o kept bytes left now faults faults_now result more end is before count came less =
    inl (record { input = kept ++ bytes; came = Consumes-append before left now kept bytes came more; end = end; is = is })

-- what was read behind a first text is read of the source
pub behind-first : (o : CsvReadOptions) (limit : ℕ) (before left now : Option (List ℕ)) (count faults faults_now : ℕ) (result : Result (List ColumnValue) PolarsError) (old new : Intake) (text kept : List ℕ)
    → old.rest.items ≡ [] → HasGiven before left limit old new text → kept ≡ text ++ new.rest.items → count ≤ faults → IsReadBehind o kept left now faults faults_now result
    → IsSourceRead o before now count faults_now result
behind-first o limit before left now count faults faults_now result old new text kept none given kept_is less is =
    let all : given.bytes ≡ kept = ap (λ (l : List ℕ). l ++ given.bytes) (sym none) ∙ given.are ∙ sym kept_is in
    is before count (subst (Consumes before left) all given.gained.came) less

-- ---- the answer of a reader

told : (before now : Option (List ℕ)) (input : List ℕ) → Consumes before now input → IsAtEnd now → IfSome before (λ left. input ≡ left)
told None now input came end = tt
told (Some x) None input came end = absurd came
told (Some x) (Some y) input came end = sym (came ∙ ap (λ l. input ++ l) end ∙ append-nil input)

input-told : (lent before now : Option (List ℕ)) (input : List ℕ) → lent ≡ None → Consumes before now input → IsAtEnd now → IsInput lent before now input
input-told None before now input none came end = record { told = told before now input came end; ended = λ _. end }
input-told (Some x) before now input none came end = absurd (cc)

pub source-frame : {R : Type 0} (lent left : R → Option (List ℕ)) (before now : R) (o : CsvReadOptions) (faults faults_now : ℕ) (result : Result (List ColumnValue) PolarsError) → lent before ≡ None
    → IsSourceRead o (left before) (left now) faults faults_now result → IfOk result (λ frame. OfInput lent left before now (λ input. IsRead o (settled_schema o input) input frame))
source-frame lent left before now o faults faults_now result none (inl is) =
    frame-is lent left before now o result is.input (input-told (lent before) (left before) (left now) is.input none is.came is.end) is.is
source-frame lent left before now o faults faults_now result none (inr (inl wanting)) =
    subst (λ (r : Result (List ColumnValue) PolarsError). IfOk r (λ frame. OfInput lent left before now (λ input. IsRead o (settled_schema o input) input frame))) (sym wanting) tt
source-frame lent left before now o faults faults_now result none (inr (inr failed)) =
    subst (λ (r : Result (List ColumnValue) PolarsError). IfOk r (λ frame. OfInput lent left before now (λ input. IsRead o (settled_schema o input) input frame))) (sym failed.0) tt

pub source-refused : {R : Type 0} (lent left : R → Option (List ℕ)) (faults : R → ℕ) (before now : R) (o : CsvReadOptions) (result : Result (List ColumnValue) PolarsError) → lent before ≡ None
    → IsSourceRead o (left before) (left now) (faults before) (faults now) result → IfErr result (IsFinishFault lent left faults before now o)
source-refused lent left faults before now o result none (inl is) =
    refused-is lent left faults before now o result is.input (input-told (lent before) (left before) (left now) is.input none is.came is.end) is.is
source-refused lent left faults before now o result none (inr (inl wanting)) =
    subst (λ (r : Result (List ColumnValue) PolarsError). IfErr r (IsFinishFault lent left faults before now o)) (sym wanting) tt
source-refused lent left faults before now o result none (inr (inr failed)) =
    subst (λ (r : Result (List ColumnValue) PolarsError). IfErr r (IsFinishFault lent left faults before now o)) (sym failed.0) (ap is_some none, failed.1)

pub source-complete : (lent before now : Option (List ℕ)) (o : CsvReadOptions) (faults faults_now : ℕ) (result : Result (List ColumnValue) PolarsError) → lent ≡ None
    → IsSourceRead o before now faults faults_now result
    → (input : List ℕ) (meaning : Result (List ColumnValue) PolarsError) → input_of lent before ≡ Some input → IsMeaning o input meaning → AnswersUnlessFailed result meaning faults faults_now
source-complete lent before now o faults faults_now result none (inl is) =
    complete-of lent before now o result is.input faults faults_now (input-told lent before now is.input none is.came is.end) is.is
source-complete lent before now o faults faults_now result none (inr (inl wanting)) = λ input meaning known k. inr (inl wanting)
source-complete lent before now o faults faults_now result none (inr (inr failed)) = λ input meaning known k. inr (inr failed)
