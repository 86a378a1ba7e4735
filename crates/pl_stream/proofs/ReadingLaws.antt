-- Rows of a stream, read into a frame.
use Rattle.std.proofs.Common.{◌≡◌, ℕ, ◌+◌, ◌<◌, ◌^◌, Bool, true, false, cond, List, [], ◌∷◌, ◌++◌, map, length, drop, take, Option, None, Some, refl, sym, ◌∙◌, ap, subst, arith, inl, inr}
use Rattle.std.specs.Prelude.{◌⊎◌, find, Result, Ok, Err, IfOk, OnOk, IfErr}
use Rattle.std.specs.Option.{option_map}
use Rattle.std.proofs.lemmas.List.{length-map}
use Rattle.pl_cells.specs.InitBuffers.{entry_at}
use Rattle.pl_frame.specs.declared.error.PolarsError.{PolarsError}
use Rattle.pl_frame.specs.declared.error.PolarsError.TheVariants as error
use Rattle.pl_frame.specs.Frame.{ColumnValue, height_of}
use Rattle.pl_frame.specs.Schema.{Entry, HaveDistinctNames}
use Rattle.pl_infer.specs.Schemas.{is_categorical}
use Rattle.pl_options.specs.declared.read_options.CsvReadOptions.{CsvReadOptions}
use Rattle.pl_options.specs.FirstCause.{first_some, IsFault}
use Rattle.pl_read.specs.Batches.{index_behind, frame_behind}
use Rattle.pl_read.specs.Options.{rules_of}
use Rattle.pl_read.specs.Projection.{projected, taken_name}
use Rattle.pl_read.specs.Refusals.{numbers_past, codes_past, index_past}
use Rattle.pl_read.specs.Rows.{with_index}
use Rattle.pl_read.specs.SettleGiven.{given_schema}
use Rattle.pl_read.proofs.CauseLaws.{first_some-one, first_some-behind, first_some-here, first_some-front}
use Rattle.pl_rows.specs.Cells.{RowRules}
use Rattle.pl_rows.specs.Columns.{read_column, entries_in, frame_of_rows}
use Rattle.pl_rows.specs.Ranges.{IsRangeRead}
use Rattle.pl_rows.specs.declared.columns.RangeColumns.{RangeColumns}
use Rattle.pl_rows.specs.declared.plan.RangePlan.{RangePlan}
use Rattle.pl_scan.specs.Dialect as scan
use Rattle.pl_table.specs.Rows.{Row, rows}
use Rattle.pl_seek.specs.Parts.{fault_in_rows}
use Rattle.pl_seek.specs.PartSteps.{IsPartPlan, AreRead, AreColumns}
use Rattle.pl_seek.proofs.PartLaws.{are-read}
use Rattle.pl_stream.specs.Options.{first_categorical, fault_of}
use Rattle.pl_stream.specs.Printing.{IsStreamPlan, IsRowsFault, first_rows, rows_cause}
use Rattle.pl_stream.specs.declared.fault.StreamFault.{StreamFault}
use Rattle.pl_stream.specs.declared.fault.StreamFault.TheVariants as fault

-- ---- reading

part-plan : (plan : RangePlan) (o : CsvReadOptions) (count : ℕ) → IsStreamPlan plan o (Some count) → IsPartPlan plan o count
part-plan plan o count p = record {
  marks_are = p.marks_are;
  comment_is = p.comment_is;
  rules_are = p.rules_are;
  places_are = p.places_are;
  width_is = p.width_is;
  limit_is = p.limit_is;
  is_last = p.is_last;
}

pub stream-read : (plan : RangePlan) (o : CsvReadOptions) (count : ℕ) (text : List ℕ) (schema : List Entry) (read : RangeColumns) → IsStreamPlan plan o (Some count) → schema ≡ given_schema o → HaveDistinctNames (given_schema o)
    → taken_name o (given_schema o) ≡ None → IsRangeRead plan schema text read → AreRead o (first_rows o count text) read
stream-read plan o count text schema read p schema_is distinct free is = are-read plan o 0 count text text schema read (part-plan plan o count p) schema_is distinct free is refl

-- ---- numbers

codes-none : (rules : RowRules) (given : List Row) (schema : List Entry) (places : List ℕ) → find (λ place. is_categorical (entry_at schema place).1) places ≡ None
    → first_some (map codes_past (frame_of_rows rules (entries_in schema places) given)) ≡ None
codes-none rules given schema [] none = refl
codes-none rules given schema (place ∷ places) none = by (is_categorical (entry_at schema place).1) refl none (codes-none rules given schema places)
  where
    by : (t : Bool) → is_categorical (entry_at schema place).1 ≡ t → cond t (Some place) (find (λ place. is_categorical (entry_at schema place).1) places) ≡ None
        → (find (λ place. is_categorical (entry_at schema place).1) places ≡ None → first_some (map codes_past (frame_of_rows rules (entries_in schema places) given)) ≡ None)
        → first_some (map codes_past (frame_of_rows rules (entries_in schema (place ∷ places)) given)) ≡ None
    by true e wrong rest = absurd (cc)
    by false e none rest =
        let column = read_column rules given (place, entry_at schema place) in
        let here : codes_past column ≡ None = rw e refl in
        first_some-behind (codes_past column) (map codes_past (frame_of_rows rules (entries_in schema places) given)) here ∙ rest none

high : (rules : RowRules) (schema : List Entry) (places : List ℕ) (given : List Row) → 0 < length places → height_of (frame_of_rows rules (entries_in schema places) given) ≡ length given
high rules schema [] given some = absurd (omega arith)
high rules schema (place ∷ places) given some = length-map given _

-- a refusal, or want of memory
pub rows-fault : (first : Option PolarsError) (refusal : PolarsError) → IsFault first refusal → IsRowsFault first (fault_of refusal)
rows-fault first error.OutOfMemory is = tt
rows-fault first refusal (inl is) = is
rows-fault first refusal (inr wanting) = absurd (cc)

pub err-map : {T E : Type 0} {P Q : E → Type 0} (r : Result T E) → ((e : E) → P e → Q e) → IfErr r P → IfErr r Q
err-map (Ok x) f p = tt
err-map (Err e) f p = f e p

module _ (o : CsvReadOptions) (before : ℕ) (given : List Row) (columns : List ColumnValue) (are : AreColumns o given columns) (uncoded : first_categorical o ≡ None) (some : 0 < length (projected o (given_schema o))) where
  pub height-is : height_of columns ≡ length given
  height-is = ap height_of are.columns_are ∙ high (rules_of o (given_schema o)) (given_schema o) (projected o (given_schema o)) given some

  past-is : index_past o.row_index (before + height_of columns) columns ≡ numbers_past o.row_index (before + length given)
  past-is =
      let codes : first_some (map codes_past columns) ≡ None = ap (λ l. first_some (map codes_past l)) are.columns_are ∙ codes-none (rules_of o (given_schema o)) given (given_schema o) (projected o (given_schema o)) uncoded in
      ap (λ n. first_some (numbers_past o.row_index (before + n) ∷ map codes_past columns)) height-is ∙ by (numbers_past o.row_index (before + length given)) (map codes_past columns) codes
    where
      by : (first : Option PolarsError) (others : List (Option PolarsError)) → first_some others ≡ None → first_some (first ∷ others) ≡ first
      by None others none = first_some-behind None others refl ∙ none
      by (Some cause) others none = first_some-here (Some cause) others cause refl

  pub numbered-frame : (frame : List ColumnValue) → frame ≡ with_index (index_behind before o.row_index) (height_of columns) columns → frame ≡ frame_behind o (given_schema o) before given
  numbered-frame frame is = is ∙ ap (λ n. with_index (index_behind before o.row_index) n columns) height-is ∙ ap (with_index (index_behind before o.row_index) (length given)) are.columns_are

  pub numbered-sound : index_past o.row_index (before + height_of columns) columns ≡ None → numbers_past o.row_index (before + length given) ≡ None
  numbered-sound none = sym past-is ∙ none

  pub numbered-fault : (refusal : PolarsError) → IsFault (index_past o.row_index (before + height_of columns) columns) refusal → IsRowsFault (numbers_past o.row_index (before + length given)) (fault_of refusal)
  numbered-fault refusal is = subst (λ first. IsRowsFault first (fault_of refusal)) past-is (rows-fault (index_past o.row_index (before + height_of columns) columns) refusal is)

-- ---- the first cause against rows

pub sound-cause : (o : CsvReadOptions) (before : ℕ) (given : List Row) → fault_in_rows o before given ≡ None → numbers_past o.row_index (before + length given) ≡ None → rows_cause o before given ≡ None
sound-cause o before given none fits =
    first_some-behind (fault_in_rows o before given) (numbers_past o.row_index (before + length given) ∷ []) none ∙ first_some-one (numbers_past o.row_index (before + length given)) ∙ fits

pub fault-cause : (o : CsvReadOptions) (before : ℕ) (given : List Row) (refused : StreamFault) → IsRowsFault (fault_in_rows o before given) refused → IsRowsFault (rows_cause o before given) refused
fault-cause o before given (fault.Polars refusal) is = first_some-here (fault_in_rows o before given) (numbers_past o.row_index (before + length given) ∷ []) refusal is
fault-cause o before given fault.OutOfMemory is = tt
fault-cause o before given fault.NoSchema is = is
fault-cause o before given (fault.Category column) is = is
fault-cause o before given fault.NoColumn is = is
fault-cause o before given fault.Source is = is
fault-cause o before given fault.Sink is = is
fault-cause o before given fault.TooLong is = is

pub number-cause : (o : CsvReadOptions) (before : ℕ) (given : List Row) (refused : StreamFault) → fault_in_rows o before given ≡ None → IsRowsFault (numbers_past o.row_index (before + length given)) refused → IsRowsFault (rows_cause o before given) refused
number-cause o before given (fault.Polars refusal) none is =
    first_some-behind (fault_in_rows o before given) (numbers_past o.row_index (before + length given) ∷ []) none ∙ first_some-one (numbers_past o.row_index (before + length given)) ∙ is
number-cause o before given fault.OutOfMemory none is = tt
number-cause o before given fault.NoSchema none is = is
number-cause o before given (fault.Category column) none is = is
number-cause o before given fault.NoColumn none is = is
number-cause o before given fault.Source none is = is
number-cause o before given fault.Sink none is = is
number-cause o before given fault.TooLong none is = is
