-- Laws of inputs that are read and kept.
use Rattle.std.proofs.Common.{◌≡◌, ℕ, List, [], ◌∷◌, length, map, false, refl, sym, ◌∙◌, ap, subst, inr}
use Rattle.std.specs.Prelude.{◌≢◌, ◌⊎◌, Option, None, Result, Ok, Err, IfOk, OnOk, IfErr, IsOkUnless}
use Rattle.std.specs.Option.{option_map}
use Rattle.pl_csv_c.specs.Growing.{ArePlain}
use Rattle.pl_csv_c.specs.Kinds.{kind_of}
use Rattle.pl_csv_c.specs.Reading.{IsReadKept}
use Rattle.pl_csv_c.specs.Views.{IsFrameKept}
use Rattle.pl_csv_c.specs.declared.kept.KeptFrame.{KeptFrame}
use Rattle.pl_csv_c.specs.declared.kinds.Kind.TheVariants as kind
use Rattle.pl_frame.specs.Frame.{ColumnValue}
use Rattle.pl_frame.specs.Schema.{Entry}
use Rattle.pl_frame.specs.declared.data_type.DataType.{DataType}
use Rattle.pl_frame.specs.declared.data_type.DataType.TheVariants as dtype
use Rattle.pl_frame.specs.declared.error.ComputeFault.TheVariants as compute_fault
use Rattle.pl_frame.specs.declared.error.PolarsError.{PolarsError}
use Rattle.pl_frame.specs.declared.error.PolarsError.TheVariants as error
use Rattle.pl_infer.specs.Schemas.{is_categorical}
use Rattle.pl_options.specs.FirstCause.{first_some, IsFault}
use Rattle.pl_options.specs.declared.read_options.CsvReadOptions.{CsvReadOptions}
use Rattle.pl_read.specs.Reading.{frame_of, IsReadFault}
use Rattle.pl_read.specs.Refusals.{codes_past, index_past, faulty_record}
use Rattle.pl_read.specs.Rows.{rows_in, data_columns, data_frame, with_index}
use Rattle.pl_read.specs.Steps.{MayRead, late_cause, data_cause, IsPlanOf}
use Rattle.pl_read.proofs.CauseLaws.{sound-late, refused-late, first_some-one, first_some-behind}
use Rattle.pl_read.proofs.DataLaws.{no-fault-at, columns-at}
use Rattle.pl_rows.specs.Columns.{columns_in}
use Rattle.pl_rows.specs.Ranges.{range_end, range_frame}
use Rattle.pl_rows.specs.declared.plan.RangePlan.{RangePlan}
use Rattle.pl_rows.specs.declared.range.RangeEnd.{RangeEnd}
use Rattle.pl_rows.specs.declared.range.RangeEnd.TheVariants as end

-- ---- data whose columns have no codes

not-categorical : (type : DataType) → kind_of type ≢ kind.Codes → is_categorical type ≡ false
not-categorical dtype.Boolean apart = refl
not-categorical dtype.Int8 apart = refl
not-categorical dtype.Int16 apart = refl
not-categorical dtype.Int32 apart = refl
not-categorical dtype.Int64 apart = refl
not-categorical dtype.Int128 apart = refl
not-categorical dtype.UInt8 apart = refl
not-categorical dtype.UInt16 apart = refl
not-categorical dtype.UInt32 apart = refl
not-categorical dtype.UInt64 apart = refl
not-categorical dtype.String apart = refl
not-categorical dtype.Categorical apart = absurd (apart refl)
not-categorical (dtype.Enum categories) apart = refl
not-categorical dtype.Date apart = refl
not-categorical dtype.Time apart = refl
not-categorical (dtype.Datetime unit) apart = refl
not-categorical (dtype.Decimal precision scale) apart = refl
not-categorical dtype.Null apart = refl

no-codes : (column : ColumnValue) → kind_of column.dtype ≢ kind.Codes → codes_past column ≡ None
no-codes column apart = rw (not-categorical column.dtype apart) refl

none-past : (columns : List ColumnValue) → ArePlain columns → first_some (map codes_past columns) ≡ None
none-past [] plain = refl
none-past (column ∷ columns) plain = rw (no-codes column plain.0) (none-past columns plain.1)

-- where no row has a fault, no cause stands against it
pub straight-cause : (plan : RangePlan) (o : CsvReadOptions) (schema : List Entry) (records : List ℕ) (e : RangeEnd) → IsPlanOf plan o schema → e ≡ range_end plan (columns_in schema plan.projection.places.now) records
    → (e ≡ end.Closed) ⊎ (e ≡ end.Open) → o.row_index ≡ None → ArePlain (range_frame plan schema records) → data_cause o schema records ≡ None
straight-cause plan o schema records e is end_is ended index plain =
    let columns = data_columns o schema records in
    let count = length (rows_in o records) in
    let sound : faulty_record o schema records ≡ None = ap (option_map (λ found. error.ComputeError (compute_fault.Record found.0 found.1.0 found.1.1))) (no-fault-at plan o schema records e is end_is ended) in
    first_some-behind (faulty_record o schema records) _ sound
    ∙ first_some-one _
    ∙ ap (λ i. index_past i count columns) index
    ∙ none-past columns (subst ArePlain (columns-at plan o schema records e is end_is ended) plain)

-- and its columns are the frame
pub straight-frame : (plan : RangePlan) (o : CsvReadOptions) (schema : List Entry) (records : List ℕ) (e : RangeEnd) → IsPlanOf plan o schema → e ≡ range_end plan (columns_in schema plan.projection.places.now) records
    → (e ≡ end.Closed) ⊎ (e ≡ end.Open) → o.row_index ≡ None → range_frame plan schema records ≡ data_frame o schema records
straight-frame plan o schema records e is end_is ended index =
    columns-at plan o schema records e is end_is ended ∙ ap (λ i. with_index i (length (rows_in o records)) (data_columns o schema records)) (sym index)

-- ---- answers

pub sound-of : {P : Type 0} (result : Result KeptFrame PolarsError) → P → OnOk result P
sound-of (Ok kept) p = p
sound-of (Err fault) p = tt

-- where only memory can be wanting
pub wanting-of : (result : Result KeptFrame PolarsError) (first : Option PolarsError) → IsOkUnless result error.OutOfMemory → IfErr result (IsFault first)
wanting-of (Ok kept) first is = tt
wanting-of (Err fault) first is = inr is

-- ---- an answer behind the options

pub read-kept : (o : CsvReadOptions) (schema : List Entry) (input : List ℕ) (result : Result KeptFrame PolarsError) → MayRead o → IfOk result (IsFrameKept (frame_of o schema input))
    → OnOk result (late_cause o schema input ≡ None) → IfOk result (IsReadKept o schema input)
read-kept o schema input (Ok kept) may is sound = record { frame = frame_of o schema input; read = (sound-late o schema input may sound, refl); is = is }
read-kept o schema input (Err fault) may is sound = tt

pub read-refused : (o : CsvReadOptions) (schema : List Entry) (input : List ℕ) (result : Result KeptFrame PolarsError) → MayRead o → IfErr result (IsFault (late_cause o schema input)) → IfErr result (IsReadFault o schema input)
read-refused o schema input (Ok kept) may refused = tt
read-refused o schema input (Err fault) may refused = refused-late o schema input fault may refused
