-- What a state is once its input ended, or why it is refused.
use Rattle.std.proofs.Common.{◌≡◌, ℕ, zero, suc, ◌+◌, ◌^◌, Bool, true, false, List, [], ◌∷◌, ◌++◌, length, refl, sym, ◌∙◌, ap, subst, inl, inr}
use Rattle.std.specs.Prelude.{Option, None, Some, is_none, nat_lt}
use Rattle.std.specs.Option.{option_map}
use Rattle.pl_frame.specs.Compression.{is_compressed}
use Rattle.pl_frame.specs.declared.error.ComputeFault.TheVariants as compute_fault
use Rattle.pl_frame.specs.declared.error.FaultKind.{FaultKind}
use Rattle.pl_frame.specs.declared.error.NoDataFault.TheVariants as no_data
use Rattle.pl_frame.specs.declared.error.PolarsError.{PolarsError}
use Rattle.pl_frame.specs.declared.error.PolarsError.TheVariants as error
use Rattle.pl_options.specs.declared.read_options.CsvReadOptions.{CsvReadOptions}
use Rattle.pl_options.specs.declared.row_index.RowIndex.{RowIndex}
use Rattle.pl_options.specs.FirstCause.{when, first_some}
use Rattle.pl_read.specs.Options.{data_of, rules_of}
use Rattle.pl_read.specs.Refusals.{numbers_past}
use Rattle.pl_read.specs.Rows.{columns_read}
use Rattle.pl_read.specs.SettleGiven.{given_schema}
use Rattle.pl_rows.specs.Rows.{first_faulty}
use Rattle.pl_stream.specs.declared.fault.StreamFault.{StreamFault}
use Rattle.pl_stream.specs.declared.fault.StreamFault.TheVariants as fault
use Rattle.pl_stream.specs.Feeding.{faulty_of, numbers_of, all_rows, finish_cause, IsStreamFault}
use Rattle.pl_stream.specs.Kept.{error_of}
use Rattle.pl_stream.specs.Printing.{IsRowsFault}
use Rattle.pl_stream.specs.Stepping.{kept_of}
use Rattle.pl_stream.specs.Stream.{Stream}

-- an error that a state keeps as it is
abbrev IsKept : PolarsError → Type 0
IsKept x = option_map error_of (kept_of (fault.Polars x)) ≡ Some x

same-some : (x y : PolarsError) → ◌≡◌ {A = Option PolarsError} (Some x) (Some y) → x ≡ y
same-some x y h = cc

none-some : {X : Type 0} (y : PolarsError) → ◌≡◌ {A = Option PolarsError} None (Some y) → X
none-some y h = cc

-- the first of causes is kept, where each is
first-kept : (c : Option PolarsError) (others : List (Option PolarsError)) (x : PolarsError) → ((y : PolarsError) → c ≡ Some y → IsKept y) → (first_some others ≡ Some x → IsKept x) → first_some (c ∷ others) ≡ Some x → IsKept x
first-kept None others x one more is = more is
first-kept (Some y) others x one more is = subst IsKept (same-some y x is) (one y refl)

when-kept : (t : Bool) (given y : PolarsError) → IsKept given → when t given ≡ Some y → IsKept y
when-kept true given y kept is = subst IsKept (same-some given y is) kept
when-kept false given y kept is = none-some y is

faulty-kept : (o : CsvReadOptions) (y : PolarsError) (found : Option (ℕ × (ℕ × FaultKind))) → option_map (λ found. error.ComputeError (compute_fault.Record found.0 found.1.0 found.1.1)) found ≡ Some y → IsKept y
faulty-kept o y None is = none-some y is
faulty-kept o y (Some found) is = subst IsKept (same-some (error.ComputeError (compute_fault.Record found.0 found.1.0 found.1.1)) y is) refl

past-kept : (index : Option RowIndex) (n : ℕ) (y : PolarsError) → numbers_past index n ≡ Some y → IsKept y
past-kept None n y is = none-some y is
past-kept (Some index) n y is = when-kept (nat_lt (2 ^ 64) (index.offset + n)) (error.ComputeError (compute_fault.Index index.offset n)) y refl is

numbers-kept : (o : CsvReadOptions) (n : ℕ) (y : PolarsError) → numbers_of o n ≡ Some y → IsKept y
numbers-kept o zero y is = none-some y is
numbers-kept o (suc n) y is = past-kept o.row_index (suc n) y is

cause-kept : (o : CsvReadOptions) (b : List ℕ) (x : PolarsError) → finish_cause o b ≡ Some x → IsKept x
cause-kept o b x is =
    let rows = all_rows o b in
    first-kept (when (is_compressed b) (error.ComputeError compute_fault.Compressed)) (when (is_none (data_of o b)) (error.NoData no_data.Skip) ∷ faulty_of o rows ∷ numbers_of o (length rows) ∷ []) x
    (λ y. when-kept (is_compressed b) (error.ComputeError compute_fault.Compressed) y refl)
    (first-kept (when (is_none (data_of o b)) (error.NoData no_data.Skip)) (faulty_of o rows ∷ numbers_of o (length rows) ∷ []) x
    (λ y. when-kept (is_none (data_of o b)) (error.NoData no_data.Skip) y refl)
    (first-kept (faulty_of o rows) (numbers_of o (length rows) ∷ []) x
    (λ y. faulty-kept o y (first_faulty (rules_of o (given_schema o)) (columns_read o (given_schema o)) 0 rows))
    (first-kept (numbers_of o (length rows)) [] x (numbers-kept o (length rows)) (λ none. none-some x none))))
    is

-- the first cause is answered and kept; or memory is wanting, and the state is as it was
pub unfinished : (s : Stream) (b : List ℕ) (given : StreamFault) → s.fault ≡ None → IsRowsFault (finish_cause s.read b) given → IsStreamFault s (record s { fault = option_map error_of (kept_of given) }) (finish_cause s.read b) given
unfinished s b (fault.Polars x) none is = inr (none, is, ap (λ (f : Option PolarsError). record s { fault = f }) (cause-kept s.read b x is))
unfinished s b fault.OutOfMemory none is = ap (λ (f : Option PolarsError). record s { fault = f }) (sym none)
unfinished s b fault.NoSchema none is = absurd is
unfinished s b (fault.Category column) none is = absurd is
unfinished s b fault.NoColumn none is = absurd is
unfinished s b fault.Source none is = absurd is
unfinished s b fault.Sink none is = absurd is
unfinished s b fault.TooLong none is = absurd is
