-- An input is read where no cause stands against its frame, and else the first is told.
use Rattle.std.proofs.Common.{◌≡◌, ℕ, Bool, true, false, List, ◌∷◌, refl, sym, ◌∙◌, arith, inl, inr}
use Rattle.std.specs.Prelude.{None, Some, Result, Ok, Err, IfOk, OnOk, IfErr, MatchResult, not, nat_lt}
use Rattle.std.proofs.lemmas.Bool.Decides.{nat_tests}
use Rattle.pl_frame.specs.declared.error.PolarsError.{PolarsError}
use Rattle.pl_frame.specs.declared.error.PolarsError.TheVariants as error
use Rattle.pl_frame.specs.declared.error.ComputeFault.TheVariants as compute_fault
use Rattle.pl_frame.specs.Frame.{ColumnValue}
use Rattle.pl_frame.specs.Schema.{Entry}
use Rattle.pl_options.specs.declared.read_options.CsvReadOptions.{CsvReadOptions}
use Rattle.pl_options.specs.FirstCause.{when, IsFirstCause, IsFault}
use Rattle.pl_read.specs.Options.{settled_schema}
use Rattle.pl_read.specs.Reading.{frame_of}
use Rattle.pl_read.specs.Refusals.{early_causes, late_causes}
use Rattle.pl_read.specs.Steps.{MayRead, late_cause}
use Rattle.pl_read.proofs.CauseLaws.{first_some-early, first_some-late, first_some-behind}
use Rattle.pl_write.specs.declared.options.CsvWriterOptions.{CsvWriterOptions}
use Rattle.pl_csv.specs.Transcoding.{quote_cause, HasAsciiQuote, IsValidRead, IsUnread, IsTranscodeFault}
use Rattle.pl_csv.specs.Views.{SinkView}
use Rattle.pl_csv.proofs.FaultLaws.{cause-not_io}

-- the quote of the output is ASCII, and so no cause
pub quote_none : (write : CsvWriterOptions) → HasAsciiQuote write → quote_cause write ≡ None
quote_none write small = by (nat_lt write.serialize_options.quote_char 128) refl
  where
    by : (t : Bool) → nat_lt write.serialize_options.quote_char 128 ≡ t → when (not t) (error.ComputeError compute_fault.Quote) ≡ None
    by true e = refl
    by false e = absurd (grind (arith, nat_tests, e, small))

-- ---- the cause that is told

-- one of the options
pub unread-early : (read : CsvReadOptions) (schema : List Entry) (input : List ℕ) (write : CsvWriterOptions) (fault : PolarsError) → IsFirstCause (early_causes read) read.parse_options (Some fault)
    → IsUnread read schema input write fault
unread-early read schema input write fault is = inl (record {
  is_dialect = is.is_dialect;
  tells = is.tells;
  is = sym (first_some-early (early_causes read is.is_dialect) (quote_cause write ∷ late_causes read schema input) fault (sym is.is));
})

-- a later one
pub unread-late : (read : CsvReadOptions) (schema : List Entry) (input : List ℕ) (write : CsvWriterOptions) (fault : PolarsError) → MayRead read → HasAsciiQuote write
    → IsFault (late_cause read schema input) fault → IsUnread read schema input write fault
unread-late read schema input write fault may small (inl some) = inl (record {
  is_dialect = may.is_dialect;
  tells = may.tells;
  is = sym
      (first_some-late (early_causes read may.is_dialect) (quote_cause write ∷ late_causes read schema input) (sym may.is)
      ∙ first_some-behind (quote_cause write) (late_causes read schema input) (quote_none write small)
      ∙ some);
})
unread-late read schema input write fault may small (inr wanting) = inr wanting

-- ---- the frame, where there is no cause

pub valid-read : (read : CsvReadOptions) (schema : List Entry) (input : List ℕ) (write : CsvWriterOptions) (frame : List ColumnValue) → MayRead read → HasAsciiQuote write
    → late_cause read schema input ≡ None → frame ≡ frame_of read schema input → IsValidRead read schema input write frame
valid-read read schema input write frame may small none is = (
  small,
  (
    record {
      is_dialect = may.is_dialect;
      tells = may.tells;
      is = sym (first_some-late (early_causes read may.is_dialect) (late_causes read schema input) (sym may.is) ∙ none);
    },
    is,
  ),
)

-- an input that was read, or was not
pub valid-or-unread : (read : CsvReadOptions) (schema : List Entry) (input : List ℕ) (write : CsvWriterOptions) (result : Result (List ColumnValue) PolarsError) → MayRead read → HasAsciiQuote write
    → IfOk result (λ frame. frame ≡ frame_of read schema input) → OnOk result (late_cause read schema input ≡ None) → IfErr result (IsFault (late_cause read schema input))
    → MatchResult result (IsValidRead read schema input write) (IsUnread read schema input write)
valid-or-unread read schema input write (Ok frame) may small frame_is none fault = valid-read read schema input write frame may small none frame_is
valid-or-unread read schema input write (Err refusal) may small frame_is none fault = unread-late read schema input write refusal may small fault

-- ---- nothing was written

pub fault_unread : (read : CsvReadOptions) (write : CsvWriterOptions) (input : List ℕ) (sink : SinkView) (fault : PolarsError) → IsUnread read (settled_schema read input) input write fault
    → IsTranscodeFault read write input sink sink fault
fault_unread read write input sink error.IO (inl cause) = absurd (cause-not_io read (settled_schema read input) input write cause)
fault_unread read write input sink error.IO (inr wanting) = cc
fault_unread read write input sink error.OutOfMemory unread = inl refl
fault_unread read write input sink (error.InvalidOperation op) (inl cause) = (cause, refl)
fault_unread read write input sink (error.InvalidOperation op) (inr wanting) = cc
fault_unread read write input sink (error.ComputeError fault) (inl cause) = (cause, refl)
fault_unread read write input sink (error.ComputeError fault) (inr wanting) = cc
fault_unread read write input sink (error.NoData fault) (inl cause) = (cause, refl)
fault_unread read write input sink (error.NoData fault) (inr wanting) = cc
fault_unread read write input sink (error.ColumnNotFound name) (inl cause) = (cause, refl)
fault_unread read write input sink (error.ColumnNotFound name) (inr wanting) = cc
fault_unread read write input sink (error.OutOfBounds index length) (inl cause) = (cause, refl)
fault_unread read write input sink (error.OutOfBounds index length) (inr wanting) = cc
fault_unread read write input sink (error.Duplicate name at) (inl cause) = (cause, refl)
fault_unread read write input sink (error.Duplicate name at) (inr wanting) = cc
fault_unread read write input sink error.EmptyProjection (inl cause) = (cause, refl)
fault_unread read write input sink error.EmptyProjection (inr wanting) = cc
