-- What a run over many files answers, by its outcome.
use Rattle.std.proofs.Common.{◌≡◌, ℕ, List, sym, ◌∙◌, ap, subst, arith, inl, inr}
use Rattle.std.specs.Prelude.{◌⊎◌, Option, None, Some, Result, Ok, Err, IfOk, IfErr, OnOk}
use Rattle.std.specs.Io.KnownBytes.{Appends}
use Rattle.pl_frame.specs.Causes.{Rose}
use Rattle.pl_frame.specs.Frame.{ColumnValue}
use Rattle.pl_frame.specs.declared.error.PolarsError.TheVariants as error
use Rattle.pl_write.specs.Writing.{AppendsPrefix}
use Rattle.pl_csv.proofs.StatusLaws.{refusal-not_zero}
use Rattle.pl_csv.specs.declared.run.Refusal.TheVariants as refusal
use Rattle.pl_csv.specs.Transcoding.{HasAsciiQuote}
use Rattle.pl_csv.specs.Views.{SinkView}
use Rattle.pl_multi.specs.Printing.{IsJoinedBy, joined_text}
use Rattle.pl_multi.specs.Run.{opener_view, IsWritten, IsPartWritten, IsUnwritten, IsTextFault, IsDueJoined, IsMultiDue, EndsAsMultiDue, meaning_status, outcome_status}
use Rattle.pl_multi.specs.Scan.{IsJoined, IsScanFault, ScansUnlessFailed}
use Rattle.pl_multi.specs.Telling.{multi_status, refusal_of}
use Rattle.pl_multi.specs.Words.{Asked, asked_of_words}
use Rattle.pl_multi.specs.declared.printing.Joined.{Joined}
use Rattle.pl_multi.specs.declared.run.MultiRefusal.{MultiRefusal}
use Rattle.pl_multi.specs.declared.run.MultiRefusal.TheVariants as multi
use Rattle.pl_multi.specs.declared.scan.MultiFault.{MultiFault}
use Rattle.pl_multi.specs.declared.scan.MultiFault.TheVariants as fault
use Rattle.pl_multi.proofs.ScanLaws.{scan-complete}

-- no refusal has status 0
pub multi-not_zero : (r : MultiRefusal) (status : ℕ) → status ≡ multi_status r → status ≡ 0 → ⊥
multi-not_zero (multi.Run given) status is zero = refusal-not_zero given status is zero
multi-not_zero (multi.Part place given) status is zero = refusal-not_zero given status is zero
multi-not_zero (multi.Partitions place) status is zero = omega (arith, is, zero)
multi-not_zero (multi.Duplicate name) status is zero = omega (arith, is, zero)
multi-not_zero multi.Index status is zero = omega (arith, is, zero)

-- ---- a scan

-- what a scan of told parts answers, beside the status that is due to them
abbrev pub ScanEnds : Result (List ColumnValue) MultiFault → (due before now : ℕ) → Type 0
ScanEnds result due before now = (meaning_status result ≡ due) ⊎ (result ≡ Err fault.OutOfMemory) ⊎ ((place : ℕ) × (result ≡ Err (fault.Io place)) × Rose before now)

pub scan-ends : (job : Asked) (holds : List ℕ → Option (List ℕ)) (result : Result (List ColumnValue) MultiFault) (before now due : ℕ)
    → IfOk result (IsJoined holds job.read job.slice job.parts) → IfErr result (IsScanFault holds before now job.read job.slice job.parts)
    → HasAsciiQuote job.write → IsDueJoined job holds due → ScanEnds result due before now
scan-ends job holds result before now due frame refused ascii (inl wide) = absurd (omega (arith, ascii, wide.0))
scan-ends job holds result before now due frame refused ascii (inr (other, (given, meaning, told, means, is))) =
    by (scan-complete holds before now job.read job.slice job.parts result frame refused given meaning told means)
  where
    by : ScansUnlessFailed result meaning before now → ScanEnds result due before now
    by (inl same) = inl (ap meaning_status same ∙ sym is)
    by (inr (inl wanting)) = inr (inl wanting)
    by (inr (inr failed)) = inr (inr failed)

same_err : (cause other : MultiFault) → ◌≡◌ {A = Result (List ColumnValue) MultiFault} (Err cause) (Err other) → cause ≡ other
same_err cause other h = cc

ok_err : {X : Type 0} (frame : List ColumnValue) (cause : MultiFault) → ◌≡◌ {A = Result (List ColumnValue) MultiFault} (Ok frame) (Err cause) → X
ok_err frame cause h = cc

-- a scan that was refused ends as is due
pub ends-refused : (cause : MultiFault) (due before now out out_now : ℕ) → ScanEnds (Err cause) due before now → EndsAsMultiDue due (multi_status (refusal_of cause)) before now out out_now
ends-refused cause due before now out out_now (inl is) = inl is
ends-refused cause due before now out out_now (inr (inl wanting)) = inr (inl (ap (λ c. multi_status (refusal_of c)) (same_err cause fault.OutOfMemory wanting)))
ends-refused cause due before now out out_now (inr (inr (place, failed, rose))) = inr (inr (inl (ap (λ c. multi_status (refusal_of c)) (same_err cause (fault.Io place) failed), rose)))

-- where a frame was scanned 0 is due
pub zero-due : (frame : List ColumnValue) (due before now : ℕ) → ScanEnds (Ok frame) due before now → due ≡ 0
zero-due frame due before now (inl is) = sym is
zero-due frame due before now (inr (inl wanting)) = ok_err frame fault.OutOfMemory wanting
zero-due frame due before now (inr (inr (place, failed, rose))) = ok_err frame (fault.Io place) failed

-- ---- its text

-- a text that was not written ends as is due
pub ends-fault : (text : List ℕ) (out out_now : SinkView) (given : MultiRefusal) (due before now : ℕ) → IsTextFault text out out_now given → due ≡ 0
    → EndsAsMultiDue due (multi_status given) before now out.faults out_now.faults
ends-fault text out out_now given due before now (inl (failed, rose), part) zero = inr (inr (inr (ap multi_status failed, zero, rose)))
ends-fault text out out_now given due before now (inr wanting, part) zero = inr (inl (ap multi_status wanting))

-- where it was read of all parts, it is that of their joined read, written or not
module _ (job : Asked) (holds : List ℕ → Option (List ℕ)) (joined : Joined) (ascii : HasAsciiQuote job.write) (is : IsJoinedBy holds job joined) where
  pub written-is : {X : Type 0} (received received_now : Option (List ℕ)) (result : Result X MultiRefusal) → OnOk result (Appends received received_now (joined_text job.write joined))
      → OnOk result (IsWritten holds job received received_now)
  written-is received received_now (Ok done) text = record { ascii = ascii; frame = is.frame; is = is.is; written = subst (Appends received received_now) is.text_is text }
  written-is received received_now (Err given) text = tt

  pub unwritten-is : {X : Type 0} (before faults : ℕ) (out out_now : SinkView) (result : Result X MultiRefusal) → IfErr result (IsTextFault (joined_text job.write joined) out out_now)
      → IfErr result (IsUnwritten job (opener_view holds before) faults out out_now)
  unwritten-is before faults out out_now (Ok done) refused = tt
  unwritten-is before faults out out_now (Err given) (cause, part) = by cause
    where
      written : IsPartWritten holds job out.received out_now.received
      written = record { ascii = ascii; frame = is.frame; is = is.is; written = subst (AppendsPrefix out.received out_now.received) is.text_is part }

      by : ((given ≡ multi.Run (refusal.Polars error.IO)) × Rose out.faults out_now.faults) ⊎ (given ≡ multi.Run (refusal.Polars error.OutOfMemory)) → IsUnwritten job (opener_view holds before) faults out out_now given
      by (inl (failed, rose)) = inr (inr (inl (failed, rose, written)))
      by (inr wanting) = inr (inr (inr (wanting, written)))

-- and so does one that was due, written or not
pub ends-written : {X : Type 0} (text : List ℕ) (out out_now : SinkView) (result : Result X MultiRefusal) (due before now : ℕ) → IfErr result (IsTextFault text out out_now) → due ≡ 0
    → EndsAsMultiDue due (outcome_status result) before now out.faults out_now.faults
ends-written text out out_now (Ok x) due before now refused zero = inl (sym zero)
ends-written text out out_now (Err given) due before now refused zero = ends-fault text out out_now given due before now refused zero

-- ---- the words

same_some : (job other : Asked) → ◌≡◌ {A = Option Asked} (Some job) (Some other) → job ≡ other
same_some job other h = cc

some_none : {X : Type 0} (job : Asked) → ◌≡◌ {A = Option Asked} (Some job) None → X
some_none job h = cc

-- what is due to words is due to the joined read that they ask for
pub due-job : (words : List (List ℕ)) (holds : List ℕ → Option (List ℕ)) (status : ℕ) (job : Asked) → asked_of_words words ≡ Some job → IsMultiDue words holds status → IsDueJoined job holds status
due-job words holds status job meaning (inl (none, is)) = some_none job (sym meaning ∙ none)
due-job words holds status job meaning (inr (other, its, due)) = subst (λ j. IsDueJoined j holds status) (same_some other job (sym its ∙ meaning)) due
