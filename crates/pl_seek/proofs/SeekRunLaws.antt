-- What a run over an index answers, by its outcome.
use Rattle.std.proofs.Common.{◌≡◌, ℕ, ◌<◌, true, false, List, [], ◌∷◌, map, length, refl, sym, ◌∙◌, ap, subst, arith, inl, inr}
use Rattle.std.specs.Prelude.{◌⊎◌, ◌≢◌, IsErrOf, IsOkUnless, Option, None, Some, Result, Ok, Err, IfErr, OnOk, IfSome}
use Rattle.std.specs.Io.KnownBytes.{Appends, Consumes}
use Rattle.std.proofs.lemmas.List.{length-append}
use Rattle.pl_frame.specs.Came.{Came}
use Rattle.pl_options.specs.declared.read_options.CsvReadOptions.{CsvReadOptions}
use Rattle.pl_frame.specs.Causes.{Rose}
use Rattle.pl_frame.specs.declared.error.PolarsError.TheVariants as error
use Rattle.pl_csv.proofs.StatusLaws.{refusal-not_zero}
use Rattle.pl_csv.specs.declared.run.Refusal.TheVariants as refusal
use Rattle.pl_csv.specs.Views.{SinkView}
use Rattle.pl_seek.specs.Files.{IsHeld}
use Rattle.pl_seek.specs.Binding.{Binding}
use Rattle.pl_seek.specs.Index.{HasIndex}
use Rattle.pl_seek.specs.Meaning.{IsBoundBy, IsSliceFault, IsMeaning, is_unprintable}
use Rattle.pl_seek.specs.Parts.{IsReadFault}
use Rattle.pl_seek.specs.Slices.{slice_rows, slice_cause}
use Rattle.pl_seek.specs.Run.{OpenerView, IsNoText, IsPartWritten, IsSeekDue, IsDueJob, IsSeekRefused, IsSeekWritten, IsTextFault, IsUnwritten, IsWritten, EndsAsSeekDue, outcome_status}
use Rattle.pl_seek.specs.Telling.{seek_status, refusal_of}
use Rattle.pl_seek.specs.Words.{asked_of_words, build_of, slice_of}
use Rattle.pl_seek.specs.declared.fault.SeekFault.{SeekFault}
use Rattle.pl_seek.specs.declared.fault.SeekFault.TheVariants as fault
use Rattle.pl_seek.specs.declared.job.SeekJob.{SeekJob}
use Rattle.pl_seek.specs.declared.run.SeekRefusal.{SeekRefusal}
use Rattle.pl_seek.specs.declared.run.SeekRefusal.TheVariants as seek
use Rattle.pl_seek.proofs.MeaningLaws.{meaning-same}

-- no refusal has status 0
pub seek-not_zero : (r : SeekRefusal) (status : ℕ) → status ≡ seek_status r → status ≡ 0 → ⊥
seek-not_zero (seek.Run given) status is zero = refusal-not_zero given status is zero
seek-not_zero seek.Format status is zero = omega (arith, is, zero)
seek-not_zero seek.Input status is zero = omega (arith, is, zero)
seek-not_zero seek.Settings status is zero = omega (arith, is, zero)
seek-not_zero (seek.Places number) status is zero = omega (arith, is, zero)

-- ---- the status that is due

same_some : (job other : SeekJob) → ◌≡◌ {A = Option SeekJob} (Some job) (Some other) → job ≡ other
same_some job other h = cc

some_none : {X : Type 0} (job : SeekJob) → ◌≡◌ {A = Option SeekJob} (Some job) None → X
some_none job h = cc

true_false : {X : Type 0} → true ≡ false → X
true_false e = cc

-- what is due to words is due to the job that they ask for
due-job : (words : List (List ℕ)) (holds : List ℕ → Option (List ℕ)) (status : ℕ) (job : SeekJob) → asked_of_words words ≡ Some job → IsSeekDue words holds status → IsDueJob job holds status
due-job words holds status job meaning (inl (none, is)) = some_none job (sym meaning ∙ none)
due-job words holds status job meaning (inr (other, its, due)) = subst (λ j. IsDueJob j holds status) (same_some other job (sym its ∙ meaning)) due

-- and is that of what its files mean
due-meaning : (job : SeekJob) (holds : List ℕ → Option (List ℕ)) (status : ℕ) (meaning : Result (List ℕ) SeekRefusal) → is_unprintable job ≡ false → IsMeaning (IsHeld holds) job meaning
    → IsDueJob job holds status → outcome_status meaning ≡ status
due-meaning job holds status meaning printable is (inl (not, due)) = true_false (sym not ∙ printable)
due-meaning job holds status meaning printable is (inr (too, (other, its, due))) = ap outcome_status (meaning-same holds job meaning other is its) ∙ sym due

due-text : (words : List (List ℕ)) (holds : List ℕ → Option (List ℕ)) (status : ℕ) (job : SeekJob) (text : List ℕ) → asked_of_words words ≡ Some job → is_unprintable job ≡ false
    → IsMeaning (IsHeld holds) job (Ok text) → IsSeekDue words holds status → status ≡ 0
due-text words holds status job text meaning printable is due = sym (due-meaning job holds status (Ok text) printable is (due-job words holds status job meaning due))

-- a run that wrote a text ends as is due
pub ends-written : (words : List (List ℕ)) (holds : List ℕ → Option (List ℕ)) (received received_now : Option (List ℕ)) (due before now out out_now : ℕ) → IsSeekWritten words holds received received_now
    → IsSeekDue words holds due → EndsAsSeekDue due 0 before now out out_now
ends-written words holds received received_now due before now out out_now written is =
    inl (sym (due-text words holds due written.job written.is.text written.meaning written.is.printable written.is.is is))

-- and so does one that did not
pub ends-refused : (words : List (List ℕ)) (opener : OpenerView) (faults : ℕ) (out out_now : SinkView) (given : SeekRefusal) (due : ℕ) → IsSeekRefused words opener faults out out_now given
    → IsSeekDue words opener.holds due → EndsAsSeekDue due (seek_status given) opener.faults faults out.faults out_now.faults
ends-refused words opener faults out out_now given due (inl (is, none, same, kept)) (inl (too, status)) = inl (ap seek_status is ∙ sym status)
ends-refused words opener faults out out_now given due (inl (is, none, same, kept)) (inr (job, its, holds)) = some_none job (sym its ∙ none)
ends-refused words opener faults out out_now given due (inr (inl (wanting, same, kept))) status = inr (inl (ap seek_status wanting))
ends-refused words opener faults out out_now given due (inr (inr (job, its, unwritten))) status = by unwritten
  where
    text : (written : IsPartWritten opener.holds job out.received out_now.received) → due ≡ 0
    text written = due-text words opener.holds due job written.text its written.printable written.is status

    quoted : is_unprintable job ≡ true → IsDueJob job opener.holds due → 13 ≡ due
    quoted not (inl (too, is)) = sym is
    quoted not (inr (printable, is)) = true_false (sym not ∙ printable)

    none : is_unprintable job ≡ false → IsNoText (IsMeaning (IsHeld opener.holds) job) opener.faults faults given → EndsAsSeekDue due (seek_status given) opener.faults faults out.faults out_now.faults
    none printable (inl means) = inl (due-meaning job opener.holds due (Err given) printable means (due-job words opener.holds due job its status))
    none printable (inr (inl (failed, rose))) = inr (inr (inl (ap seek_status failed, rose)))
    none printable (inr (inr wanting)) = inr (inl (ap seek_status wanting))

    by : IsUnwritten job opener faults out out_now given → EndsAsSeekDue due (seek_status given) opener.faults faults out.faults out_now.faults
    by (inl (not, is, same, kept)) = inl (ap seek_status is ∙ quoted not (due-job words opener.holds due job its status))
    by (inr (inl (printable, why, same))) = none printable why
    by (inr (inr (inl (failed, rose, written)))) = inr (inr (inr (ap seek_status failed, text written, rose)))
    by (inr (inr (inr (wanting, written)))) = inr (inl (ap seek_status wanting))

-- ---- the text of a job, written or not

module _ (job : SeekJob) (holds : List ℕ → Option (List ℕ)) (printable : is_unprintable job ≡ false) (text : List ℕ) (is : IsMeaning (IsHeld holds) job (Ok text)) where
  pub written-is : {X : Type 0} (received received_now : Option (List ℕ)) (result : Result X SeekRefusal) → OnOk result (Appends received received_now text) → OnOk result (IsWritten holds job received received_now)
  written-is received received_now (Ok done) written = record { printable = printable; text = text; is = is; written = written }
  written-is received received_now (Err given) written = tt

  pub unwritten-is : {X : Type 0} (before faults : ℕ) (out out_now : SinkView) (result : Result X SeekRefusal) → IfErr result (IsTextFault text out out_now)
      → IfErr result (IsUnwritten job (record { holds = holds; faults = before }) faults out out_now)
  unwritten-is before faults out out_now (Ok done) refused = tt
  unwritten-is before faults out out_now (Err given) (cause, part) = by cause
    where
      written : IsPartWritten holds job out.received out_now.received
      written = record { printable = printable; text = text; is = is; written = part }

      by : ((given ≡ seek.Run (refusal.Polars error.IO)) × Rose out.faults out_now.faults) ⊎ (given ≡ seek.Run (refusal.Polars error.OutOfMemory)) → IsUnwritten job (record { holds = holds; faults = before }) faults out out_now given
      by (inl (failed, rose)) = inr (inr (inl (failed, rose, written)))
      by (inr wanting) = inr (inr (inr (wanting, written)))

-- where there is none, nothing is written
pub none-unwritten : (job : SeekJob) (holds : List ℕ → Option (List ℕ)) (before faults : ℕ) (out : SinkView) (given : SeekRefusal) → is_unprintable job ≡ false
    → IsNoText (IsMeaning (IsHeld holds) job) before faults given → IsUnwritten job (record { holds = holds; faults = before }) faults out out given
none-unwritten job holds before faults out given printable none = inr (inl (printable, none, refl))

-- ---- files

-- more bytes than a limit came of a file
pub too-long : (n : ℕ) (holds left left_now : Option (List ℕ)) → left ≡ holds → Came left left_now (λ bytes. n < length bytes) → (bytes : List ℕ) × IfSome holds (λ told. bytes ≡ told) × (n < length bytes)
too-long n None left left_now whole (bytes, came, more) = (bytes, tt, more)
too-long n (Some told) left left_now whole (bytes, came, more) = by left_now (subst (λ (l : Option (List ℕ)). Consumes l left_now bytes) whole came)
  where
    by : (now : Option (List ℕ)) → Consumes (Some told) now bytes → (bytes : List ℕ) × (bytes ≡ told) × (n < length bytes)
    by None came = absurd (came)
    by (Some rest) came = (told, refl, omega (arith, ap length came, length-append bytes rest, more))

-- ---- an index that is read

-- why bytes are not read as an index
pub from-fault : (X : Type 0) (bytes : List ℕ) (cause : SeekFault) → (HasIndex bytes → IsOkUnless {T = X} (Err cause) fault.OutOfMemory) → ((¬ HasIndex bytes) → IsErrOf {T = X} (Err cause) fault.Format)
    → ((¬ HasIndex bytes) × (cause ≡ fault.Format)) ⊎ (cause ≡ fault.OutOfMemory)
from-fault X bytes fault.OutOfMemory read refused = inr refl
from-fault X bytes fault.Format read refused = inl (λ has. absurd (let e : fault.Format ≡ fault.OutOfMemory = read has in cc), refl)
from-fault X bytes fault.Options read refused = absurd (let e : ◌≡◌ {A = Result X SeekFault} (Err fault.Options) (Err fault.Format) = refused (λ has. absurd (let o : fault.Options ≡ fault.OutOfMemory = read has in cc)) in cc)
from-fault X bytes (fault.Polars found) read refused = absurd (let e : ◌≡◌ {A = Result X SeekFault} (Err (fault.Polars found)) (Err fault.Format) = refused (λ has. absurd (let o : fault.Polars found ≡ fault.OutOfMemory = read has in cc)) in cc)
from-fault X bytes fault.Input read refused = absurd (let e : ◌≡◌ {A = Result X SeekFault} (Err fault.Input) (Err fault.Format) = refused (λ has. absurd (let o : fault.Input ≡ fault.OutOfMemory = read has in cc)) in cc)
from-fault X bytes fault.Settings read refused = absurd (let e : ◌≡◌ {A = Result X SeekFault} (Err fault.Settings) (Err fault.Format) = refused (λ has. absurd (let o : fault.Settings ≡ fault.OutOfMemory = read has in cc)) in cc)
from-fault X bytes (fault.Places number) read refused = absurd (let e : ◌≡◌ {A = Result X SeekFault} (Err (fault.Places number)) (Err fault.Format) = refused (λ has. absurd (let o : fault.Places number ≡ fault.OutOfMemory = read has in cc)) in cc)

pub format-fault : (o : CsvReadOptions) (start count : ℕ) (input bytes : List ℕ) (cause : SeekFault) → ((¬ HasIndex bytes) × (cause ≡ fault.Format)) ⊎ (cause ≡ fault.OutOfMemory) → IsSliceFault o start count input bytes cause
format-fault o start count input bytes cause (inl none) = inl none
format-fault o start count input bytes cause (inr wanting) = inr (inr (inr wanting))

pub on-ok : {X E : Type 0} {P : Type 0} (result : Result X E) → P → OnOk result P
on-ok (Ok x) p = p
on-ok (Err e) p = tt

-- a slice of an input that an index is bound to is refused for its records alone
pub slice-fault : {X : Type 0} (o : CsvReadOptions) (start count : ℕ) (input bytes : List ℕ) (every : ℕ) (bound : Binding) (result : Result X SeekFault) → bound ≡ record { input = input; read = o; every = every }
    → IsBoundBy o input bytes → IfErr result (IsReadFault (slice_cause bound.read start (slice_rows bound.read bound.input start count))) → IfErr result (IsSliceFault o start count input bytes)
slice-fault o start count input bytes every bound (Ok x) is own refused = tt
slice-fault o start count input bytes every bound (Err cause) is own refused =
    inr (inr (inl (own, subst (λ (b : Binding). IsReadFault (slice_cause b.read start (slice_rows b.read b.input start count)) cause) is refused)))

-- what a cause refuses, but for want of memory
pub no-text : {X : Type 0} (Meaning : Result X SeekRefusal → Type 0) (before now : ℕ) (cause : SeekFault) → (cause ≢ fault.OutOfMemory → Meaning (Err (refusal_of cause))) → IsNoText Meaning before now (refusal_of cause)
no-text Meaning before now fault.OutOfMemory means = inr (inr refl)
no-text Meaning before now fault.Options means = inl (means (λ e. cc))
no-text Meaning before now (fault.Polars found) means = inl (means (λ e. cc))
no-text Meaning before now fault.Format means = inl (means (λ e. cc))
no-text Meaning before now fault.Input means = inl (means (λ e. cc))
no-text Meaning before now fault.Settings means = inl (means (λ e. cc))
no-text Meaning before now (fault.Places number) means = inl (means (λ e. cc))

-- ---- words

pub few-build : {X : Type 0} (f : X → List ℕ) (words : List X) → length words < 2 → build_of (map f words) ≡ None
few-build f [] few = refl
few-build f (x ∷ []) few = refl
few-build f (x ∷ y ∷ words) few = absurd (omega (arith, few))

pub few-slice : {X : Type 0} (f : X → List ℕ) (words : List X) → length words < 4 → slice_of (map f words) ≡ None
few-slice f [] few = refl
few-slice f (x ∷ []) few = refl
few-slice f (x ∷ y ∷ []) few = refl
few-slice f (x ∷ y ∷ z ∷ []) few = refl
few-slice f (x ∷ y ∷ z ∷ w ∷ words) few = absurd (omega (arith, few))
