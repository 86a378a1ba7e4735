-- What a run over an index has done, by its status (docs/command-line.md, "An index").
use Rattle.std.specs.Prelude.{◌≡◌, ◌⊎◌, ℕ, true, false, List, Option, None, Some, Result, Ok, Err}
use Rattle.std.specs.Io.KnownBytes.{Appends}
use Rattle.pl_frame.specs.Causes.{Rose}
use Rattle.pl_frame.specs.declared.error.PolarsError.TheVariants as error
use Rattle.pl_write.specs.Writing.{AppendsPrefix}
use Rattle.pl_csv.specs.Telling.{IsTold}
use Rattle.pl_csv.specs.Views.{SinkView}
use Rattle.pl_csv.specs.declared.run.Refusal.TheVariants as refusal
use Rattle.pl_seek.specs.Files.{IsHeld, IsToldAt}
use Rattle.pl_seek.specs.Meaning.{IsMeaning, is_unprintable}
use Rattle.pl_seek.specs.Telling.{seek_status, seek_line, quote_refusal}
use Rattle.pl_seek.specs.Words.{asked_of_words}
use Rattle.pl_seek.specs.declared.job.SeekJob.{SeekJob}
use Rattle.pl_seek.specs.declared.run.SeekRefusal.{SeekRefusal}
use Rattle.pl_seek.specs.declared.run.SeekRefusal.TheVariants as seek

-- what an opener holds, and its count of faults
pub record OpenerView : Type 0 where
  pub holds : List ℕ → Option (List ℕ)
  pub faults : ℕ

abbrev pub opener_view : (List ℕ → Option (List ℕ)) → ℕ → OpenerView
opener_view holds faults = record { holds = holds; faults = faults }

-- ---- what was written

-- a job means a text by the files that an opener holds, which can be written, and the sink received so much of it
pub record IsJobText (Receives : List ℕ → Type 0) (holds : List ℕ → Option (List ℕ)) (job : SeekJob) : Type 0 where
  pub printable : is_unprintable job ≡ false
  pub text : List ℕ
  pub is : IsMeaning (IsHeld holds) job (Ok text)
  pub written : Receives text

-- all of it
abbrev pub IsWritten : (List ℕ → Option (List ℕ)) → SeekJob → (received received_now : Option (List ℕ)) → Type 0
IsWritten holds job received received_now = IsJobText (Appends received received_now) holds job

-- a prefix of it
abbrev pub IsPartWritten : (List ℕ → Option (List ℕ)) → SeekJob → (received received_now : Option (List ℕ)) → Type 0
IsPartWritten holds job received received_now = IsJobText (AppendsPrefix received received_now) holds job

-- the words ask for a text, and the sink received all of it
pub record IsSeekWritten (words : List (List ℕ)) (holds : List ℕ → Option (List ℕ)) (received received_now : Option (List ℕ)) : Type 0 where
  pub job : SeekJob
  pub meaning : asked_of_words words ≡ Some job
  pub is : IsWritten holds job received received_now

-- ---- refusals

-- why a text was not written: the sink failed, whose count rose, or memory was wanting; the sink received a prefix of the text
abbrev pub IsTextFault : List ℕ → (out out_now : SinkView) → SeekRefusal → Type 0
IsTextFault text out out_now given =
    (((given ≡ seek.Run (refusal.Polars error.IO)) × Rose out.faults out_now.faults) ⊎ (given ≡ seek.Run (refusal.Polars error.OutOfMemory)))
    × AppendsPrefix out.received out_now.received text

-- Why there is no text, given what the files mean: they mean this refusal; or a file was not opened or not read to its end, and then the
-- count of the opener rose; or memory was wanting.
abbrev pub IsNoText : {X : Type 0} → (Result X SeekRefusal → Type 0) → (before now : ℕ) → SeekRefusal → Type 0
IsNoText Meaning before now given =
    Meaning (Err given) ⊎ ((given ≡ seek.Run refusal.Source) × Rose before now) ⊎ (given ≡ seek.Run (refusal.Polars error.OutOfMemory))

-- Why the text of a job was not written: the quote is not ASCII, and nothing was opened; or there is no text; or the sink failed, whose count
-- rose, or memory was wanting, and the sink received a prefix of the text.
abbrev pub IsUnwritten : SeekJob → OpenerView → (faults : ℕ) → (out out_now : SinkView) → SeekRefusal → Type 0
IsUnwritten job opener faults out out_now given =
    ((is_unprintable job ≡ true) × (given ≡ quote_refusal) × (faults ≡ opener.faults) × (out_now ≡ out))
    ⊎ ((is_unprintable job ≡ false) × IsNoText (IsMeaning (IsHeld opener.holds) job) opener.faults faults given × (out_now ≡ out))
    ⊎ ((given ≡ seek.Run (refusal.Polars error.IO)) × Rose out.faults out_now.faults × IsPartWritten opener.holds job out.received out_now.received)
    ⊎ ((given ≡ seek.Run (refusal.Polars error.OutOfMemory)) × IsPartWritten opener.holds job out.received out_now.received)

-- Why a run wrote no text, or not all of it: the words have no meaning, or memory was wanting, and opener and sink are as they were; or the
-- text that they mean was not written.
abbrev pub IsSeekRefused : List (List ℕ) → OpenerView → (faults : ℕ) → (out out_now : SinkView) → SeekRefusal → Type 0
IsSeekRefused words opener faults out out_now given =
    ((given ≡ seek.Run refusal.Words) × (asked_of_words words ≡ None) × (faults ≡ opener.faults) × (out_now ≡ out))
    ⊎ ((given ≡ seek.Run (refusal.Polars error.OutOfMemory)) × (faults ≡ opener.faults) × (out_now ≡ out))
    ⊎ ((job : SeekJob) × (asked_of_words words ≡ Some job) × IsUnwritten job opener faults out out_now given)

-- a refusal with this status holds, and its fault line was told
pub record IsSeekRefusedWith (words : List (List ℕ)) (opener : OpenerView) (faults : ℕ) (out out_now err err_now : SinkView) (status : ℕ) : Type 0 where
  pub given : SeekRefusal
  pub is : status ≡ seek_status given
  pub holds : IsSeekRefused words opener faults out out_now given
  pub told : IsTold (seek_line given) err err_now

-- ---- the status that is due

-- the status of what the files mean, or of what a run answers
abbrev pub outcome_status : {X : Type 0} → Result X SeekRefusal → ℕ
outcome_status (Ok x) = 0
outcome_status (Err given) = seek_status given

-- The status that is due to a job whose files an opener tells: 13 where the quote of the output is not ASCII, else 0 where they mean a text,
-- and else that of the first cause against it.
abbrev pub IsDueJob : SeekJob → (List ℕ → Option (List ℕ)) → ℕ → Type 0
IsDueJob job holds status =
    ((is_unprintable job ≡ true) × (status ≡ 13))
    ⊎ ((is_unprintable job ≡ false) × ((meaning : Result (List ℕ) SeekRefusal) × IsMeaning (IsToldAt holds) job meaning × (status ≡ outcome_status meaning)))

-- The status that is due to words and what an opener tells: 2 where the words have no meaning, else that of their job.
abbrev pub IsSeekDue : List (List ℕ) → (List ℕ → Option (List ℕ)) → ℕ → Type 0
IsSeekDue words holds status =
    ((asked_of_words words ≡ None) × (status ≡ 2))
    ⊎ ((job : SeekJob) × (asked_of_words words ≡ Some job) × IsDueJob job holds status)

-- the status that is due, or want of memory, or a file that was not read, or a fault of the sink where a text is due; of the last two only one
-- whose count rose
abbrev pub EndsAsSeekDue : (due status : ℕ) → (opener opener_now out out_now : ℕ) → Type 0
EndsAsSeekDue due status opener opener_now out out_now =
    (status ≡ due)
    ⊎ (status ≡ 5)
    ⊎ ((status ≡ 3) × Rose opener opener_now)
    ⊎ ((status ≡ 4) × (due ≡ 0) × Rose out out_now)
