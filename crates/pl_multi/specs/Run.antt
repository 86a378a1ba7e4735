-- What a run over many files has done, by its status (docs/command-line.md, "Many files").
use Rattle.std.specs.Prelude.{◌≡◌, ◌⊎◌, ℕ, ◌≤◌, List, Option, None, Some, Result, Ok, Err}
use Rattle.std.specs.Io.KnownBytes.{Appends}
use Rattle.pl_frame.specs.Causes.{Rose}
use Rattle.pl_frame.specs.Frame.{ColumnValue}
use Rattle.pl_frame.specs.declared.error.PolarsError.TheVariants as error
use Rattle.pl_text.specs.FrameText.{text_of_frame}
use Rattle.pl_write.specs.Options.{frame_options}
use Rattle.pl_write.specs.Writing.{AppendsPrefix}
use Rattle.pl_csv.specs.Telling.{IsTold}
use Rattle.pl_csv.specs.Transcoding.{HasAsciiQuote}
use Rattle.pl_csv.specs.Views.{SinkView}
use Rattle.pl_csv.specs.declared.run.Refusal.TheVariants as refusal
use Rattle.pl_multi.specs.Scan.{PartBytes, IsJoined, IsScanFault, IsScanMeaning, AreTold}
use Rattle.pl_multi.specs.Telling.{multi_status, multi_line, refusal_of, quote_refusal}
use Rattle.pl_multi.specs.Words.{Asked, asked_of_words}
use Rattle.pl_multi.specs.declared.run.MultiRefusal.{MultiRefusal}
use Rattle.pl_multi.specs.declared.run.MultiRefusal.TheVariants as multi
use Rattle.pl_multi.specs.declared.scan.MultiFault.{MultiFault}

-- what an opener holds, and its count of faults
pub record OpenerView : Type 0 where
  pub holds : List ℕ → Option (List ℕ)
  pub faults : ℕ

abbrev pub opener_view : (List ℕ → Option (List ℕ)) → ℕ → OpenerView
opener_view holds faults = record { holds = holds; faults = faults }

-- ---- what was written

-- the parts have a joined read, which can be written, and the sink received so much of its text
pub record IsJoinedText (Receives : List ℕ → Type 0) (holds : List ℕ → Option (List ℕ)) (job : Asked) : Type 0 where
  pub ascii : HasAsciiQuote job.write
  pub frame : List ColumnValue
  pub is : IsJoined holds job.read job.slice job.parts frame
  pub written : Receives (text_of_frame (frame_options job.write) frame)

-- all of it
abbrev pub IsWritten : (List ℕ → Option (List ℕ)) → Asked → (received received_now : Option (List ℕ)) → Type 0
IsWritten holds job received received_now = IsJoinedText (Appends received received_now) holds job

-- a prefix of it
abbrev pub IsPartWritten : (List ℕ → Option (List ℕ)) → Asked → (received received_now : Option (List ℕ)) → Type 0
IsPartWritten holds job received received_now = IsJoinedText (AppendsPrefix received received_now) holds job

-- the words ask for a joined read, and the sink received all of its text
pub record IsMultiWritten (words : List (List ℕ)) (holds : List ℕ → Option (List ℕ)) (received received_now : Option (List ℕ)) : Type 0 where
  pub job : Asked
  pub meaning : asked_of_words words ≡ Some job
  pub is : IsWritten holds job received received_now

-- ---- refusals

-- why a text was not written: the sink failed, whose count rose, or memory was wanting; the sink received a prefix of the text
abbrev pub IsTextFault : List ℕ → (out out_now : SinkView) → MultiRefusal → Type 0
IsTextFault text out out_now given =
    (((given ≡ multi.Run (refusal.Polars error.IO)) × Rose out.faults out_now.faults) ⊎ (given ≡ multi.Run (refusal.Polars error.OutOfMemory)))
    × AppendsPrefix out.received out_now.received text

-- Why the frame of the parts was not written: the quote is not ASCII, and nothing was opened; or there is no joined read, by its cause; or
-- the sink failed, whose count rose, or memory was wanting, and the sink received a prefix of the text.
abbrev pub IsUnwritten : Asked → OpenerView → (faults : ℕ) → (out out_now : SinkView) → MultiRefusal → Type 0
IsUnwritten job opener faults out out_now given =
    ((128 ≤ job.write.serialize_options.quote_char) × (given ≡ quote_refusal) × (faults ≡ opener.faults) × (out_now ≡ out))
    ⊎ (HasAsciiQuote job.write × ((cause : MultiFault) × IsScanFault opener.holds opener.faults faults job.read job.slice job.parts cause × (given ≡ refusal_of cause)) × (out_now ≡ out))
    ⊎ ((given ≡ multi.Run (refusal.Polars error.IO)) × Rose out.faults out_now.faults × IsPartWritten opener.holds job out.received out_now.received)
    ⊎ ((given ≡ multi.Run (refusal.Polars error.OutOfMemory)) × IsPartWritten opener.holds job out.received out_now.received)

-- Why a run wrote no text, or not all of it: the words have no meaning, or memory was wanting, and opener and sink are as they were; or the
-- frame of the parts that they mean was not written.
abbrev pub IsMultiRefused : List (List ℕ) → OpenerView → (faults : ℕ) → (out out_now : SinkView) → MultiRefusal → Type 0
IsMultiRefused words opener faults out out_now given =
    ((given ≡ multi.Run refusal.Words) × (asked_of_words words ≡ None) × (faults ≡ opener.faults) × (out_now ≡ out))
    ⊎ ((given ≡ multi.Run (refusal.Polars error.OutOfMemory)) × (faults ≡ opener.faults) × (out_now ≡ out))
    ⊎ ((job : Asked) × (asked_of_words words ≡ Some job) × IsUnwritten job opener faults out out_now given)

-- a refusal with this status holds, and its fault line was told
pub record IsMultiRefusedWith (words : List (List ℕ)) (opener : OpenerView) (faults : ℕ) (out out_now err err_now : SinkView) (status : ℕ) : Type 0 where
  pub given : MultiRefusal
  pub is : status ≡ multi_status given
  pub holds : IsMultiRefused words opener faults out out_now given
  pub told : IsTold (multi_line given) err err_now

-- ---- the status that is due

-- the status of what a joined read means, or of what a run answers
abbrev pub outcome_status : {X : Type 0} → Result X MultiRefusal → ℕ
outcome_status (Ok x) = 0
outcome_status (Err given) = multi_status given

abbrev pub meaning_status : Result (List ColumnValue) MultiFault → ℕ
meaning_status (Ok frame) = 0
meaning_status (Err cause) = multi_status (refusal_of cause)

-- The status that is due to a joined read whose parts an opener tells: 13 where the quote of the output is not ASCII, else 0 where they have
-- a joined read, and else that of the first cause against it.
abbrev pub IsDueJoined : Asked → (List ℕ → Option (List ℕ)) → ℕ → Type 0
IsDueJoined job holds status =
    ((128 ≤ job.write.serialize_options.quote_char) × (status ≡ 13))
    ⊎ (HasAsciiQuote job.write × ((given : List PartBytes) × (meaning : Result (List ColumnValue) MultiFault) × AreTold holds job.parts given × IsScanMeaning job.read job.slice given meaning × (status ≡ meaning_status meaning)))

-- The status that is due to words and what an opener tells: 2 where the words have no meaning, else that of their joined read.
abbrev pub IsMultiDue : List (List ℕ) → (List ℕ → Option (List ℕ)) → ℕ → Type 0
IsMultiDue words holds status =
    ((asked_of_words words ≡ None) × (status ≡ 2))
    ⊎ ((job : Asked) × (asked_of_words words ≡ Some job) × IsDueJoined job holds status)

-- the status that is due, or want of memory, or a part that was not read, or a fault of the sink where a text is due; of the last two only one
-- whose count rose
abbrev pub EndsAsMultiDue : (due status : ℕ) → (opener opener_now out out_now : ℕ) → Type 0
EndsAsMultiDue due status opener opener_now out out_now =
    (status ≡ due)
    ⊎ (status ≡ 5)
    ⊎ ((status ≡ 3) × Rose opener opener_now)
    ⊎ ((status ≡ 4) × (due ≡ 0) × Rose out out_now)
