-- What a state does with the bytes that it keeps and those that come; only the proofs of the code need this.
use Rattle.std.specs.Prelude.{◌≡◌, ◌⊎◌, ℕ, ◌+◌, ◌≤◌, Bool, true, false, nat_lt, List, drop, length, Option, Some, None, IfSome}
use Rattle.pl_frame.specs.Compression.{is_compressed}
use Rattle.pl_frame.specs.declared.error.ComputeFault.TheVariants as compute_fault
use Rattle.pl_frame.specs.declared.error.PolarsError.TheVariants as error
use Rattle.pl_options.specs.declared.read_options.CsvReadOptions.{CsvReadOptions}
use Rattle.pl_rows.specs.Pieces.{left_limit}
use Rattle.pl_rows.specs.Steps.{is_below}
use Rattle.pl_write.specs.declared.options.CsvWriterOptions.{CsvWriterOptions}
use Rattle.pl_stream.specs.declared.fault.StreamFault.{StreamFault}
use Rattle.pl_stream.specs.declared.fault.StreamFault.TheVariants as fault
use Rattle.pl_stream.specs.declared.head.Reached.{Reached}
use Rattle.pl_stream.specs.declared.place.Place.{Place}
use Rattle.pl_stream.specs.declared.place.Place.TheVariants as place
use Rattle.pl_stream.specs.declared.state.KeptFault.{KeptFault}
use Rattle.pl_stream.specs.declared.state.KeptFault.TheVariants as kept
use Rattle.pl_stream.specs.declared.stepping.Step.{Step}
use Rattle.pl_stream.specs.declared.whole.Whole.{Whole}
use Rattle.pl_stream.specs.Head.{IsReached, HasNoStep}
use Rattle.pl_stream.specs.Printing.{AreSettled, IsPrintFault}
use Rattle.pl_stream.specs.Whole.{IsWholeEnd}

-- a place is within the head
abbrev pub is_in_head : Place → Bool
is_in_head place.Records = false
is_in_head place.Full = false
is_in_head _ = true

-- a place is behind all records
abbrev pub is_full : Place → Bool
is_full place.Full = true
is_full _ = false

-- too few bytes came to tell whether an input is compressed
abbrev pub waits : Place → List ℕ → Bool
waits place.Start b = nat_lt (length b) 4
waits _ b = false

-- the input is compressed
abbrev pub is_marked : Place → List ℕ → Bool
is_marked place.Start b = is_compressed b
is_marked _ b = false

-- ---- what is done

-- the whole records at the front of what stands behind so many bytes, behind so many records, were settled; all bytes are let go where these are all
-- records that are asked for, and else those of the whole items
pub record IsSettledStep (o : CsvReadOptions) (write : CsvWriterOptions) (rows : ℕ) (records : List ℕ) (at : ℕ) (old now : List ℕ) (step : Step) : Type 0 where
  pub whole : Whole
  pub settled : AreSettled o write rows records old now whole
  pub end : IsWholeEnd o.parse_options records (left_limit o.n_rows rows) whole
  pub few : IfSome (left_limit o.n_rows rows) (λ most. whole.rows ≤ most)
  pub rows_is : step.rows ≡ rows + whole.rows
  pub left : ((is_below o.n_rows step.rows ≡ true) × (step.place ≡ place.Records) × (step.at ≡ at + whole.end))
      ⊎ ((is_below o.n_rows step.rows ≡ false) × (step.place ≡ place.Full) × (step.at ≡ at + length records))

-- bytes lead out of the head, to the records
pub record IsOut (o : CsvReadOptions) (from : Place) (bytes : List ℕ) (reached : Reached) : Type 0 where
  pub within : is_in_head from ≡ true
  pub enough : waits from bytes ≡ false
  pub plain : is_marked from bytes ≡ false
  pub moved : IsReached o from bytes reached
  pub out : is_in_head reached.place ≡ false

-- too few bytes came
pub record IsWaitStep (from : Place) (rows : ℕ) (bytes old now : List ℕ) (step : Step) : Type 0 where
  pub few : waits from bytes ≡ true
  pub is : step ≡ record { at = 0; place = from; rows = rows }
  pub same : now ≡ old

-- bytes lead on within the head
pub record IsHeadStep (o : CsvReadOptions) (from : Place) (rows : ℕ) (bytes old now : List ℕ) (step : Step) : Type 0 where
  pub within : is_in_head from ≡ true
  pub enough : waits from bytes ≡ false
  pub plain : is_marked from bytes ≡ false
  pub reached : Reached
  pub moved : IsReached o from bytes reached
  pub stops : HasNoStep o reached.place (drop reached.at bytes)
  pub first : reached.place ≡ place.Start → (from ≡ place.Start) × (reached.at ≡ 0)
  pub still : is_in_head reached.place ≡ true
  pub is : step ≡ record { at = reached.at; place = reached.place; rows = rows }
  pub same : now ≡ old

-- they lead to the records, some of which may be settled
pub record IsDataStep (o : CsvReadOptions) (write : CsvWriterOptions) (from : Place) (rows : ℕ) (bytes old now : List ℕ) (step : Step) : Type 0 where
  pub reached : Reached
  pub out : IsOut o from bytes reached
  pub settled : IsSettledStep o write rows (drop reached.at bytes) reached.at old now step

-- records may be settled
pub record IsRecordsStep (o : CsvReadOptions) (write : CsvWriterOptions) (from : Place) (rows : ℕ) (bytes old now : List ℕ) (step : Step) : Type 0 where
  pub out : is_in_head from ≡ false
  pub some : is_full from ≡ false
  pub settled : IsSettledStep o write rows bytes 0 old now step

-- no more records are asked for
pub record IsFullStep (from : Place) (rows : ℕ) (bytes old now : List ℕ) (step : Step) : Type 0 where
  pub full : is_full from ≡ true
  pub is : step ≡ record { at = length bytes; place = from; rows = rows }
  pub same : now ≡ old

-- one step within the head, or out of it
abbrev pub IsFirstStep : CsvReadOptions → CsvWriterOptions → Place → ℕ → (bytes old now : List ℕ) → Step → Type 0
IsFirstStep o write from rows bytes old now step = IsWaitStep from rows bytes old now step ⊎ IsHeadStep o from rows bytes old now step ⊎ IsDataStep o write from rows bytes old now step

-- one step
abbrev pub IsStepped : CsvReadOptions → CsvWriterOptions → Place → ℕ → (bytes old now : List ℕ) → Step → Type 0
IsStepped o write from rows bytes old now step = IsFirstStep o write from rows bytes old now step ⊎ IsRecordsStep o write from rows bytes old now step ⊎ IsFullStep from rows bytes old now step

-- ---- why not

-- the input is compressed
pub record IsMarkFault (from : Place) (bytes : List ℕ) (given : StreamFault) : Type 0 where
  pub within : is_in_head from ≡ true
  pub enough : waits from bytes ≡ false
  pub marked : is_marked from bytes ≡ true
  pub is : given ≡ fault.Polars (error.ComputeError compute_fault.Compressed)

-- the first cause against the records that bytes lead to
pub record IsDataFault (o : CsvReadOptions) (from : Place) (rows : ℕ) (bytes : List ℕ) (given : StreamFault) : Type 0 where
  pub reached : Reached
  pub out : IsOut o from bytes reached
  pub refused : IsPrintFault o rows (left_limit o.n_rows rows) (drop reached.at bytes) given

-- the first cause against the records
pub record IsRecordsFault (o : CsvReadOptions) (from : Place) (rows : ℕ) (bytes : List ℕ) (given : StreamFault) : Type 0 where
  pub out : is_in_head from ≡ false
  pub some : is_full from ≡ false
  pub refused : IsPrintFault o rows (left_limit o.n_rows rows) bytes given

abbrev pub IsFirstFault : CsvReadOptions → Place → ℕ → List ℕ → StreamFault → Type 0
IsFirstFault o from rows bytes given = IsMarkFault from bytes given ⊎ IsDataFault o from rows bytes given

-- one of these; or memory is wanting, which may be at any time
abbrev pub IsStepFault : CsvReadOptions → Place → ℕ → List ℕ → StreamFault → Type 0
IsStepFault o from rows bytes given = (given ≡ fault.OutOfMemory) ⊎ IsFirstFault o from rows bytes given ⊎ IsRecordsFault o from rows bytes given

-- the fault that a state keeps for a refusal
abbrev pub kept_of : StreamFault → Option KeptFault
kept_of (fault.Polars (error.ComputeError given)) = Some (kept.Compute given)
kept_of (fault.Polars (error.NoData given)) = Some (kept.NoData given)
kept_of _ = None
