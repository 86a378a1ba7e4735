-- What a stream of a source has written to a sink (docs/stream.md, "From a source to a sink").
use Rattle.std.specs.Prelude.{◌≡◌, ◌⊎◌, ℕ, ◌<◌, ◌≤◌, ◌^◌, false, List, [], ◌++◌, length, Option, None, Some}
use Rattle.std.specs.Io.KnownBytes.{Appends, Consumes, IsAtEnd}
use Rattle.pl_frame.specs.Causes.{Rose}
use Rattle.pl_options.specs.declared.read_options.CsvReadOptions.{CsvReadOptions}
use Rattle.pl_write.specs.Writing.{AppendsPrefix}
use Rattle.pl_write.specs.declared.options.CsvWriterOptions.{CsvWriterOptions}
use Rattle.pl_csv.specs.Views.{SinkView, SourceView}
use Rattle.pl_stream.specs.declared.fault.StreamFault.{StreamFault}
use Rattle.pl_stream.specs.declared.fault.StreamFault.TheVariants as fault
use Rattle.pl_stream.specs.Feeding.{feed_cause, finish_cause, behind_settled, whole_text}
use Rattle.pl_stream.specs.Options.{IsAccepted, IsRefused}
use Rattle.pl_stream.specs.Settled.{settled_text}
use Rattle.pl_stream.specs.Stream.{Stream, StandsFor}

-- the most bytes that an input has
abbrev pub most_bytes : ℕ
most_bytes = 2 ^ 36

-- ---- one call

-- a state that can be fed: no call answered a fault, and the input did not end
pub record IsOpenState (state : Stream) : Type 0 where
  pub none : state.fault ≡ None
  pub unended : state.is_finished ≡ false

-- bytes were accepted behind others, and the sink received what the settled text has by them
pub record IsFedOn (old new : Stream) (b piece : List ℕ) (received received_now : Option (List ℕ)) : Type 0 where
  pub read_is : new.read ≡ old.read
  pub write_is : new.write ≡ old.write
  pub is_open : IsOpenState new
  pub stands : StandsFor new (b ++ piece)
  pub sound : feed_cause old.read (b ++ piece) ≡ None
  pub written : Appends received received_now (behind_settled old.read old.write b (settled_text old.read old.write (b ++ piece)))

-- the end was accepted, and the sink received what the text of the frame has behind the settled text
pub record IsEndedOn (o : CsvReadOptions) (write : CsvWriterOptions) (b : List ℕ) (received received_now : Option (List ℕ)) : Type 0 where
  pub sound : finish_cause o b ≡ None
  pub written : Appends received received_now (behind_settled o write b (whole_text o write b))

-- why a text was not written: the sink failed, whose count rose, or memory was wanting; the sink received a prefix of the text
abbrev pub IsPutFault : List ℕ → (out out_now : SinkView) → StreamFault → Type 0
IsPutFault text out out_now fault.Sink = Rose out.faults out_now.faults × AppendsPrefix out.received out_now.received text
IsPutFault text out out_now fault.OutOfMemory = AppendsPrefix out.received out_now.received text
IsPutFault text out out_now _ = ⊥

-- why bytes were not accepted behind others, or their text was not written: a cause stands against them, or memory was wanting, and the sink is as
-- it was; or they were accepted, and the sink received a prefix of their text
abbrev pub IsFeedFault : CsvReadOptions → CsvWriterOptions → (b piece : List ℕ) → (out out_now : SinkView) → StreamFault → Type 0
IsFeedFault o write b piece out out_now given =
    (((given ≡ fault.OutOfMemory) ⊎ ((refusal : _) × (given ≡ fault.Polars refusal) × (feed_cause o (b ++ piece) ≡ Some refusal))) × (out_now ≡ out))
    ⊎ ((feed_cause o (b ++ piece) ≡ None) × IsPutFault (behind_settled o write b (settled_text o write (b ++ piece))) out out_now given)

-- the same of the end
abbrev pub IsEndFault : CsvReadOptions → CsvWriterOptions → (b : List ℕ) → (out out_now : SinkView) → StreamFault → Type 0
IsEndFault o write b out out_now given =
    (((given ≡ fault.OutOfMemory) ⊎ ((refusal : _) × (given ≡ fault.Polars refusal) × (finish_cause o b ≡ Some refusal))) × (out_now ≡ out))
    ⊎ ((finish_cause o b ≡ None) × IsPutFault (behind_settled o write b (whole_text o write b)) out out_now given)

-- ---- all of a source

-- Bytes came of a source: those that were accepted, and behind them others that were not. The sink received exactly the settled text of the accepted ones.
pub record HasFed (o : CsvReadOptions) (write : CsvWriterOptions) (left left_now received received_now : Option (List ℕ)) (fed last : List ℕ) : Type 0 where
  pub came : Consumes left left_now (fed ++ last)
  pub within : length fed ≤ most_bytes
  pub sound : feed_cause o fed ≡ None
  pub written : Appends received received_now (settled_text o write fed)

-- all bytes of a source came, and have a frame, and the sink received exactly its text
pub record IsStreamed (o : CsvReadOptions) (write : CsvWriterOptions) (left left_now received received_now : Option (List ℕ)) : Type 0 where
  pub bytes : List ℕ
  pub came : Consumes left left_now bytes
  pub end : IsAtEnd left_now
  pub within : length bytes ≤ most_bytes
  pub sound : finish_cause o bytes ≡ None
  pub written : Appends received received_now (whole_text o write bytes)

-- the sink received a prefix of the settled text of bytes that came and were accepted; or all bytes came and have a frame, and it received a prefix
-- of its text
abbrev pub IsPartStreamed : CsvReadOptions → CsvWriterOptions → (left left_now received received_now : Option (List ℕ)) → Type 0
IsPartStreamed o write left left_now received received_now =
    (fed last : List ℕ) × Consumes left left_now (fed ++ last) × (length (fed ++ last) ≤ most_bytes)
    × (((feed_cause o fed ≡ None) × AppendsPrefix received received_now (settled_text o write fed))
    ⊎ ((last ≡ []) × IsAtEnd left_now × (finish_cause o fed ≡ None) × AppendsPrefix received received_now (whole_text o write fed)))

-- Why not all text of a source was written, under options that are accepted. The source failed, whose count rose; or more bytes came than an input may
-- have; or a cause stands against the bytes that came, or against all of them: the sink received exactly the settled text of the bytes that were accepted
-- before. Or the sink failed, whose count rose, or memory was wanting, and the sink received a prefix of a text.
abbrev pub IsUnstreamed : CsvReadOptions → CsvWriterOptions → (source source_now : SourceView) → (out out_now : SinkView) → StreamFault → Type 0
IsUnstreamed o write source source_now out out_now fault.Source =
    Rose source.faults source_now.faults × ((fed : List ℕ) × HasFed o write source.left source_now.left out.received out_now.received fed [])
IsUnstreamed o write source source_now out out_now fault.TooLong =
    (fed last : List ℕ) × HasFed o write source.left source_now.left out.received out_now.received fed last × (most_bytes < length (fed ++ last))
IsUnstreamed o write source source_now out out_now (fault.Polars refusal) =
    (fed last : List ℕ) × HasFed o write source.left source_now.left out.received out_now.received fed last × (length (fed ++ last) ≤ most_bytes)
    × ((feed_cause o (fed ++ last) ≡ Some refusal) ⊎ ((last ≡ []) × IsAtEnd source_now.left × (finish_cause o fed ≡ Some refusal)))
IsUnstreamed o write source source_now out out_now fault.Sink = Rose out.faults out_now.faults × IsPartStreamed o write source.left source_now.left out.received out_now.received
IsUnstreamed o write source source_now out out_now fault.OutOfMemory = IsPartStreamed o write source.left source_now.left out.received out_now.received
IsUnstreamed o write source source_now out out_now _ = ⊥

-- why a stream did not write all text of a source: its options are refused, or memory was wanting, and source and sink are as they were; or the options
-- are accepted
abbrev pub IsStreamRefused : CsvReadOptions → CsvWriterOptions → (source source_now : SourceView) → (out out_now : SinkView) → StreamFault → Type 0
IsStreamRefused o write source source_now out out_now given =
    (IsRefused o write given × (source_now ≡ source) × (out_now ≡ out))
    ⊎ (IsAccepted o write × IsUnstreamed o write source source_now out out_now given)
