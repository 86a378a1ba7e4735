-- What comes of bytes that are fed to a state, and of their end (docs/stream.md, "Feeding").
use Rattle.std.specs.Prelude.{◌≡◌, ◌⊎◌, ℕ, zero, suc, true, ◌&&◌, nat_le, is_none, List, ◌∷◌, [], ◌++◌, drop, length, Option, None, Some, unwrap_or}
use Rattle.std.specs.Option.{option_map}
use Rattle.pl_frame.specs.Compression.{is_compressed}
use Rattle.pl_frame.specs.declared.error.ComputeFault.TheVariants as compute_fault
use Rattle.pl_frame.specs.declared.error.NoDataFault.TheVariants as no_data
use Rattle.pl_frame.specs.declared.error.PolarsError.{PolarsError}
use Rattle.pl_frame.specs.declared.error.PolarsError.TheVariants as error
use Rattle.pl_options.specs.declared.read_options.CsvReadOptions.{CsvReadOptions}
use Rattle.pl_options.specs.FirstCause.{when, first_some}
use Rattle.pl_read.specs.Options.{data_of, rules_of}
use Rattle.pl_read.specs.Refusals.{numbers_past}
use Rattle.pl_read.specs.Reading.{frame_of}
use Rattle.pl_read.specs.Rows.{columns_read, rows_in}
use Rattle.pl_read.specs.SettleGiven.{given_schema}
use Rattle.pl_rows.specs.Rows.{first_faulty}
use Rattle.pl_table.specs.Rows.{Row}
use Rattle.pl_text.specs.FrameText.{text_of_frame}
use Rattle.pl_write.specs.Options.{frame_options}
use Rattle.pl_write.specs.declared.options.CsvWriterOptions.{CsvWriterOptions}
use Rattle.pl_stream.specs.Settled.{settled_rows, settled_text}
use Rattle.pl_stream.specs.Stream.{Stream, StandsFor}
use Rattle.pl_stream.specs.declared.fault.StreamFault.{StreamFault}
use Rattle.pl_stream.specs.declared.fault.StreamFault.TheVariants as fault

-- ---- the causes

-- the least of some first rows of an input that has a fault, and its first fault
abbrev pub faulty_of : CsvReadOptions → List Row → Option PolarsError
faulty_of o given =
    let schema = given_schema o in
    option_map (λ found. error.ComputeError (compute_fault.Record found.0 found.1.0 found.1.1)) (first_faulty (rules_of o schema) (columns_read o schema) 0 given)

-- the last number of so many rows does not fit 64 bits; without a row there is none
abbrev pub numbers_of : CsvReadOptions → ℕ → Option PolarsError
numbers_of o zero = None
numbers_of o (suc count) = numbers_past o.row_index (suc count)

-- the first cause against the bytes so far: the mark of a compressed stream, or else a settled record that has a fault, or else a number that does not
-- fit 64 bits
abbrev pub feed_cause : CsvReadOptions → List ℕ → Option PolarsError
feed_cause o b = first_some (
    when (nat_le 4 (length b) && is_compressed b) (error.ComputeError compute_fault.Compressed)
    ∷ faulty_of o (settled_rows o b)
    ∷ numbers_of o (length (settled_rows o b))
    ∷ [])

-- all rows of an input
abbrev pub all_rows : CsvReadOptions → List ℕ → List Row
all_rows o b = rows_in o (unwrap_or (data_of o b) [])

-- the first cause against an input that ended: the mark of a compressed stream, too few items to be skipped, a row that has a fault, or else a number
abbrev pub finish_cause : CsvReadOptions → List ℕ → Option PolarsError
finish_cause o b = first_some (
    when (is_compressed b) (error.ComputeError compute_fault.Compressed)
    ∷ when (is_none (data_of o b)) (error.NoData no_data.Skip)
    ∷ faulty_of o (all_rows o b)
    ∷ numbers_of o (length (all_rows o b))
    ∷ [])

-- ---- what is appended

-- what a text has behind the settled text of bytes
abbrev pub behind_settled : CsvReadOptions → CsvWriterOptions → List ℕ → List ℕ → List ℕ
behind_settled o write b text = drop (length (settled_text o write b)) text

-- the text of the frame of an input
abbrev pub whole_text : CsvReadOptions → CsvWriterOptions → List ℕ → List ℕ
whole_text o write b = text_of_frame (frame_options write) (frame_of o (given_schema o) b)

-- ---- the answers

-- bytes were accepted: the state stands for them too, and what the settled text has by them was appended
pub record IsFed (old new : Stream) (b piece text now : List ℕ) : Type 0 where
  pub read_is : new.read ≡ old.read
  pub write_is : new.write ≡ old.write
  pub none : new.fault ≡ None
  pub stands : StandsFor new (b ++ piece)
  pub sound : feed_cause old.read (b ++ piece) ≡ None
  pub appended : now ≡ text ++ behind_settled old.read old.write b (settled_text old.read old.write (b ++ piece))

-- the end was accepted: what the text of the frame has behind the settled text was appended
pub record IsFinished (old new : Stream) (b text now : List ℕ) : Type 0 where
  pub finished : new ≡ record old { is_finished = true }
  pub sound : finish_cause old.read b ≡ None
  pub appended : now ≡ text ++ behind_settled old.read old.write b (whole_text old.read old.write b)

-- a call was refused: the fault that is kept, or else the first cause, which is kept from then on; or memory is wanting. But for that the state is as it was
abbrev pub IsStreamFault : (old new : Stream) → Option PolarsError → StreamFault → Type 0
IsStreamFault old new cause (fault.Polars refusal) =
    ((old.fault ≡ Some refusal) × (new ≡ old))
    ⊎ ((old.fault ≡ None) × (cause ≡ Some refusal) × (new ≡ record old { fault = Some refusal }))
IsStreamFault old new cause fault.OutOfMemory = new ≡ old
IsStreamFault old new cause _ = ⊥
