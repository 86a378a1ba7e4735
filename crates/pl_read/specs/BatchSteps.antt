-- What a reader of batches keeps, and what its steps answer.
use Rattle.std.specs.Prelude.{◌≡◌, ℕ, ◌+◌, ◌^◌, ◌<◌, ◌≤◌, ◌⊎◌, List, length, drop, Option, None}
use Rattle.std.specs.Option.{option_map}
use Rattle.pl_frame.specs.declared.error.ComputeFault.{ComputeFault}
use Rattle.pl_frame.specs.declared.error.PolarsError.{PolarsError}
use Rattle.pl_frame.specs.declared.error.PolarsError.TheVariants as error
use Rattle.pl_options.specs.declared.read_options.CsvReadOptions.{CsvReadOptions}
use Rattle.pl_rows.specs.Rows.{first_faulty}
use Rattle.pl_read.specs.declared.next_frames.NextFrames.{NextFrames}
use Rattle.pl_read.specs.declared.preparing.Prepared.{Prepared}
use Rattle.pl_read.specs.Batches.{Batches, StandsInData, batch_rows, AreFramesOf, EndsBatches, IsOpeningRefusal}
use Rattle.pl_read.specs.Options.{rules_of}
use Rattle.pl_read.specs.Preparing.{IsPrepared}
use Rattle.pl_read.specs.Refusals.{numbers_past}
use Rattle.pl_read.specs.Rows.{columns_read}
use Rattle.pl_read.specs.Steps.{MayRead}

-- what a reader of an input holds that stands at a place of it, behind so many rows
abbrev pub held : CsvReadOptions → List ℕ → Prepared → (at rows : ℕ) → Option ComputeFault → Batches
held o input prepared at rows fault = record {
  options = o;
  schema = prepared.schema;
  records = drop prepared.start input;
  rest = drop at input;
  rows = rows;
  fault = option_map error.ComputeError fault;
}

-- such a reader may read on: nothing stands against its options or its schema, and what is left stands in the data
pub record MayReadOn (o : CsvReadOptions) (input : List ℕ) (prepared : Prepared) (at rows : ℕ) (fault : Option ComputeFault) : Type 0 where
  pub fits : length input < 2 ^ 64
  pub allowed : MayRead o
  pub prepared_is : IsPrepared o prepared.schema input prepared
  pub within : at ≤ length input
  pub stands : StandsInData (held o input prepared at rows fault)

-- the frames of a reader's next batches
pub record AreNext (b : Batches) (n : ℕ) (next : NextFrames) : Type 0 where
  pub some : 0 < length next.frames.items
  pub few : length next.frames.items ≤ n
  pub frames_are : AreFramesOf b.options b.schema b.rows (batch_rows b n) next.frames.items
  pub sound : first_faulty (rules_of b.options b.schema) (columns_read b.options b.schema) b.rows (batch_rows b n) ≡ None
  pub numbered : numbers_past b.options.row_index (b.rows + length (batch_rows b n)) ≡ None
  pub count : next.rows ≡ length (batch_rows b n)
  pub ends : EndsBatches b.options b.rows b.rest (batch_rows b n) next.end

-- the first cause against an input that stands before those of its rows; or memory is wanting, which may be at any time
abbrev pub IsOpeningFaultOf : CsvReadOptions → List ℕ → PolarsError → Type 0
IsOpeningFaultOf o input fault = IsOpeningRefusal o input fault ⊎ (fault ≡ error.OutOfMemory)
