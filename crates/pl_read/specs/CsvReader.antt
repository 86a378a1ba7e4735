-- What a reader of frames has, and what its reads answer (docs/files.md, "Reading a frame").
use Rattle.std.specs.Prelude.{◌≡◌, ℕ, ◌⊎◌, List, Option, Result, Err, IsNone, IfSome, MatchResult}
use Rattle.std.specs.Io.KnownBytes.{IsAtEnd}
use Rattle.pl_frame.specs.Causes.{Rose}
use Rattle.pl_frame.specs.Frame.{ColumnValue}
use Rattle.pl_frame.specs.declared.error.PolarsError.{PolarsError}
use Rattle.pl_frame.specs.declared.error.PolarsError.TheVariants as error
use Rattle.pl_options.specs.declared.read_options.CsvReadOptions.{CsvReadOptions}
use Rattle.pl_read.specs.BytesReader.{input_of}
use Rattle.pl_read.specs.Options.{settled_schema}
use Rattle.pl_read.specs.Reading.{IsRead, IsRefusal}

-- a reader of frames: its source, and how that is read
pub record Reader (R : Type 0) : Type 0 where
  pub source : R
  pub options : CsvReadOptions

-- ---- the input

-- these are the bytes of an input, as far as its source tells them; a source that lends none was read to its end
pub record IsInput (lent before now : Option (List ℕ)) (bytes : List ℕ) : Type 0 where
  pub told : IfSome (input_of lent before) (λ input. bytes ≡ input)
  pub ended : IsNone lent → IsAtEnd now

-- this holds of the input that a source gave
abbrev pub OfInput : {R : Type 0} → (lent left : R → Option (List ℕ)) → (before now : R) → (List ℕ → Type 0) → Type 0
OfInput lent left before now P = (input : List ℕ) × IsInput (lent before) (left before) (left now) input × P input

-- a fault of a source that lends nothing, whose count rose; or memory is wanting, which may be at any time
abbrev pub IsUnlentFault : (lent : Option (List ℕ)) → (before now : ℕ) → PolarsError → Type 0
IsUnlentFault lent before now fault = (fault ≡ error.OutOfMemory) ⊎ ((fault ≡ error.IO) × IsNone lent × Rose before now)

-- ---- the answer

-- why there is no frame: a fault of a source that lends nothing, whose count rose; want of memory, at any time; else the first
-- cause against the input under its settled schema
abbrev pub IsFinishFault : {R : Type 0} → (lent left : R → Option (List ℕ)) → (faults : R → ℕ) → (before now : R) → CsvReadOptions → PolarsError → Type 0
IsFinishFault lent left faults before now o error.IO = IsNone (lent before) × Rose (faults before) (faults now)
IsFinishFault lent left faults before now o error.OutOfMemory = Unit {0}
IsFinishFault lent left faults before now o fault = OfInput lent left before now (λ input. IsRefusal o (settled_schema o input) input fault)

-- what an input means under its settled schema: a frame, or the first cause against it
abbrev pub IsMeaning : CsvReadOptions → List ℕ → Result (List ColumnValue) PolarsError → Type 0
IsMeaning o input meaning =
    let schema = settled_schema o input in
    MatchResult meaning (IsRead o schema input) (IsRefusal o schema input)

-- this answer, or want of memory, or a fault of the source, whose count rose
abbrev pub AnswersUnlessFailed : {X : Type 0} → (result expected : Result X PolarsError) → (before now : ℕ) → Type 0
AnswersUnlessFailed result expected before now =
    (result ≡ expected) ⊎ (result ≡ Err error.OutOfMemory) ⊎ ((result ≡ Err error.IO) × Rose before now)
