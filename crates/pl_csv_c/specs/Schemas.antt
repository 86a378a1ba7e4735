-- The schema of an input as a text, by words (docs/command-line.md, "Schema text").
use Rattle.std.specs.Prelude.{◌≡◌, ◌⊎◌, ℕ, List, Some, None}
use Rattle.pl_csv.specs.declared.run.Refusal.{Refusal}
use Rattle.pl_csv.specs.declared.run.Refusal.TheVariants as refusal
use Rattle.pl_csv_c.specs.Given.{Asks, IsUnasked}
use Rattle.pl_csv_c.specs.SchemaText.{schema_text}
use Rattle.pl_csv_c.specs.declared.given.Given.{Given}
use Rattle.pl_frame.specs.Schema.{Entry}
use Rattle.pl_frame.specs.declared.error.OpFault.TheVariants as op_fault
use Rattle.pl_frame.specs.declared.error.PolarsError.{PolarsError}
use Rattle.pl_frame.specs.declared.error.PolarsError.TheVariants as error
use Rattle.pl_options.specs.declared.read_options.CsvReadOptions.{CsvReadOptions}
use Rattle.pl_options.specs.FirstCause.{IsFirstCause}
use Rattle.pl_read.specs.BatchSteps.{IsOpeningFaultOf}
use Rattle.pl_read.specs.Batches.{opening_causes}
use Rattle.pl_read.specs.Options.{settled_schema}
use Rattle.pl_words.specs.SchemaText.{schema_of}

-- `--schema` reads the text of a schema as that schema
abbrev pub IsTold : List Entry → Type 0
IsTold schema = schema_of (schema_text schema) ≡ Some schema

-- it doesn't, as where the schema has no column, or a name has a colon or a comma: that is refused as a wrong option. Or memory is wanting
abbrev pub HasNoText : List Entry → PolarsError → Type 0
HasNoText schema (error.InvalidOperation fault) = (fault ≡ op_fault.Option) × ¬ (IsTold schema)
HasNoText schema error.OutOfMemory = Unit {0}
HasNoText schema _ = ⊥

-- no cause stands against an input before those of its rows, and this text tells its settled schema: `--schema` reads it as that schema
pub record IsToldSchema (o : CsvReadOptions) (input text : List ℕ) : Type 0 where
  pub sound : IsFirstCause (opening_causes o (settled_schema o input) input) o.parse_options None
  pub text_is : text ≡ schema_text (settled_schema o input)
  pub told : schema_of text ≡ Some (settled_schema o input)

-- no cause stands against an input before those of its rows, and its settled schema has no such text
pub record IsUntold (o : CsvReadOptions) (input : List ℕ) (fault : PolarsError) : Type 0 where
  pub sound : IsFirstCause (opening_causes o (settled_schema o input) input) o.parse_options None
  pub untold : HasNoText (settled_schema o input) fault

-- why there is no such text: the first cause that stands against an input before those of its rows, or want of memory; or else that
abbrev pub HasNoToldSchema : CsvReadOptions → List ℕ → PolarsError → Type 0
HasNoToldSchema o input fault = IsOpeningFaultOf o input fault ⊎ IsUntold o input fault

-- the words have a meaning, and by it this text tells the schema of an input
pub record TellsSchema (words : List (List ℕ)) (input text : List ℕ) : Type 0 where
  pub given : Given
  pub asked : Asks words given
  pub is : IsToldSchema given.read input text

-- the words have a meaning, and by it this stands against the text of a schema
pub record CannotTell (words : List (List ℕ)) (input : List ℕ) (fault : PolarsError) : Type 0 where
  pub given : Given
  pub asked : Asks words given
  pub is : HasNoToldSchema given.read input fault

-- why no schema is told: the words have no meaning, or this stands against it; or memory is wanting, which may be at any time
abbrev pub TellsNoSchema : List (List ℕ) → List ℕ → Refusal → Type 0
TellsNoSchema words input (refusal.Polars fault) = (fault ≡ error.OutOfMemory) ⊎ CannotTell words input fault
TellsNoSchema words input given = IsUnasked words given
