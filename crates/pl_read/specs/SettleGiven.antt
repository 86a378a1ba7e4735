-- What a read under a given schema goes by, whatever its input (docs/options.md, docs/refusals.md).
use Rattle.std.specs.Prelude.{◌≡◌, ◌⊎◌, Bool, List, [], ◌∷◌, ◌++◌, Option, Some, unwrap_or}
use Rattle.std.specs.Option.{option_map}
use Rattle.pl_frame.specs.Schema.{Entry}
use Rattle.pl_frame.specs.declared.error.PolarsError.{PolarsError}
use Rattle.pl_frame.specs.declared.error.PolarsError.TheVariants as error
use Rattle.pl_cells.specs.NullValues.{compiled_for}
use Rattle.pl_options.specs.declared.read_options.CsvReadOptions.{CsvReadOptions}
use Rattle.pl_options.specs.FirstCause.{IsFirstCause}
use Rattle.pl_infer.specs.Schemas.{unreadable}
use Rattle.pl_read.specs.declared.settle_given.Settled.{Settled}
use Rattle.pl_read.specs.Options.{settled}
use Rattle.pl_read.specs.Projection.{projected}
use Rattle.pl_read.specs.Refusals.{early_causes, overrides, unknown, out_of_bounds, duplicate}

-- the given schema, settled
abbrev pub given_schema : CsvReadOptions → List Entry
given_schema o = settled o (unwrap_or o.schema [])

-- the causes against a settled schema, and against what is read of it, that no input has a part in
abbrev pub column_causes : CsvReadOptions → List Entry → List (Option PolarsError)
column_causes o schema = unknown o schema ∷ out_of_bounds o schema ∷ duplicate o schema ∷ []

abbrev pub settled_causes : CsvReadOptions → List Entry → List (Option PolarsError)
settled_causes o schema = overrides o schema ∷ unreadable schema ∷ column_causes o schema

-- the causes against options with a given schema, whatever the input, in their order
abbrev pub given_causes : CsvReadOptions → Bool → List (Option PolarsError)
given_causes o is_dialect = early_causes o is_dialect ++ settled_causes o (given_schema o)

-- what a read goes by, under its settled schema
pub record IsSettled (o : CsvReadOptions) (schema : List Entry) (settled : Settled) : Type 0 where
  pub schema_is : settled.schema ≡ schema
  pub places_are : settled.projection.items ≡ projected o schema
  pub nulls_are : settled.null_values ≡ option_map (λ values. compiled_for values schema) o.parse_options.null_values

-- the fault is the first of these causes; or memory is wanting, which may be at any time
abbrev pub IsGivenFault : CsvReadOptions → PolarsError → Type 0
IsGivenFault o fault = IsFirstCause (given_causes o) o.parse_options (Some fault) ⊎ (fault ≡ error.OutOfMemory)
