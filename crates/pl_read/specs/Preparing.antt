-- What a read needs before it comes to the rows.
use Rattle.std.specs.Prelude.{◌≡◌, ℕ, ◌≤◌, List, length, drop, None, Some}
use Rattle.std.specs.Option.{option_map}
use Rattle.pl_frame.specs.Schema.{Entry}
use Rattle.pl_cells.specs.NullValues.{compiled_for}
use Rattle.pl_options.specs.declared.read_options.CsvReadOptions.{CsvReadOptions}
use Rattle.pl_infer.specs.Schemas.{first_unreadable_column}
use Rattle.pl_read.specs.declared.preparing.Prepared.{Prepared}
use Rattle.pl_read.specs.Options.{data_of}
use Rattle.pl_read.specs.Projection.{projected, taken_name}
use Rattle.pl_read.specs.Refusals.{nothing_read}

-- what the rows of an input are read by, under a schema: no cause against it stands before those of its rows
pub record IsPrepared (o : CsvReadOptions) (schema : List Entry) (input : List ℕ) (prepared : Prepared) : Type 0 where
  pub schema_is : prepared.schema ≡ schema
  pub readable : first_unreadable_column schema ≡ None
  pub nulls_are : prepared.null_values ≡ option_map (λ values. compiled_for values schema) o.parse_options.null_values
  pub places_are : prepared.places.items ≡ projected o schema
  pub free : taken_name o schema ≡ None
  pub within : prepared.start ≤ length input
  pub data_is : data_of o input ≡ Some (drop prepared.start input)
  pub some : nothing_read o schema (drop prepared.start input) ≡ None
