-- A record of an input by its number (docs/command-line.md, "At a terminal").
use Rattle.std.specs.Prelude.{ℕ, zero, suc, List, Option, slice_get}
use Rattle.std.specs.Option.{option_map}
use Rattle.pl_frame.specs.Dialect.{Marks}
use Rattle.pl_scan.specs.Fields.{marked_fields}
use Rattle.pl_scan.specs.Start.{pass_comments, pass_one}

-- what is left of records from the one with a number on: the comments before it and the records before it are passed
abbrev pub from_record : Marks → Option (List ℕ) → ℕ → List ℕ → List ℕ
from_record m comment zero records = pass_comments m comment records
from_record m comment (suc number) records = pass_comments m comment (pass_one m comment (from_record m comment number records))

-- the field of the record at the front of bytes in a column, where it has so many
abbrev pub field_at : Marks → ℕ → List ℕ → Option (List ℕ)
field_at m column bytes = option_map (λ field. field.0) (slice_get (marked_fields m bytes) column)
