use Rattle.std.proofs.Common.{◌≡◌, ◌++◌, take, map}
use Rattle.std.specs.Prelude.{string_bytes}
use Rattle.std.specs.List.{join_with_byte}
use Rattle.pl_csv_c.specs.SchemaText.{entry_text}
use Rattle.pl_csv_c.proofs.schema_text.text_of_schema.Given as goal

abbrev pub invariant-loop-place : goal.invariant-loop-place
invariant-loop-place l = string_bytes l.text ≡ string_bytes l.initial.text ++ join_with_byte 44 (map entry_text (take l.place l.schema))
