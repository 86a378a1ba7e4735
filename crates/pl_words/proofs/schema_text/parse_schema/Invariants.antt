use Rattle.std.proofs.Common.{◌≡◌, map, length}
use denote.Text.{Utf8}
use denote.Shadow.{shadow}
use Rattle.pl_words.specs.SchemaText.{entry_of, schema_of}
use Rattle.pl_words.specs.Splitting.{parts_at}
use Rattle.pl_words.proofs.SchemaLaws.{with_entries}
use Rattle.pl_words.proofs.schema_text.parse_schema.Given as goal

abbrev pub invariant-loop-part : goal.invariant-loop-part
invariant-loop-part l = shadow (Utf8 l.rest) × (schema_of l.text ≡ with_entries l.schema (map entry_of (parts_at 44 l.rest)))

abbrev pub decreases-loop-part : goal.decreases-loop-part
decreases-loop-part l = length l.rest
