use Rattle.std.proofs.Common.{map, sym, ◌∙◌, ap}
use Rattle.pl_words.specs.SchemaText.{entry_of}
use Rattle.pl_words.specs.Splitting.{parts_at}
use Rattle.pl_words.proofs.SchemaLaws.{with_entries, schema_of-entries}
use Rattle.pl_words.proofs.schema_text.parse_schema.Goals as goal

pub loop-part-init : goal.loop-part-init
loop-part-init c =
    let entries = map entry_of (parts_at 44 c.args.text.now) in
    (c.utf8.text, schema_of-entries c.args.text.now ∙ ap (λ s. with_entries s entries) (sym c.new-schema.ensures))
