use Rattle.std.proofs.Common.{◌++◌, ◌∷◌, sym, ◌∙◌, ap, arith}
use Rattle.std.specs.Prelude.{string_bytes}
use Rattle.std.proofs.lemmas.Option.{get_or_from_slice_get}
use Rattle.pl_csv_c.specs.SchemaText.{entry_text, type_text}
use Rattle.pl_frame.specs.Schema.{Entry}
use Rattle.pl_csv_c.proofs.JoinLaws.{joined_more}
use Rattle.pl_csv_c.proofs.schema_text.text_of_schema.Goals as goal

pub loop-place-preserved : goal.loop-place-preserved
loop-place-preserved c =
    let marked = string_bytes c.push_mark.new.text in
    let dtype = c.entry.result.1.now in
    let entry : Entry = (c.entry.result.0.now, dtype) in
    joined_more 44 entry_text c.args.schema.now c.loop-place.place entry (string_bytes c.new-text.result) (string_bytes c.loop-place.text) marked (string_bytes c.push_entry.new.text) (omega arith)
    c.loop-place.invariant c.in_ok-push_mark.ensures
    (c.in_ok-push_entry.ensures ∙ ap (λ n. marked ++ (n ++ (58 ∷ type_text dtype))) c.as_str.ensures ∙ ap (λ e. marked ++ entry_text e) (sym (get_or_from_slice_get c.args.schema.now c.loop-place.place entry entry c.entry.ensures)))
