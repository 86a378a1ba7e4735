use Rattle.std.proofs.Common.{◌++◌, ◌∷◌, [], sym, ◌∙◌, ap, add-one}
use Rattle.pl_cells.specs.NullValues.{text_under}
use Rattle.pl_cells.proofs.NullLaws.{column_texts-more}
use Rattle.pl_cells.proofs.null_values.texts_of_columns.Goals as goal

pub loop-place-preserved : goal.loop-place-preserved
loop-place-preserved c =
    let name = c.in-Some.name.now in
    rw add-one
    (c.in_ok-push.ensures.pushed
    ∙ ap (λ text. c.loop-place.texts.items ++ text ∷ []) (c.in_ok-text.ensures.copied ∙ c.text_under.ensures ∙ ap (text_under [] c.args.entries.now) c.as_str.ensures)
    ∙ ap (λ texts. texts ++ text_under [] c.args.entries.now name ∷ []) c.loop-place.invariant
    ∙ sym (column_texts-more c.args.entries.now c.args.schema.now c.loop-place.place name c.in-Some.field-0-1.now (sym c.in-Some.ensures)))
