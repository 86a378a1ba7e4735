use Rattle.std.proofs.Common.{◌++◌, ◌∷◌, [], sym, ◌∙◌, ap}
use Rattle.std.proofs.lemmas.List.{take_all}
use Rattle.pl_cells.specs.NullValues.{text_under, column_texts}
use Rattle.pl_cells.proofs.NullLaws.{names_texts-more}
use Rattle.pl_cells.proofs.null_values.texts_under.Goals as goal

pub loop-name-preserved : goal.loop-name-preserved
loop-name-preserved c =
    let entries = c.args.entries.now in
    let name = c.name-item.result in
    c.in_ok-push.ensures.pushed
    ∙ ap (λ text. c.loop-name.texts.items ++ text ∷ []) (c.in_ok-text.ensures.copied ∙ c.text_under.ensures ∙ ap (text_under [] entries) c.as_str.ensures)
    ∙ ap (λ texts. texts ++ text_under [] entries name ∷ []) c.loop-name.invariant
    ∙ sym (names_texts-more entries c.args.names.now c.loop-name.name-index name c.loop-name-test.true c.name-item.is)

pub returns-clause-texts : goal.returns-clause-texts
returns-clause-texts c = c.loop-name.invariant ∙ ap (column_texts c.args.entries.now) (take_all c.loop-name.name-index c.args.names.now c.loop-name-test.false)
