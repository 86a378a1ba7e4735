use Rattle.std.proofs.Common.{ℕ, List, [], take, refl, sym, ◌∙◌, ap, if◌then◌else◌}
use Rattle.std.specs.Str.{bytes_eq}
use Rattle.std.proofs.lemmas.List.{take_all}
use Rattle.pl_cells.specs.NullValues.{text_under}
use Rattle.pl_cells.proofs.NullLaws.{text_under-more}
use Rattle.pl_cells.proofs.null_values.text_under.Goals as goal

pub loop-entry-init : goal.loop-entry-init
loop-entry-init c = (([], (refl, refl)), refl)

pub loop-entry-preserved : goal.loop-entry-preserved
loop-entry-preserved c =
    let name = c.args.name.now in
    let entry = c.entry-item.result in (
      c.text_of-text.utf8,
      c.text_of-text.ensures
          ∙ ap (λ text. if bytes_eq name entry.0 then entry.1 else text) c.loop-entry.invariant.1
          ∙ ap (λ (e : List ℕ × List ℕ). if bytes_eq name e.0 then e.1 else text_under [] (take c.loop-entry.entry-index c.args.entries.now) name) c.entry-item.is
          ∙ sym (text_under-more c.args.entries.now c.loop-entry.entry-index entry name c.loop-entry-test.true),
    )

pub returns-text : goal.returns-text
returns-text c = c.loop-entry.invariant.0

pub returns : goal.returns
returns c =
    c.loop-entry.invariant.1 ∙ ap (λ entries. text_under [] entries c.args.name.now) (take_all c.loop-entry.entry-index c.args.entries.now c.loop-entry-test.false)
