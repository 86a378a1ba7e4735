use Rattle.std.proofs.Common.{ℕ, List, map, ◌∙◌, ap, subst}
use Rattle.std.proofs.lemmas.Result.{on_ok_weaker}
use Rattle.std.specs.Cow.{cow_slice_items}
use Rattle.std.specs.Io.KnownBytes.{Appends}
use Rattle.std.specs.List.{concat}
use Rattle.pl_write.specs.Options.{cell_options}
use Rattle.pl_write.specs.Writing.{AppendsPrefix}
use Rattle.pl_row_numbers.specs.Numbered.{numbered}
use Rattle.pl_row_numbers.proofs.RowLaws.{begins, lines-numbered}
use Rattle.pl_row_numbers.proofs.writing.write_numbered.Goals as goal

pub returns-clause-text : goal.returns-clause-text
returns-clause-text g c = λ name columns are.
    let o = cell_options c.args.options.now in
    let lines = map cow_slice_items c.args.lines.now in
    let same = ap (λ f. numbered f (begins c.args.offset) (concat lines)) c.form_of.ensures ∙ lines-numbered o name c.args.offset columns lines are in
    on_ok_weaker c.write_texts.result (subst (λ (l : List ℕ). Appends (g.Si.Sink.received c.args.sink.now) (g.Si.Sink.received c.write_texts.new.sink) l) same) c.write_texts.ensures.text

pub returns-clause-prefix : goal.returns-clause-prefix
returns-clause-prefix g c = λ name columns are.
    let o = cell_options c.args.options.now in
    let lines = map cow_slice_items c.args.lines.now in
    let same = ap (λ f. numbered f (begins c.args.offset) (concat lines)) c.form_of.ensures ∙ lines-numbered o name c.args.offset columns lines are in
    subst (λ (l : List ℕ). AppendsPrefix (g.Si.Sink.received c.args.sink.now) (g.Si.Sink.received c.write_texts.new.sink) l) same c.write_texts.ensures.prefix
