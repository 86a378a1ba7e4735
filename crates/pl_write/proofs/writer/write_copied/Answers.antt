use Rattle.std.proofs.Common.{List, ℕ, [], ◌++◌, subst}
use Rattle.std.proofs.lemmas.Result.{on_ok_weaker}
use Rattle.pl_write.specs.Options.{cell_options}
use Rattle.pl_write.specs.Writing.{AppendsPrefix, IsWriting}
use Rattle.pl_write.proofs.StripLaws.{copied-lines}
use Rattle.pl_write.proofs.writer.write_copied.Goals as goal

pub returns-clause-text : goal.returns-clause-text
returns-clause-text g c =
    let old = g.Si.Sink.received c.args.sink.now in
    let next = g.Si.Sink.received c.write_strips.new.sink in
    let copies = c.in-Ok.copies in
    let text = copied-lines (cell_options c.args.options.now) c.args.columns.now c.in-Ok-strips_of.strips.items c.deref.result.now copies.first copies.end c.args.first c.args.end
    c.deref.ensures.value c.in-Ok.ensures.first c.in-Ok.ensures.end c.in-Ok-strips_of.ensures.lines in
    on_ok_weaker c.write_strips.result (subst (λ (l : List ℕ). IsWriting old next c.write_strips.new.block [] (c.args.block.now ++ l)) text) c.write_strips.ensures.text

pub returns-clause-prefix : goal.returns-clause-prefix
returns-clause-prefix g c =
    let old = g.Si.Sink.received c.args.sink.now in
    let next = g.Si.Sink.received c.write_strips.new.sink in
    let copies = c.in-Ok.copies in
    let text = copied-lines (cell_options c.args.options.now) c.args.columns.now c.in-Ok-strips_of.strips.items c.deref.result.now copies.first copies.end c.args.first c.args.end
    c.deref.ensures.value c.in-Ok.ensures.first c.in-Ok.ensures.end c.in-Ok-strips_of.ensures.lines in
    subst (λ (l : List ℕ). AppendsPrefix old next (c.args.block.now ++ l)) text c.write_strips.ensures.prefix
