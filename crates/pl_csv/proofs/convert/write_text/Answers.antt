use Rattle.std.proofs.Common.{ℕ, List, subst}
use Rattle.std.proofs.lemmas.Result.{on_ok_weaker}
use Rattle.std.specs.Io.KnownBytes.{Appends}
use Rattle.pl_write.specs.Writing.{AppendsPrefix}
use Rattle.pl_csv.proofs.NumberingLaws.{text-plain, text-numbered}
use Rattle.pl_csv.proofs.convert.write_text.Goals as goal

pub returns-in-Some-clause-text : goal.returns-in-Some-clause-text
returns-in-Some-clause-text g c = λ frame has. c.write_unnumbered.ensures.text frame (text-numbered c.args.write.now c.in-Some.offset c.args.printed.now frame c.in-Some.is has)

pub returns-in-Some-clause-prefix : goal.returns-in-Some-clause-prefix
returns-in-Some-clause-prefix g c = λ frame has. c.write_unnumbered.ensures.prefix frame (text-numbered c.args.write.now c.in-Some.offset c.args.printed.now frame c.in-Some.is has)

pub returns-in-None-clause-text : goal.returns-in-None-clause-text
returns-in-None-clause-text g c = λ frame has.
    let is = text-plain c.args.write.now c.args.printed.now frame c.columns-columns.result.now c.deref.result.now c.in-None.is c.deref.ensures.value c.columns-columns.ensures.columns has in
    on_ok_weaker c.write_behind.result (subst (λ (l : List ℕ). Appends (g.S.Sink.received c.args.sink.now) (g.S.Sink.received c.write_behind.new.sink) l) is) c.write_behind.ensures.text

pub returns-in-None-clause-prefix : goal.returns-in-None-clause-prefix
returns-in-None-clause-prefix g c = λ frame has.
    let is = text-plain c.args.write.now c.args.printed.now frame c.columns-columns.result.now c.deref.result.now c.in-None.is c.deref.ensures.value c.columns-columns.ensures.columns has in
    subst (λ (l : List ℕ). AppendsPrefix (g.S.Sink.received c.args.sink.now) (g.S.Sink.received c.write_behind.new.sink) l) is c.write_behind.ensures.prefix
