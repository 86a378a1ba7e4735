use Rattle.std.proofs.Common.{map, string_bytes, sym, subst}
use Rattle.pl_csv.specs.Run.{EndsAsDue, EndsAsMade}
use Rattle.pl_csv.specs.Views.{views}
use Rattle.pl_csv.proofs.RunLaws.{due-done, due-refused, made-done, made-refused}
use Rattle.pl_csv.proofs.StatusLaws.{refusal-not_zero}
use Rattle.pl_csv.proofs.run.run.Goals as goal

pub returns-in-Ok-clause-due : goal.returns-in-Ok-clause-due
returns-in-Ok-clause-due g c = λ input status told due.
    let words = map string_bytes c.args.words.now in
    let before = views (g.So.Source.left c.args.source.now) (g.So.Source.faults c.args.source.now) (g.Si.Sink.received c.args.out.now) (g.Si.Sink.faults c.args.out.now) (g.Si.Sink.wants c.args.out.now) in
    let now = views (g.So.Source.left c.do_work.new.source) (g.So.Source.faults c.do_work.new.source) (g.Si.Sink.received c.do_work.new.out) (g.Si.Sink.faults c.do_work.new.out) (g.Si.Sink.wants c.do_work.new.out) in
    due-done words before now input status c.in-Ok.ensures.done told due

pub returns-in-Ok-clause-made : goal.returns-in-Ok-clause-made
returns-in-Ok-clause-made g c = λ rows workers piece meaning.
    let words = map string_bytes c.args.words.now in
    let before = views (g.So.Source.left c.args.source.now) (g.So.Source.faults c.args.source.now) (g.Si.Sink.received c.args.out.now) (g.Si.Sink.faults c.args.out.now) (g.Si.Sink.wants c.args.out.now) in
    let now = views (g.So.Source.left c.do_work.new.source) (g.So.Source.faults c.do_work.new.source) (g.Si.Sink.received c.do_work.new.out) (g.Si.Sink.faults c.do_work.new.out) (g.Si.Sink.wants c.do_work.new.out) in
    made-done words before now rows workers piece c.in-Ok.ensures.done meaning

pub returns-in-Err-clause-due : goal.returns-in-Err-clause-due
returns-in-Err-clause-due g c = λ input status told due.
    let words = map string_bytes c.args.words.now in
    let before = views (g.So.Source.left c.args.source.now) (g.So.Source.faults c.args.source.now) (g.Si.Sink.received c.args.out.now) (g.Si.Sink.faults c.args.out.now) (g.Si.Sink.wants c.args.out.now) in
    let now = views (g.So.Source.left c.do_work.new.source) (g.So.Source.faults c.do_work.new.source) (g.Si.Sink.received c.do_work.new.out) (g.Si.Sink.faults c.do_work.new.out) (g.Si.Sink.wants c.do_work.new.out) in
    subst (λ s. EndsAsDue status s before now) (sym c.status.ensures) (due-refused words before now input status c.in-Err.refusal c.in-Err.ensures.refused told due)

pub returns-in-Err-clause-made : goal.returns-in-Err-clause-made
returns-in-Err-clause-made g c = λ rows workers piece meaning.
    let words = map string_bytes c.args.words.now in
    let before = views (g.So.Source.left c.args.source.now) (g.So.Source.faults c.args.source.now) (g.Si.Sink.received c.args.out.now) (g.Si.Sink.faults c.args.out.now) (g.Si.Sink.wants c.args.out.now) in
    let now = views (g.So.Source.left c.do_work.new.source) (g.So.Source.faults c.do_work.new.source) (g.Si.Sink.received c.do_work.new.out) (g.Si.Sink.faults c.do_work.new.out) (g.Si.Sink.wants c.do_work.new.out) in
    subst (λ s. EndsAsMade workers piece s before.out.faults now.out.faults) (sym c.status.ensures) (made-refused words before now rows workers piece c.in-Err.refusal c.in-Err.ensures.refused meaning)

pub returns-in-Err-clause-refused : goal.returns-in-Err-clause-refused
returns-in-Err-clause-refused g c = λ other. record { given = c.in-Err.refusal; is = c.status.ensures; holds = c.in-Err.ensures.refused; told = c.tell_refusal.ensures.told }

pub returns-in-Err-clause-done : goal.returns-in-Err-clause-done
returns-in-Err-clause-done g c = λ zero. absurd (refusal-not_zero c.in-Err.refusal c.status.result c.status.ensures zero)

pub returns-in-Err-clause-silent : goal.returns-in-Err-clause-silent
returns-in-Err-clause-silent g c = λ zero. absurd (refusal-not_zero c.in-Err.refusal c.status.result c.status.ensures zero)
