use Rattle.std.proofs.Common.{map, string_bytes, subst, sym}
use Rattle.pl_csv.specs.Views.{sink_view}
use Rattle.pl_seek.specs.Run.{opener_view, EndsAsSeekDue}
use Rattle.pl_seek.proofs.SeekRunLaws.{seek-not_zero, ends-written, ends-refused}
use Rattle.pl_seek.proofs.run.run_seek.Goals as goal

pub returns-in-Ok-clause-due : goal.returns-in-Ok-clause-due
returns-in-Ok-clause-due g c = λ status due.
    ends-written (map string_bytes c.args.words.now) (g.O.Opener.holds c.args.opener.now) (g.Si.Sink.received c.args.out.now) (g.Si.Sink.received c.do_words.new.out) status (g.O.Opener.faults c.args.opener.now)
    (g.O.Opener.faults c.do_words.new.opener) (g.Si.Sink.faults c.args.out.now) (g.Si.Sink.faults c.do_words.new.out) c.in-Ok.ensures.done due

pub returns-in-Err-clause-done : goal.returns-in-Err-clause-done
returns-in-Err-clause-done g c = λ zero. absurd (seek-not_zero c.in-Err.refusal c.status.result c.status.ensures zero)

pub returns-in-Err-clause-silent : goal.returns-in-Err-clause-silent
returns-in-Err-clause-silent g c = λ zero. absurd (seek-not_zero c.in-Err.refusal c.status.result c.status.ensures zero)

pub returns-in-Err-clause-due : goal.returns-in-Err-clause-due
returns-in-Err-clause-due g c = λ status due.
    subst (λ s. EndsAsSeekDue status s (g.O.Opener.faults c.args.opener.now) (g.O.Opener.faults c.do_words.new.opener) (g.Si.Sink.faults c.args.out.now) (g.Si.Sink.faults c.do_words.new.out))
    (sym c.status.ensures)
    (ends-refused (map string_bytes c.args.words.now) (opener_view (g.O.Opener.holds c.args.opener.now) (g.O.Opener.faults c.args.opener.now)) (g.O.Opener.faults c.do_words.new.opener)
    (sink_view (g.Si.Sink.received c.args.out.now) (g.Si.Sink.faults c.args.out.now) (g.Si.Sink.wants c.args.out.now))
    (sink_view (g.Si.Sink.received c.do_words.new.out) (g.Si.Sink.faults c.do_words.new.out) (g.Si.Sink.wants c.do_words.new.out)) c.in-Err.refusal status c.in-Err.ensures.refused due)
