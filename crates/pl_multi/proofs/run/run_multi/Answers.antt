use Rattle.std.proofs.Common.{subst, sym}
use Rattle.pl_multi.specs.Run.{EndsAsMultiDue}
use Rattle.pl_multi.proofs.RunLaws.{multi-not_zero}
use Rattle.pl_multi.proofs.run.run_multi.Goals as goal

pub returns-in-Err-clause-done : goal.returns-in-Err-clause-done
returns-in-Err-clause-done g c = λ zero. absurd (multi-not_zero c.in-Err.refusal c.status.result c.status.ensures zero)

pub returns-in-Err-clause-silent : goal.returns-in-Err-clause-silent
returns-in-Err-clause-silent g c = λ zero. absurd (multi-not_zero c.in-Err.refusal c.status.result c.status.ensures zero)

pub returns-in-Err-clause-due : goal.returns-in-Err-clause-due
returns-in-Err-clause-due g c = λ status due.
    subst (λ s. EndsAsMultiDue status s (g.O.Opener.faults c.args.opener.now) (g.O.Opener.faults c.do_words.new.opener) (g.Si.Sink.faults c.args.out.now) (g.Si.Sink.faults c.do_words.new.out))
    (sym c.status.ensures) (c.in-Err.ensures.due status due)
