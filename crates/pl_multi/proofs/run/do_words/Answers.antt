use Rattle.std.proofs.Common.{map, string_bytes}
use Rattle.pl_multi.specs.Words.{asked}
use Rattle.pl_multi.proofs.RunLaws.{due-job}
use Rattle.pl_multi.proofs.run.do_words.Goals as goal

pub returns-in-Ok-clause-due : goal.returns-in-Ok-clause-due
returns-in-Ok-clause-due g c = λ status due.
    c.do_job-done.ensures.due status (due-job (map string_bytes c.args.words.now) (g.O.Opener.holds c.args.opener.now) status (asked c.in-Ok.job) c.in-Ok.ensures.job due)
