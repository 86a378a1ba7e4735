use Rattle.std.proofs.Common.{rules, subst, sym}
use Rattle.std.specs.Prelude.{Ok, Err}
use Rattle.pl_csv.specs.Transcoding.{HasAsciiQuote}
use Rattle.pl_csv.specs.Views.{sink_view}
use Rattle.pl_multi.specs.Printing.{joined_text}
use Rattle.pl_multi.specs.Run.{EndsAsMultiDue}
use Rattle.pl_multi.specs.Telling.{multi_status}
use Rattle.pl_multi.specs.Words.{asked}
use Rattle.pl_multi.proofs.RunLaws.{scan-ends, zero-due, ends-written, ends-refused, written-is, unwritten-is}
use Rattle.pl_multi.proofs.run.do_job.Goals as goal

pub returns-in-Ok-clause-done : goal.returns-in-Ok-clause-done
returns-in-Ok-clause-done g c =
    let job = asked c.args.job.now in
    let small : HasAsciiQuote c.args.job.now.write = search rules in
    written-is job (g.O.Opener.holds c.args.opener.now) c.in-Ok.joined small c.in-Ok.ensures.joined _ _ c.write_read.result c.write_read.ensures.text

pub returns-in-Ok-clause-refused : goal.returns-in-Ok-clause-refused
returns-in-Ok-clause-refused g c =
    let job = asked c.args.job.now in
    let small : HasAsciiQuote c.args.job.now.write = search rules in
    unwritten-is job (g.O.Opener.holds c.args.opener.now) c.in-Ok.joined small c.in-Ok.ensures.joined (g.O.Opener.faults c.args.opener.now) (g.O.Opener.faults c.read_parts.new.opener) _ _ c.write_read.result c.write_read.ensures.refused

pub returns-in-Ok-clause-due : goal.returns-in-Ok-clause-due
returns-in-Ok-clause-due g c = λ status due.
    let job = asked c.args.job.now in
    let holds = g.O.Opener.holds c.args.opener.now in
    let before = g.O.Opener.faults c.args.opener.now in
    let now = g.O.Opener.faults c.read_parts.new.opener in
    let out = sink_view (g.Si.Sink.received c.args.out.now) (g.Si.Sink.faults c.args.out.now) (g.Si.Sink.wants c.args.out.now) in
    let out_now = sink_view (g.Si.Sink.received c.write_read.new.out) (g.Si.Sink.faults c.write_read.new.out) (g.Si.Sink.wants c.write_read.new.out) in
    let small : HasAsciiQuote c.args.job.now.write = search rules in
    let is = c.in-Ok.ensures.joined in
    ends-written (joined_text c.args.job.now.write c.in-Ok.joined) out out_now c.write_read.result status before now c.write_read.ensures.refused
    (zero-due is.frame status before now (scan-ends job holds (Ok is.frame) before now status is.is tt small due))

pub returns-in-Err-clause-due : goal.returns-in-Err-clause-due
returns-in-Err-clause-due g c = λ status due.
    let job = asked c.args.job.now in
    let holds = g.O.Opener.holds c.args.opener.now in
    let before = g.O.Opener.faults c.args.opener.now in
    let now = g.O.Opener.faults c.read_parts.new.opener in
    let out = g.Si.Sink.faults c.args.out.now in
    let small : HasAsciiQuote c.args.job.now.write = search rules in
    subst (λ r. EndsAsMultiDue status (multi_status r) before now out out) (sym c.refusal_of.ensures)
    (ends-refused c.in-Err.cause status before now out out (scan-ends job holds (Err c.in-Err.cause) before now status tt c.in-Err.ensures.refused small due))
