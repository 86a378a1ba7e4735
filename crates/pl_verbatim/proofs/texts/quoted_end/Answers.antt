use Rattle.std.proofs.Common.{sym, ◌∙◌}
use Rattle.pl_verbatim.proofs.QuotedLaws.{quoted-written}
use Rattle.pl_verbatim.proofs.texts.quoted_end.Goals as goal

pub returns-then-is_quoting_needed-clause-written : goal.returns-then-is_quoting_needed-clause-written
returns-then-is_quoting_needed-clause-written c =
    quoted-written c.args.separator c.args.quote c.args.text.now c.args.at c.in_ok-end.end c.in_ok-end.ensures.after c.in_ok-end.ensures.within c.in_ok-end.ensures.text
    (sym c.is_quoting_needed.ensures ∙ c.if-is_quoting_needed.true)
