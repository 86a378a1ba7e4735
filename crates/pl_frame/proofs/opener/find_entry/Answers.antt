use Rattle.std.proofs.Common.{arith, sym, ◌∙◌}
use Rattle.pl_frame.proofs.OpeningLaws.{held-here, held-later}
use Rattle.pl_frame.proofs.opener.find_entry.Goals as goal

pub returns-then-eq : goal.returns-then-eq
returns-then-eq c = sym c.loop-entry.invariant ∙ held-here c.args.entries.now c.args.path.now c.loop-entry.entry-index _ (omega arith) (sym c.eq.ensures ∙ c.if-eq.true)

pub loop-entry-preserved : goal.loop-entry-preserved
loop-entry-preserved c = sym (held-later c.args.entries.now c.args.path.now c.loop-entry.entry-index _ (omega arith) (sym c.eq.ensures ∙ c.if-eq.false)) ∙ c.loop-entry.invariant
