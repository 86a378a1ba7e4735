use Rattle.std.proofs.Common.{◌∙◌, arith}
use Rattle.pl_frame.proofs.AlikeLaws.{each_more}
use Rattle.pl_frame.proofs.FramePartLaws.{entries_all, entries_differ, entry_told}
use Rattle.pl_frame.proofs.frame_rows.have_same_schema.Goals as goal

pub returns-then-not-have_same_entry : goal.returns-then-not-have_same_entry
returns-then-not-have_same_entry c =
    entries_differ c.args.columns.now c.args.others.now c.loop-i.i (omega arith) (omega arith)
    (entry_told c.args.columns.now c.args.others.now c.loop-i.i _ _ c.have_same_entry.result (omega arith) (omega arith) c.index-columns-i.is c.index-others-i.is c.have_same_entry.ensures ∙ c.if-not-have_same_entry.true)

pub loop-i-preserved : goal.loop-i-preserved
loop-i-preserved c =
    each_more c.loop-i.i c.loop-i.invariant
    (entry_told c.args.columns.now c.args.others.now c.loop-i.i _ _ c.have_same_entry.result (omega arith) (omega arith) c.index-columns-i.is c.index-others-i.is c.have_same_entry.ensures ∙ c.if-not-have_same_entry.false)

pub returns : goal.returns
returns c = entries_all c.args.columns.now c.args.others.now (omega arith) (λ k l. c.loop-i.invariant k (omega arith))
