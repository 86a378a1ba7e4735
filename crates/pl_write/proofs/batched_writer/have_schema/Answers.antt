use Rattle.std.proofs.Common.{◌∙◌, arith}
use Rattle.pl_frame.proofs.AlikeLaws.{each_more}
use Rattle.pl_write.proofs.BatchLaws.{entries_all, entries_differ, entry_told}
use Rattle.pl_write.proofs.batched_writer.have_schema.Goals as goal

pub returns-then-not-is_entry : goal.returns-then-not-is_entry
returns-then-not-is_entry c =
    let columns = c.args.columns.now in
    let schema = c.args.schema.now in
    let i = c.loop-place.place in
    entries_differ columns schema i (omega arith) (omega arith)
    (entry_told columns schema i c.index-columns-place.result c.is_entry.result (omega arith) (omega arith) c.index-columns-place.is c.is_entry.ensures ∙ c.if-not-is_entry.true)

pub loop-place-preserved : goal.loop-place-preserved
loop-place-preserved c =
    let columns = c.args.columns.now in
    let schema = c.args.schema.now in
    let i = c.loop-place.place in
    each_more i c.loop-place.invariant
    (entry_told columns schema i c.index-columns-place.result c.is_entry.result (omega arith) (omega arith) c.index-columns-place.is c.is_entry.ensures ∙ c.if-not-is_entry.false)

pub returns : goal.returns
returns c = entries_all c.args.columns.now c.args.schema.now (omega arith) (λ k l. c.loop-place.invariant k (omega arith))
