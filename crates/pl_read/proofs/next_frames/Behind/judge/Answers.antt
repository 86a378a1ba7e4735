use Rattle.std.proofs.Common.{◌≡◌, ◌+◌, take, drop, ◌∙◌, ap, refl, inl, arith}
use Rattle.pl_read.specs.Batches.{rows_behind}
use Rattle.pl_read.specs.Options.{rules_of}
use Rattle.pl_read.specs.Rows.{columns_read}
use Rattle.pl_frame.specs.Frame.{height_of}
use Rattle.pl_read.proofs.NextLaws.{IsSound-read, found-fault, faulty-inside}
use Rattle.pl_read.proofs.NextFrameLaws.{IsPartAt-item, AreJudged-more, AreJudged-fault}
use Rattle.pl_read.proofs.next_frames.Behind.judge.Goals as goal

pub overflow_add-row : goal.overflow_add-row
overflow_add-row c =
    let b = c.args.self.now in
    let at = IsPartAt-item b c.args.parts.now c.loop-part.part-index c.part-item.result c.in-Some.read c.requires.read c.loop-part-test.true c.part-item.is c.in-Some.is in
    record { fits = omega (arith, c.requires.fits, c.loop-part.invariant.count_is, at.within) }

pub overflow_add-row-in-Fault : goal.overflow_add-row-in-Fault
overflow_add-row-in-Fault c =
    let b = c.args.self.now in
    let part = c.part-item.result in
    let at = IsPartAt-item b c.args.parts.now c.loop-part.part-index part c.in-Some.read c.requires.read c.loop-part-test.true c.part-item.is c.in-Some.is in
    let found = found-fault b.plan b.options.now b.schema.now b.rows part.text.now c.in-Some.read c.in-Fault.row c.in-Fault.column c.in-Fault.kind (c.requires.can part.text.now).plan_is at.range c.in-Fault.is in
    let inside = faulty-inside (rules_of b.options.now b.schema.now) (columns_read b.options.now b.schema.now) 0 (rows_behind b.options.now b.rows part.text.now) c.in-Fault.row (c.in-Fault.column, c.in-Fault.kind) found in
    record { fits = omega (arith, c.requires.fits, c.loop-part.invariant.count_is, at.within, inside) }

pub returns-in-Fault-clause-refused : goal.returns-in-Fault-clause-refused
returns-in-Fault-clause-refused c =
    let b = c.args.self.now in
    let part = c.part-item.result in
    let parts = c.args.parts.now in
    let i = c.loop-part.part-index in
    let at = IsPartAt-item b parts i part c.in-Some.read c.requires.read c.loop-part-test.true c.part-item.is c.in-Some.is in
    let found = found-fault b.plan b.options.now b.schema.now b.rows part.text.now c.in-Some.read c.in-Fault.row c.in-Fault.column c.in-Fault.kind (c.requires.can part.text.now).plan_is at.range c.in-Fault.is in
    inl (AreJudged-fault b parts (take i parts) (drop (i + 1) parts) part c.loop-part.count c.in-Fault.row c.in-Fault.column (b.rows + c.loop-part.count + c.in-Fault.row) c.in-Fault.kind c.loop-part.invariant at.stands found refl)

pub overflow_add-count : goal.overflow_add-count
overflow_add-count c =
    let b = c.args.self.now in
    let part = c.part-item.result in
    let at = IsPartAt-item b c.args.parts.now c.loop-part.part-index part c.in-Some.read c.requires.read c.loop-part-test.true c.part-item.is c.in-Some.is in
    let sound = IsSound-read b.plan b.options.now b.schema.now b.rows part.text.now c.in-Some.read (c.requires.can part.text.now) at.range c.in-Closed.is in
    let height : c.rows_of-count.result ≡ height_of c.in-Some.read.columns.items = c.rows_of-count.ensures ∙ ap height_of c.deref.ensures.value in
    record { fits = omega (arith, c.requires.fits, c.loop-part.invariant.count_is, at.within, sound.height, height) }

pub loop-part-preserved : goal.loop-part-preserved
loop-part-preserved c =
    let b = c.args.self.now in
    let part = c.part-item.result in
    let parts = c.args.parts.now in
    let i = c.loop-part.part-index in
    let at = IsPartAt-item b parts i part c.in-Some.read c.requires.read c.loop-part-test.true c.part-item.is c.in-Some.is in
    let sound = IsSound-read b.plan b.options.now b.schema.now b.rows part.text.now c.in-Some.read (c.requires.can part.text.now) at.range c.in-Closed.is in
    let height : c.rows_of-count.result ≡ height_of c.in-Some.read.columns.items = c.rows_of-count.ensures ∙ ap height_of c.deref.ensures.value in
    AreJudged-more b (take i parts) (take (i + 1) parts) part c.in-Some.read c.loop-part.count c.rows_of-count.result c.loop-part.invariant at.next sound height
