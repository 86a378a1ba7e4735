use Rattle.std.proofs.Common.{◌≡◌, ◌≤◌, ◌+◌, [], ◌∷◌, ◌++◌, length, take, sym, ap, subst, ◌∙◌}
use Rattle.pl_frame.specs.Frame.{ColumnValue}
use Rattle.std.proofs.lemmas.List.{take_more}
use Rattle.pl_write.proofs.StripLaws.{AreCopies-push, HaveRows-at}
use Rattle.pl_write.proofs.copies.copies_of.Goals as goal

pub copy_of-requires-clause-end : goal.copy_of-requires-clause-end
copy_of-requires-clause-end c =
    let end = c.args.end in
    let column = c.column-item.result in
    subst (λ (x : ColumnValue). end ≤ length x.values) (sym c.column-item.is)
    (HaveRows-at end c.args.columns.now c.loop-column.column-index column c.requires.end c.loop-column-test.true)

pub loop-column-preserved : goal.loop-column-preserved
loop-column-preserved c =
    let columns = c.args.columns.now in
    let i = c.loop-column.column-index in
    let column = c.column-item.result in
    let copy = c.in_ok-copy_of.field-0 in
    let more : take (i + 1) columns ≡ take i columns ++ column ∷ [] = take_more columns i column c.loop-column-test.true ∙ ap (λ x. take i columns ++ x ∷ []) (sym c.column-item.is) in
    rw (c.in_ok-push.ensures.items, more)
    (AreCopies-push c.args.first c.args.end (take i columns) c.loop-column.copies.items column copy c.loop-column.invariant c.in_ok-copy_of.ensures)
