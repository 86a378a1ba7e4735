use Rattle.std.proofs.Common.{◌<◌, ◌+◌, ◌++◌, length, [], get_or, sym, ◌∙◌, ap, subst, arith}
use Rattle.pl_write.specs.Options.{cell_options}
use Rattle.pl_write.specs.Strips.{HasRows}
use Rattle.pl_write.proofs.LineLaws.{line-more, cell-behind}
use Rattle.pl_write.proofs.lines.put_together.Goals as goal

pub overflow_sub-row : goal.overflow_sub-row
overflow_sub-row c =
    let o = cell_options c.args.options.now in
    let first = c.args.first in
    let end = first + length c.args.lines.now in
    let strip = c.index-strips-place.result in
    let has : HasRows o first end strip = subst (HasRows o first end) (sym c.index-strips-place.is) (c.requires c.loop-place.place strip c.loop-place-test.true) in
    omega (arith, has.begins)

pub append_column-requires-clause-rows : goal.append_column-requires-clause-rows
append_column-requires-clause-rows c =
    let o = cell_options c.args.options.now in
    let first = c.args.first in
    let end = first + length c.args.lines.now in
    let strip = c.index-strips-place.result in
    let has : HasRows o first end strip = subst (HasRows o first end) (sym c.index-strips-place.is) (c.requires c.loop-place.place strip c.loop-place-test.true) in
    omega (arith, has.begins, has.ends)

pub append_column-requires-clause-source : goal.append_column-requires-clause-source
append_column-requires-clause-source c =
    let o = cell_options c.args.options.now in
    let first = c.args.first in
    let end = first + length c.args.lines.now in
    let strip = c.index-strips-place.result in
    let has : HasRows o first end strip = subst (HasRows o first end) (sym c.index-strips-place.is) (c.requires c.loop-place.place strip c.loop-place-test.true) in
    has.source

pub loop-place-preserved : goal.loop-place-preserved
loop-place-preserved c = λ k h.
    let o = cell_options c.args.options.now in
    let strips = c.args.strips.now in
    let first = c.args.first in
    let place = c.loop-place.place in
    let strip = c.index-strips-place.result in
    let inside : k < length c.loop-place.lines = omega (arith, c.append_column.auto.lines) in
    let has : HasRows o first (first + length c.args.lines.now) strip =
    subst (HasRows o first (first + length c.args.lines.now)) (sym c.index-strips-place.is) (c.requires place strip c.loop-place-test.true) in
    line-more o strips place strip (first + k) (get_or c.loop-place.lines k []) (get_or c.append_column.new.lines k []) c.loop-place-test.true c.index-strips-place.is
    (c.loop-place.invariant k inside) (c.in_ok-append_column.ensures k h ∙ ap (λ l. get_or c.loop-place.lines k [] ++ l) (cell-behind o strip place first k has.begins))
