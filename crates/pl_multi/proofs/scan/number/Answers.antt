use Rattle.std.proofs.Common.{◌≡◌, ◌∙◌, ◌-◌, ap, sym, subst, arith}
use Rattle.pl_frame.specs.Frame.{height_of}
use Rattle.std.specs.Option.{option_copied}
use Rattle.pl_multi.specs.Joining.{HasFreeName}
use Rattle.pl_multi.proofs.RowsLaws.{frame-indexed, free-sliced, rows-height}
use Rattle.pl_multi.proofs.scan.number.Goals as goal
use Rattle.pl_multi.proofs.scan.number.Goals.{then-rows_of-eq0, else-rows_of-eq0}

pub with_index_behind-requires-clause-fits : goal.with_index_behind-requires-clause-fits
with_index_behind-requires-clause-fits c =
    let rows : height_of c.in_ok-rows.rows.items ≡ height_of c.args.columns.items - c.args.start = ap height_of c.in_ok-rows.ensures.rows ∙ rows-height c.args.start c.args.columns.items in
    let counted : c.rows_of.result ≡ height_of c.in_ok-rows.rows.items = c.rows_of.ensures ∙ ap height_of c.deref-2.ensures.value in
    let all : c.rows_of-all.result ≡ height_of c.args.columns.items = c.rows_of-all.ensures ∙ ap height_of c.deref.ensures.value in
    let few = c.rows_of.type_inv in
    let most = c.rows_of-all.type_inv in
    elim c.if-rows_of-eq0.branch [
      | then-rows_of-eq0 w ↦ let is = w.before-is in omega (arith, is, counted, few)
      | else-rows_of-eq0 w ↦ let is = w.before-is in let some = w.if-rows_of-eq0 in omega (arith, is, some, rows, counted, all, most)
    ]

pub with_index_behind-requires-clause-frame : goal.with_index_behind-requires-clause-frame
with_index_behind-requires-clause-frame c =
    let index = option_copied c.args.index in
    let free = subst (HasFreeName index) (sym c.in_ok-rows.ensures.rows) (free-sliced index c.args.start c.args.columns.items c.requires.free) in
    frame-indexed index c.in_ok-rows.rows.items c.if-rows_of-eq0.before free c.in_ok-rows.ensures.frame
