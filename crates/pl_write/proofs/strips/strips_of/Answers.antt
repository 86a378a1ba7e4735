use Rattle.std.proofs.Common.{◌≡◌, List, ◌≤◌, length, map, take, get_or, sym, ap, subst, ◌∙◌, arith}
use Rattle.std.specs.Prelude.{All, Option}
use Rattle.std.proofs.lemmas.List.{take_all}
use Rattle.std.proofs.lemmas.List.Elements.{All-push}
use Rattle.pl_frame.specs.Frame.{ColumnValue, cell_at}
use Rattle.pl_text.specs.FrameText.{line, written_cell}
use Rattle.pl_write.specs.Options.{cell_options}
use Rattle.pl_write.specs.Strips.{IsCopy, HasRows, cells_in_strips}
use Rattle.pl_write.specs.declared.strips.Strip.{Strip}
use Rattle.pl_write.proofs.StripLaws.{AreCopies-length, AreCopies-at, HaveRows-at, strip-rows, strip-cell, cells-more}
use Rattle.pl_write.proofs.strips.strips_of.Goals as goal

pub index-requires : goal.index-requires
index-requires c =
    let copies = c.args.copies.now in
    omega (arith, AreCopies-length copies.first copies.end c.args.columns.now copies.columns.items c.requires.copies, c.loop-place-test.true, copies.columns.ok)

pub loop-place-preserved : goal.loop-place-preserved
loop-place-preserved c =
    let o = cell_options c.args.options.now in
    let copies = c.args.copies.now in
    let columns = c.args.columns.now in
    let i = c.loop-place.place in
    let column = c.index-columns-place.result in
    let copy = c.index.result.now in
    let strip = c.strip_of.result in
    let strips = c.loop-place.strips.items in
    let inside = c.loop-place-test.true in
    let end : copies.end ≤ length (get_or columns i column).values = HaveRows-at copies.end columns i column c.requires.rows inside in
    let of_column : IsCopy copies.first copies.end column copy =
    subst (λ (x : ColumnValue). IsCopy copies.first copies.end x copy) (sym c.index-columns-place.is)
    (subst (λ (x : Option ColumnValue). IsCopy copies.first copies.end (get_or columns i column) x) (sym c.index.ensures)
    (AreCopies-at copies.first copies.end columns copies.columns.items i column copy c.requires.copies inside)) in
    let has : HasRows o copies.first copies.end strip =
    strip-rows o copies.first copies.end column copy strip of_column c.strip_of.ensures.strip c.strip_of.ensures.source
    (subst (λ (x : ColumnValue). copies.end ≤ length x.values) (sym c.index-columns-place.is) end) in
    record {
      rows = subst (All (HasRows o copies.first copies.end)) (sym c.in_ok-push.ensures.items) (All-push (HasRows o copies.first copies.end) strips strip c.loop-place.invariant.rows has);
      cells = λ row begins ends.
          ap (λ (l : List Strip). cells_in_strips o l row) c.in_ok-push.ensures.items
          ∙ cells-more o columns strips i column strip row inside (c.loop-place.invariant.cells row begins ends)
          (strip-cell o copies.first copies.end column copy strip of_column c.strip_of.ensures.strip row begins ends
          ∙ ap (λ (x : ColumnValue). written_cell o x.dtype (cell_at x row)) c.index-columns-place.is);
    }

pub returns-clause-lines : goal.returns-clause-lines
returns-clause-lines c = λ row begins ends.
    let o = cell_options c.args.options.now in
    let columns = c.args.columns.now in
    let all : take c.loop-place.place columns ≡ columns = take_all c.loop-place.place columns (omega arith) in
    ap (line o)
    (c.loop-place.invariant.cells row begins ends
    ∙ ap (map (λ column. written_cell o column.dtype (cell_at column row))) all)
