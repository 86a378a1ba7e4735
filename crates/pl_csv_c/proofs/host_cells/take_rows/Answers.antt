use Rattle.std.proofs.Common.{◌++◌, ◌∷◌, [], arith, sym, ◌∙◌, ap}
use Rattle.std.proofs.lemmas.List.FromFn.{map-range_with_len_more}
use Rattle.pl_csv_c.specs.HostColumns.{host_cell}
use Rattle.pl_csv_c.proofs.HostLaws.{whole-more, taken-true}
use Rattle.pl_csv_c.proofs.host_cells.take_rows.Goals as goal

pub loop-row-preserved : goal.loop-row-preserved
loop-row-preserved g c =
    let host = c.args.column.now in
    let row = c.loop-row.row in
    let inv = c.loop-row.invariant in
    record {
      takes = λ type t. c.take_row.ensures.takes type (inv.takes type t);
      cells_are = λ type t.
          (taken-true c.in-Ok-true.field-0 type host row (g.C.HostCells.cells c.loop-row.cells) (g.C.HostCells.cells c.take_row.new.cells) c.in-Ok-true.field-0-test (c.in-Ok-true.ensures.taken type (inv.takes type t))).1
          ∙ ap (λ l. l ++ host_cell type host row ∷ []) (inv.cells_are type t)
          ∙ sym (map-range_with_len_more (host_cell type host) 0 row row (omega arith));
      whole = λ type t.
          whole-more type host row (inv.whole type t)
          (taken-true c.in-Ok-true.field-0 type host row (g.C.HostCells.cells c.loop-row.cells) (g.C.HostCells.cells c.take_row.new.cells) c.in-Ok-true.field-0-test (c.in-Ok-true.ensures.taken type (inv.takes type t))).0;
    }
