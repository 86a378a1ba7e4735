use Rattle.std.proofs.Common.{◌≡◌, List, sym, ◌∙◌, ap, subst}
use Rattle.std.specs.Prelude.{Option, IfOk}
use Rattle.pl_frame.specs.Frame.{ColumnValue, IsFrame, height_of}
use Rattle.pl_options.specs.declared.row_index.RowIndex.{RowIndex}
use Rattle.pl_read.specs.Rows.{with_index}
use Rattle.pl_csv.proofs.convert.frame_of_none.Goals as goal

pub with_index-requires : goal.with_index-requires
with_index-requires c =
    let items = c.in-Ok.columns.columns.items in
    subst (λ (index : Option RowIndex). IsFrame (with_index index (height_of items) items)) (sym c.as_ref.ensures.value)
    (subst (λ (given : List ColumnValue). IsFrame (with_index c.args.read.now.row_index (height_of given) given)) (sym c.in-Ok.ensures.columns) c.requires.frame)

pub returns-in-Ok : goal.returns-in-Ok
returns-in-Ok c =
    let items = c.in-Ok.columns.columns.items in
    let same = ap (λ (index : Option RowIndex). with_index index (height_of items) items) c.as_ref.ensures.value ∙ ap (λ (given : List ColumnValue). with_index c.args.read.now.row_index (height_of given) given) c.in-Ok.ensures.columns in
    subst (λ (is : List ColumnValue). IfOk c.with_index.result (λ frame. frame ≡ is)) same c.with_index.ensures.frame
