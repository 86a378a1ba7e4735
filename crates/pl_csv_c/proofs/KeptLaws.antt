-- Laws of frames that are kept, column by column.
use Rattle.std.proofs.Common.{List, [], ◌∷◌, ◌++◌}
use Rattle.pl_csv_c.specs.Views.{IsKeptOf, IsViewOf, AreKept}
use Rattle.pl_csv_c.specs.declared.kept.KeptColumn.{KeptColumn}
use Rattle.pl_csv_c.specs.declared.views.ColumnView.{ColumnView}
use Rattle.pl_frame.specs.Frame.{ColumnValue}

-- one column more
pub AreKept-more : (columns : List ColumnValue) (kept : List KeptColumn) (views : List ColumnView) (column : ColumnValue) (one : KeptColumn) (view : ColumnView) →
    AreKept columns kept views → IsKeptOf column one → IsViewOf column one view → AreKept (columns ++ column ∷ []) (kept ++ one ∷ []) (views ++ view ∷ [])
AreKept-more [] [] [] column one view all k v = (k, v, tt)
AreKept-more [] [] (w ∷ ws) column one view all k v = absurd all
AreKept-more [] (o ∷ os) ws column one view all k v = absurd all
AreKept-more (c ∷ cs) [] ws column one view all k v = absurd all
AreKept-more (c ∷ cs) (o ∷ os) [] column one view all k v = absurd all
AreKept-more (c ∷ cs) (o ∷ os) (w ∷ ws) column one view all k v = (all.0, all.1, AreKept-more cs os ws column one view all.2 k v)
