use Rattle.std.proofs.Common.{◌≡◌, ◌∷◌, [], ◌∙◌, ap, replicate, Some}
use Rattle.pl_frame.specs.Columns.{text_cells}
use Rattle.pl_frame.specs.Frame.{ColumnValue, Letters}
use Rattle.pl_frame.specs.declared.data_type.DataType.TheVariants as dtype
use Rattle.pl_multi.proofs.RowsLaws.{cells-repeated}
use Rattle.pl_multi.proofs.values.value_column.Goals as goal

pub returns : goal.returns
returns c =
    let texts : text_cells c.in_ok-texts.texts ≡ replicate c.args.rows (Some (Letters c.args.value.now)) =
    ap text_cells (c.in_ok-texts.ensures ∙ ap (λ t. replicate c.args.rows (Some t)) c.as_str.ensures) ∙ cells-repeated c.args.rows c.args.value.now in
    ap (λ (column : ColumnValue). column ∷ []) (c.from_string.ensures.column ∙ (λ i. record { name = c.in-Ok.ensures.equal i; dtype = dtype.String; values = texts i }))
