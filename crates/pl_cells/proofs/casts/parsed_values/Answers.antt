use Rattle.std.proofs.Common.{map, [], ◌∷◌, sym, ◌∙◌, ap, subst, arith}
use Rattle.std.specs.Option.{option_map}
use Rattle.std.proofs.lemmas.List.{map-append}
use Rattle.pl_frame.specs.Columns.{HoldsType}
use Rattle.pl_frame.proofs.CastLaws.{row_more}
use Rattle.pl_cells.specs.Casts.{read_cell}
use Rattle.pl_cells.proofs.CastLaws.{fits_kept}
use Rattle.pl_cells.proofs.EnumLaws.{holds_push}
use Rattle.pl_cells.proofs.casts.parsed_values.Goals as goal

pub loop-row-preserved : goal.loop-row-preserved
loop-row-preserved g c =
    let scalar = g.K.ValueType.scalar in
    let type = g.K.ValueType.dtype c.args.kind.now in
    let pushed = ap (map (option_map scalar)) c.in_ok-push_option.ensures ∙ map-append (option_map scalar) c.loop-row.values (c.parsed_value.result ∷ []) in
    record {
      values =
          row_more (read_cell type) c.args.column.now.values (map (option_map scalar) c.loop-row.values) _ c.loop-row.row _ (option_map scalar c.parsed_value.result)
          (let t = c.loop-row-test.true in let e = c.len-row-end.ensures in omega (arith, t, e)) c.loop-row.invariant.values c.get.ensures c.parsed_value.ensures.value pushed;
      held =
          subst (HoldsType type) (sym pushed)
          (holds_push type (map (option_map scalar) c.loop-row.values) (option_map scalar c.parsed_value.result) c.loop-row.invariant.held (fits_kept type scalar c.parsed_value.result c.parsed_value.ensures.held));
    }
