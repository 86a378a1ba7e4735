use Rattle.std.proofs.Common.{◌∙◌, ◌++◌, ◌∷◌, [], ap, sym, subst}
use Rattle.std.proofs.lemmas.Result.{on_ok_weaker}
use Rattle.pl_frame.specs.Columns.{text_in}
use Rattle.pl_frame.specs.GatheredCells.{SuitsType, cells_so_far, truth_in, whole_in}
use Rattle.pl_frame.specs.Frame.{cell_at}
use Rattle.pl_frame.proofs.GatheredLaws.{cell_fits, held_more, truth_more, number_more, number_from_narrow, narrow_fits, string_more, category_more, places_more, codes_more, null_more}
use Rattle.pl_frame.proofs.gathered.Gathered.push.Goals as goal

pub push_narrow-requires : goal.push_narrow-requires
push_narrow-requires c =
    let type = c.args.column.now.dtype in
    let suits = subst (SuitsType type) c.in-Narrow.is c.requires.suits in
    let fits = cell_fits type c.args.column.now.values c.args.row c.dtype-dtype.ensures.held c.requires.row in
    narrow_fits type c.whole_in.result (cell_at c.args.column.now c.args.row) suits.way fits (c.whole_in.ensures ∙ ap whole_in c.get-in-Narrow.ensures)

pub returns-in-Boolean-clause-cells : goal.returns-in-Boolean-clause-cells
returns-in-Boolean-clause-cells c =
    let type = c.args.column.now.dtype in
    let suits = subst (SuitsType type) c.in-Boolean.is c.requires.suits in
    let fits = cell_fits type c.args.column.now.values c.args.row c.dtype-dtype.ensures.held c.requires.row in
    on_ok_weaker c.push_option.result
    (λ e. truth_more type _ _ _ (cell_at c.args.column.now c.args.row) suits.way fits (c.truth_in.ensures ∙ ap truth_in c.get.ensures) e
    ∙ ap (λ b. cells_so_far type b ++ cell_at c.args.column.now c.args.row ∷ []) (sym c.in-Boolean.is))
    c.push_option.ensures

pub returns-in-Narrow-clause-suits : goal.returns-in-Narrow-clause-suits
returns-in-Narrow-clause-suits c =
    let type = c.args.column.now.dtype in
    let suits = subst (SuitsType type) c.in-Narrow.is c.requires.suits in
    let fits = cell_fits type c.args.column.now.values c.args.row c.dtype-dtype.ensures.held c.requires.row in
    on_ok_weaker c.push_narrow.result
    (λ e. record {
      way = suits.way;
      held = held_more type _ _ (cell_at c.args.column.now c.args.row) suits.held
          (number_more type _ _ _ (cell_at c.args.column.now c.args.row) (number_from_narrow type suits.way) fits (c.whole_in.ensures ∙ ap whole_in c.get-in-Narrow.ensures) e) fits;
    })
    c.push_narrow.ensures

pub returns-in-Narrow-clause-cells : goal.returns-in-Narrow-clause-cells
returns-in-Narrow-clause-cells c =
    let type = c.args.column.now.dtype in
    let suits = subst (SuitsType type) c.in-Narrow.is c.requires.suits in
    let fits = cell_fits type c.args.column.now.values c.args.row c.dtype-dtype.ensures.held c.requires.row in
    on_ok_weaker c.push_narrow.result
    (λ e. number_more type _ _ _ (cell_at c.args.column.now c.args.row) (number_from_narrow type suits.way) fits (c.whole_in.ensures ∙ ap whole_in c.get-in-Narrow.ensures) e
    ∙ ap (λ b. cells_so_far type b ++ cell_at c.args.column.now c.args.row ∷ []) (sym c.in-Narrow.is))
    c.push_narrow.ensures

pub returns-in-Wide-clause-suits : goal.returns-in-Wide-clause-suits
returns-in-Wide-clause-suits c =
    let type = c.args.column.now.dtype in
    let suits = subst (SuitsType type) c.in-Wide.is c.requires.suits in
    let fits = cell_fits type c.args.column.now.values c.args.row c.dtype-dtype.ensures.held c.requires.row in
    on_ok_weaker c.push_option-in-Wide.result
    (λ e. record {
      way = suits.way;
      held = held_more type _ _ (cell_at c.args.column.now c.args.row) suits.held
          (number_more type _ _ _ (cell_at c.args.column.now c.args.row) suits.way fits (c.whole_in-in-Wide.ensures ∙ ap whole_in c.get-in-Wide.ensures) e) fits;
    })
    c.push_option-in-Wide.ensures

pub returns-in-Wide-clause-cells : goal.returns-in-Wide-clause-cells
returns-in-Wide-clause-cells c =
    let type = c.args.column.now.dtype in
    let suits = subst (SuitsType type) c.in-Wide.is c.requires.suits in
    let fits = cell_fits type c.args.column.now.values c.args.row c.dtype-dtype.ensures.held c.requires.row in
    on_ok_weaker c.push_option-in-Wide.result
    (λ e. number_more type _ _ _ (cell_at c.args.column.now c.args.row) suits.way fits (c.whole_in-in-Wide.ensures ∙ ap whole_in c.get-in-Wide.ensures) e
    ∙ ap (λ b. cells_so_far type b ++ cell_at c.args.column.now c.args.row ∷ []) (sym c.in-Wide.is))
    c.push_option-in-Wide.ensures

pub returns-in-String-clause-suits : goal.returns-in-String-clause-suits
returns-in-String-clause-suits c =
    let type = c.args.column.now.dtype in
    let suits = subst (SuitsType type) c.in-String.is c.requires.suits in
    let fits = cell_fits type c.args.column.now.values c.args.row c.dtype-dtype.ensures.held c.requires.row in
    on_ok_weaker c.push_text.result
    (λ e. record {
      way = suits.way;
      held = held_more type _ _ (cell_at c.args.column.now c.args.row) suits.held
          (string_more type _ _ (cell_at c.args.column.now c.args.row) suits.way fits (e ∙ ap (λ v. c.in-String.texts ++ text_in v ∷ []) c.get-in-String.ensures)) fits;
    })
    c.push_text.ensures

pub returns-in-String-clause-cells : goal.returns-in-String-clause-cells
returns-in-String-clause-cells c =
    let type = c.args.column.now.dtype in
    let suits = subst (SuitsType type) c.in-String.is c.requires.suits in
    let fits = cell_fits type c.args.column.now.values c.args.row c.dtype-dtype.ensures.held c.requires.row in
    on_ok_weaker c.push_text.result
    (λ e. string_more type _ _ (cell_at c.args.column.now c.args.row) suits.way fits (e ∙ ap (λ v. c.in-String.texts ++ text_in v ∷ []) c.get-in-String.ensures)
    ∙ ap (λ b. cells_so_far type b ++ cell_at c.args.column.now c.args.row ∷ []) (sym c.in-String.is))
    c.push_text.ensures

pub returns-in-Categories-clause-suits : goal.returns-in-Categories-clause-suits
returns-in-Categories-clause-suits c =
    let type = c.args.column.now.dtype in
    let suits = subst (SuitsType type) c.in-Categories.is c.requires.suits in
    let fits = cell_fits type c.args.column.now.values c.args.row c.dtype-dtype.ensures.held c.requires.row in
    on_ok_weaker c.push_code.result
    (λ e. record {
      way = suits.way;
      held = held_more type _ _ (cell_at c.args.column.now c.args.row) suits.held
          (category_more type _ _ (cell_at c.args.column.now c.args.row) suits.way fits (e ∙ ap (λ v. c.in-Categories.texts ++ text_in v ∷ []) c.get-in-Categories.ensures)) fits;
    })
    c.push_code.ensures

pub returns-in-Categories-clause-cells : goal.returns-in-Categories-clause-cells
returns-in-Categories-clause-cells c =
    let type = c.args.column.now.dtype in
    let suits = subst (SuitsType type) c.in-Categories.is c.requires.suits in
    let fits = cell_fits type c.args.column.now.values c.args.row c.dtype-dtype.ensures.held c.requires.row in
    on_ok_weaker c.push_code.result
    (λ e. category_more type _ _ (cell_at c.args.column.now c.args.row) suits.way fits (e ∙ ap (λ v. c.in-Categories.texts ++ text_in v ∷ []) c.get-in-Categories.ensures)
    ∙ ap (λ b. cells_so_far type b ++ cell_at c.args.column.now c.args.row ∷ []) (sym c.in-Categories.is))
    c.push_code.ensures

pub returns-in-Enum-clause-suits : goal.returns-in-Enum-clause-suits
returns-in-Enum-clause-suits c =
    let type = c.args.column.now.dtype in
    let suits = subst (SuitsType type) c.in-Enum.is c.requires.suits in
    let fits = cell_fits type c.args.column.now.values c.args.row c.dtype-dtype.ensures.held c.requires.row in
    on_ok_weaker c.push_option-in-Enum.result
    (λ e. record {
      way = (suits.way.0, codes_more c.args.column.now c.args.row suits.way.0 _ _ _ fits c.code.ensures.code e suits.way.1);
      held = held_more type _ _ (cell_at c.args.column.now c.args.row) suits.held
          (places_more c.args.column.now c.args.row suits.way.0 _ _ _ fits c.code.ensures.code e) fits;
    })
    c.push_option-in-Enum.ensures

pub returns-in-Enum-clause-cells : goal.returns-in-Enum-clause-cells
returns-in-Enum-clause-cells c =
    let type = c.args.column.now.dtype in
    let suits = subst (SuitsType type) c.in-Enum.is c.requires.suits in
    let fits = cell_fits type c.args.column.now.values c.args.row c.dtype-dtype.ensures.held c.requires.row in
    on_ok_weaker c.push_option-in-Enum.result
    (λ e. places_more c.args.column.now c.args.row suits.way.0 _ _ _ fits c.code.ensures.code e
    ∙ ap (λ b. cells_so_far type b ++ cell_at c.args.column.now c.args.row ∷ []) (sym c.in-Enum.is))
    c.push_option-in-Enum.ensures

pub returns-in-Null-clause-cells : goal.returns-in-Null-clause-cells
returns-in-Null-clause-cells c =
    let type = c.args.column.now.dtype in
    let suits = subst (SuitsType type) c.in-Null.is c.requires.suits in
    let fits = cell_fits type c.args.column.now.values c.args.row c.dtype-dtype.ensures.held c.requires.row in
    on_ok_weaker c.push_null.result
    (λ e. null_more type _ _ (cell_at c.args.column.now c.args.row) suits.way fits e
    ∙ ap (λ b. cells_so_far type b ++ cell_at c.args.column.now c.args.row ∷ []) (sym c.in-Null.is))
    c.push_null.ensures
