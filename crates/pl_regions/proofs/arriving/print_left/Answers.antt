use Rattle.std.proofs.Common.{◌≡◌, ℕ, Vec, Global, sym, ◌∙◌, ap, subst}
use Rattle.pl_write.specs.Options.{cell_options}
use Rattle.pl_regions.specs.Limits.{without_limit}
use Rattle.pl_regions.specs.Printing.{IsLeftBehind, IsPrinted}
use Rattle.pl_regions.proofs.ArrivingLaws.{left-of-front}
use Rattle.pl_regions.proofs.LimitLaws.{if_ok}
use Rattle.pl_regions.proofs.arriving.print_left.Goals as goal

pub print_rows_left-requires-clause-left : goal.print_rows_left-requires-clause-left
print_rows_left-requires-clause-left g c κs within =
    let records = c.requires.left.0 in
    let is = c.requires.left.2 in
    let same : c.as_slice-left.result.now ≡ c.args.arrived.left.items = c.as_slice-left.ensures.value ∙ ap (λ (v : Vec ℕ Global). v.items) (c.value.ensures ∙ c.in-Ok.ensures.0.1) in (
      is.text,
      subst (IsLeftBehind (without_limit c.args.plan.now) c.args.schema.now (cell_options c.args.options.now) is.text c.args.arrived.front) (sym same)
          (left-of-front c.args.plan.now c.args.schema.now (cell_options c.args.options.now) records c.args.arrived c.requires.left.1 is),
    )

pub returns : goal.returns
returns g c = λ records small is.
    let same : c.as_slice-left.result.now ≡ c.args.arrived.left.items = c.as_slice-left.ensures.value ∙ ap (λ (v : Vec ℕ Global). v.items) (c.value.ensures ∙ c.in-Ok.ensures.0.1) in
    let behind =
    subst (IsLeftBehind (without_limit c.args.plan.now) c.args.schema.now (cell_options c.args.options.now) is.text c.args.arrived.front) (sym same)
    (left-of-front c.args.plan.now c.args.schema.now (cell_options c.args.options.now) records c.args.arrived small is) in
    let plan = c.args.plan.now in
    let schema = c.args.schema.now in
    let o = cell_options c.args.options.now in
    if_ok c.print_rows_left.result (IsPrinted plan schema o is.text) (IsPrinted plan schema o records) is.decides (c.print_rows_left.ensures is.text behind)
