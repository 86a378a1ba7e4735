use Rattle.std.proofs.Common.{ℕ, List, Option, Some, rules, sym, ◌∙◌, ap, subst}
use Rattle.std.specs.List.{position}
use Rattle.std.specs.Str.{bytes_eq}
use Rattle.pl_frame.specs.declared.error.ComputeFault.{ComputeFault}
use Rattle.pl_frame.specs.Frame.{ColumnValue}
use Rattle.pl_frame.proofs.FrameLaws.{read_at}
use Rattle.pl_cells.specs.Casts.{IsCastFault, field_fault}
use Rattle.pl_cells.proofs.CastLaws.{placed_there, fault_there, placed_nowhere, fault_nowhere}
use Rattle.pl_cells.proofs.casts.cast_field.Goals as goal

abbrev place_of : List ColumnValue → List ℕ → Option ℕ
place_of columns name = position (λ (c : ColumnValue). bytes_eq name c.name) columns

pub returns-in_err-cast-in-Some-clause-refused : goal.returns-in_err-cast-in-Some-clause-refused
returns-in_err-cast-in-Some-clause-refused c =
    let columns = c.args.columns.now in
    let at = read_at columns c.in-Some.place c.index-columns-place.result c.in-Some.ensures.within c.index-columns-place.is in
    let same = fault_there c.args.ignore_errors columns c.args.field.now c.in-Some.place c.index-columns-place.result (ap (place_of columns) (sym c.as_str.ensures) ∙ sym c.in-Some.ensures.place) at in
    let wrong : IsCastFault (field_fault c.args.ignore_errors c.args.columns.now c.args.field.now) c.in_err-cast-in-Some.field-0.0 =
    subst (λ (o : Option ComputeFault). IsCastFault o c.in_err-cast-in-Some.field-0.0) (sym same) c.in_err-cast-in-Some.ensures.refused in
    search (rules, wrong)

pub returns-in_ok-cast-in-Some-clause-made : goal.returns-in_ok-cast-in-Some-clause-made
returns-in_ok-cast-in-Some-clause-made c =
    let columns = c.args.columns.now in
    let at = read_at columns c.in-Some.place c.index-columns-place.result c.in-Some.ensures.within c.index-columns-place.is in
    ap (λ k. Some (c.in-Some.place, k)) c.in_ok-cast-in-Some.ensures.cast
    ∙ sym (placed_there columns c.args.field.now c.in-Some.place c.index-columns-place.result (ap (place_of columns) (sym c.as_str.ensures) ∙ sym c.in-Some.ensures.place) at)

pub returns-in_ok-cast-in-Some-clause-faultless : goal.returns-in_ok-cast-in-Some-clause-faultless
returns-in_ok-cast-in-Some-clause-faultless c =
    let columns = c.args.columns.now in
    let at = read_at columns c.in-Some.place c.index-columns-place.result c.in-Some.ensures.within c.index-columns-place.is in
    fault_there c.args.ignore_errors columns c.args.field.now c.in-Some.place c.index-columns-place.result (ap (place_of columns) (sym c.as_str.ensures) ∙ sym c.in-Some.ensures.place) at
    ∙ c.in_ok-cast-in-Some.ensures.faultless

pub returns-in-None-clause-made : goal.returns-in-None-clause-made
returns-in-None-clause-made c =
    sym (placed_nowhere c.args.columns.now c.args.field.now (ap (place_of c.args.columns.now) (sym c.as_str.ensures) ∙ sym c.place_named.ensures.place ∙ c.in-None.is))

pub returns-in-None-clause-faultless : goal.returns-in-None-clause-faultless
returns-in-None-clause-faultless c =
    fault_nowhere c.args.ignore_errors c.args.columns.now c.args.field.now (ap (place_of c.args.columns.now) (sym c.as_str.ensures) ∙ sym c.place_named.ensures.place ∙ c.in-None.is)
