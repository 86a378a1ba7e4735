use Rattle.std.proofs.Common.{rules, [], ◌∷◌, ◌++◌, ◌∙◌, ap}
use Rattle.pl_frame.proofs.FrameLaws.{read_at}
use Rattle.pl_cells.specs.Casts.{first_fault, IsCastFault}
use Rattle.pl_cells.specs.CastPlaces.{placed_cast}
use Rattle.pl_cells.proofs.CastLaws.{refused_first, faultless_more, row_made}
use Rattle.pl_cells.proofs.casts.put_casts.Goals as goal

pub returns-in_err-cast-clause-refused : goal.returns-in_err-cast-clause-refused
returns-in_err-cast-clause-refused c =
    let fields = c.args.to_cast.now in
    let at = read_at fields c.loop-field.field-index c.field-item.result c.loop-field-test.true c.field-item.is in
    let wrong : IsCastFault (first_fault c.args.ignore_errors c.args.columns.now c.args.to_cast.now) c.in_err-cast.field-0.0 =
    refused_first c.args.ignore_errors c.args.columns.now fields c.loop-field.field-index c.field-item.result _ at c.loop-field.invariant.faultless c.in_err-cast.ensures.refused in
    search (rules, wrong)

pub loop-field-preserved : goal.loop-field-preserved
loop-field-preserved c =
    let fields = c.args.to_cast.now in
    let at = read_at fields c.loop-field.field-index c.field-item.result c.loop-field-test.true c.field-item.is in
    record {
      made = row_made (placed_cast c.args.columns.now) fields _ _ c.loop-field.field-index c.field-item.result at c.loop-field.invariant.made (c.in_ok-push_cast.ensures.pushed ∙ ap (λ k. c.loop-field.casts.items ++ k ∷ []) c.in_ok-cast.ensures.made);
      faultless = faultless_more c.args.ignore_errors c.args.columns.now fields c.loop-field.field-index c.field-item.result at c.loop-field.invariant.faultless c.in_ok-cast.ensures.faultless;
    }
