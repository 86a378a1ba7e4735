use Rattle.std.proofs.Common.{◌≡◌, ◌++◌, [], ◌∷◌, get_or, not, sym, ◌∙◌, ap, subst, arith}
use Rattle.std.specs.Prelude.{All}
use Rattle.std.proofs.lemmas.List.Elements.{All-push}
use Rattle.pl_write.specs.Options.{cell_options}
use Rattle.pl_regions.specs.Arriving.{IsTaken}
use Rattle.pl_regions.specs.declared.taken.Taken.{Taken}
use Rattle.pl_regions.proofs.RegionLaws.{ok-holds}
use Rattle.pl_regions.proofs.texts.take_texts.Goals as goal

pub loop-preserved : goal.loop-preserved
loop-preserved g c =
    let P = IsTaken c.args.plan.now c.args.schema.now (cell_options c.args.options.now) c.args.cells.now in
    let one : Taken = record { region = c.printed-region.result; token = c.in-Some.field-0.token } in
    let taken = c.loop.taken.items in
    let pushed = c.is_err.ensures.negation ∙ ap not c.if-is_err.false in
    let items : c.push.new.items.items ≡ taken ++ one ∷ [] = ok-holds c.push.result (c.push.new.items.items ≡ taken ++ one ∷ []) pushed c.push.ensures.pushed in
    let own : P one = record {
      inside = omega (arith, c.in-Some.ensures.inside, c.printed-region.ensures.place);
      of = λ d. c.in-Some.ensures.of d ∙ ap (λ n. (get_or c.args.cells.now n d).id) (sym c.printed-region.ensures.place);
      text_is = c.printed-region.ensures.text ∙ c.as_slice-text.ensures.value ∙ ap (λ text. text.items) c.value.ensures;
      printed = c.printed-region.ensures.printed;
    } in
    subst (All P) (sym items) (All-push P taken one c.loop.invariant own)
