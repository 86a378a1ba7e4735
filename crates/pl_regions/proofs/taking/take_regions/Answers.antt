use Rattle.std.proofs.Common.{◌≡◌, ◌++◌, [], ◌∷◌, map, get_or, ℕ, List, Bor, not, sym, ◌∙◌, ap, subst, arith}
use Rattle.std.specs.Prelude.{All}
use Rattle.std.proofs.lemmas.List.{get_or-map, length-map}
use Rattle.std.proofs.lemmas.List.Elements.{All-push}
use Rattle.pl_write.specs.Options.{cell_options}
use Rattle.pl_regions.specs.Regions.{IsRegionOf}
use Rattle.pl_regions.proofs.RegionLaws.{ok-holds}
use Rattle.pl_regions.proofs.taking.take_regions.Goals as goal

pub loop-preserved : goal.loop-preserved
loop-preserved c =
    let texts = map (λ text. text.now) c.args.texts.now in
    let P = IsRegionOf c.args.plan.now c.args.schema.now (cell_options c.args.options.now) texts in
    let region = c.printed-region.result in
    let taken = c.loop.taken.items in
    let pushed = c.is_err.ensures.negation ∙ ap not c.if-is_err.false in
    let items : c.push.new.items.items ≡ taken ++ region ∷ [] = ok-holds c.push.result (c.push.new.items.items ≡ taken ++ region ∷ []) pushed c.push.ensures.pushed in
    let own : P region = record {
      inside = omega (arith, c.if-place-texts.false, c.printed-region.ensures.place, length-map c.args.texts.now (λ (t : Bor (List ℕ)). t.now));
      text_is = c.printed-region.ensures.text ∙ sym (ap (λ k. get_or texts k []) c.printed-region.ensures.place ∙ get_or-map (λ (t : Bor (List ℕ)). t.now) c.args.texts.now c.fetch_add-place.result _ [] (omega (arith, c.if-place-texts.false)));
      printed = c.printed-region.ensures.printed;
    } in
    subst (All P) (sym items) (All-push P taken region c.loop.invariant own)
